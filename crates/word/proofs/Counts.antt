-- Counts of the bits of a number of two halves of k bits, and powers of two. Assumes nothing.
use Rattle.std.proofs.Common.{◌≡◌, ℕ, zero, suc, ◌+◌, ◌-◌, ◌*◌, ◌/◌, ◌%◌, ◌^◌, ◌<◌, ◌≤◌, true, ◌⊎◌, sym, refl, ap, ◌∙◌, subst, inl, inr, ⊎_elim, mul-le-mul_right, suc-mul, mul_comm, suc-add, pow-suc, zero-add, mul-one, arith, pow-add, eqb-true}
use lib.Bits.{block_half, block_odd, shifted_half, shifted_even}
use lib.Count.{count_leading_zeros, count_trailing_zeros, ones, under, leading_le, leading_top, leading_length, leading_unique, ones_step}
use Rattle.word.specs.Value.{is_power_of_two}
use Rattle.word.proofs.Integer.{lt-or-ge}

-- ---- leading zeros

pub leading_high : (k h l : ℕ) → 0 < h → h < 2 ^ k → l < 2 ^ k → count_leading_zeros k h ≡ count_leading_zeros (k + k) (h * 2 ^ k + l)
leading_high k h l p f g =
    let t = leading_top k h p f in
    let j = t.0 in
    let e : 2 ^ (suc j + k) ≡ 2 ^ suc j * 2 ^ k = pow-add 2 (suc j) k in
    let d : 2 ^ suc j * 2 ^ k ≡ 2 ^ j * 2 ^ k + 2 ^ j * 2 ^ k =
    ap (λ (n : ℕ). n * 2 ^ k) (pow-suc 2 j) ∙ simp mul_comm (omega arith) in
    let up : suc h * 2 ^ k ≤ 2 ^ suc j * 2 ^ k = mul-le-mul_right (2 ^ k) t.3 in
    let down : 2 ^ j * 2 ^ k ≤ h * 2 ^ k = mul-le-mul_right (2 ^ k) t.2 in
    leading_unique (k + k) (h * 2 ^ k + l) (count_leading_zeros k h) (suc j + k) (omega (arith, t.1)) (omega (arith, e, suc-mul h (2 ^ k))) (omega (arith, e, d))

pub leading_low : (k l : ℕ) → l < 2 ^ k → k + count_leading_zeros k l ≡ count_leading_zeros (k + k) l
leading_low k l f =
    let t = leading_length k l f in
    leading_unique (k + k) l (k + count_leading_zeros k l) t.0 (omega (arith, t.1)) t.2 t.3

-- the bits from the highest set one down hold a number
pub bits_hold : (k n : ℕ) → n < 2 ^ k → n < 2 ^ (k - count_leading_zeros k n)
bits_hold k n f = let t = leading_length k n f in let e : k - count_leading_zeros k n ≡ t.0 = omega (arith, t.1) in rw e t.2

-- their number, by halves
pub bits_high : (k h l : ℕ) → 0 < h → h < 2 ^ k → l < 2 ^ k → k - count_leading_zeros k h + k ≡ k + k - count_leading_zeros (k + k) (h * 2 ^ k + l)
bits_high k h l p f g = rw (← leading_high k h l p f g) (omega (arith, leading_le k h))

pub bits_low : (k l : ℕ) → l < 2 ^ k → k - count_leading_zeros k l ≡ k + k - count_leading_zeros (k + k) l
bits_low k l f = rw (← leading_low k l f) (omega (arith, leading_le k l))

-- ---- trailing zeros

under_same : (d t u : ℕ) → (d ≡ 0 → t ≡ u) → under d t ≡ under d u
under_same zero t u h = ap suc (h refl)
under_same (suc d) t u h = refl

-- the low half decides where it is not 0
pub trailing_low : (j k h l : ℕ) → 0 < l → l < 2 ^ k → count_trailing_zeros k l ≡ count_trailing_zeros (k + j) (h * 2 ^ k + l)
unfolding count_trailing_zeros
trailing_low j zero h l p f = absurd (omega arith)
trailing_low j (suc k) h l p f =
    let b : l / 2 < 2 ^ k = omega (arith, pow-suc 2 k) in
    subst (λ (w : ℕ). under (l % 2) (count_trailing_zeros k (l / 2)) ≡ count_trailing_zeros w (h * 2 ^ suc k + l)) (sym (suc-add k j))
    (under_same (l % 2) (count_trailing_zeros k (l / 2)) (count_trailing_zeros (k + j) (h * 2 ^ k + l / 2)) (λ e. trailing_low j k h (l / 2) (omega arith) b)
    ∙ (λ i. under (sym (block_odd h k l) i) (count_trailing_zeros (k + j) (sym (block_half h k l) i))))

-- a low half of 0 counts whole
pub trailing_high : (j k h : ℕ) → k + count_trailing_zeros j h ≡ count_trailing_zeros (k + j) (h * 2 ^ k)
unfolding count_trailing_zeros
trailing_high j zero h = zero-add (count_trailing_zeros j h) ∙ (λ i. count_trailing_zeros (sym (zero-add j) i) (sym (mul-one h) i))
trailing_high j (suc k) h =
    subst (λ (w : ℕ). suc k + count_trailing_zeros j h ≡ count_trailing_zeros w (h * 2 ^ suc k)) (sym (suc-add k j))
    (suc-add k (count_trailing_zeros j h) ∙ ap suc (trailing_high j k h)
    ∙ (λ i. under (sym (shifted_even h k) i) (count_trailing_zeros (k + j) (sym (shifted_half h k) i))))

-- ---- powers of two

no_ones : (d n : ℕ) → n ≤ d → ones n ≡ 0 → n ≡ 0
no_ones zero n h e = omega arith
no_ones (suc d) n h e =
    let s : n % 2 + ones (n / 2) ≡ 0 = sym (ones_step n) ∙ e in
    let r : n / 2 ≡ 0 = no_ones d (n / 2) (omega arith) (omega arith) in
    omega arith

ones_of_zero : (n : ℕ) → n ≡ 0 → ones n ≡ 1 → ⊥
unfolding ones
ones_of_zero n z e = let w : ◌≡◌ {A = ℕ} 0 1 = ap ones (sym z) ∙ e in omega arith

-- the power that a number with one set bit is
one_bit : (d n : ℕ) → n ≤ d → ones n ≡ 1 → (k : ℕ) × (n ≡ 2 ^ k)
one_bit zero n h e = absurd (ones_of_zero n (omega arith) e)
one_bit (suc d) n h e =
    let s : n % 2 + ones (n / 2) ≡ 1 = sym (ones_step n) ∙ e in
    ⊎_elim
    (λ (o : n % 2 ≡ 1). let r : n / 2 ≡ 0 = no_ones n (n / 2) (omega arith) (omega arith) in (0, omega arith))
    (λ (o : n % 2 ≡ 0).
    let r = one_bit d (n / 2) (half_below d n h e) (omega arith) in
    (suc r.0, omega (arith, r.1, pow-suc 2 r.0)))
    (last n)
  where
    last : (n : ℕ) → (n % 2 ≡ 1) ⊎ (n % 2 ≡ 0)
    last n = ⊎_elim (λ (l : n % 2 < 1). inr (omega arith)) (λ (l : 1 ≤ n % 2). inl (omega arith)) (lt-or-ge (n % 2) 1)

    half_below : (d n : ℕ) → n ≤ suc d → ones n ≡ 1 → n / 2 ≤ d
    half_below d n h e = omega arith

-- what `is_power_of_two` says: n is 2 ^ k for some k
pub power_of_two : (n : ℕ) → is_power_of_two n ≡ true → (k : ℕ) × (n ≡ 2 ^ k)
unfolding is_power_of_two
power_of_two n t = one_bit n n (omega arith) (eqb-true (ones n) 1 t)

-- Fields of w bits, w a parameter: what is left of a wider pattern, the top bit, and both readings by it. Assumes nothing.
use mathlib.Core.Path.{◌≡◌, sym, ap, ◌∙◌, subst, subst₂}
use mathlib.Core.Bool.{Bool, true, false}
use mathlib.Core.Logic.{◌↔◌, ⊎_elim}
use Prim.Native.Nat.{ℕ, zero, suc, ◌+◌, ◌-◌, ◌*◌, ◌/◌, ◌%◌, ◌^◌, ◌<◌, ◌≤◌}
use native.Mathlib.Nat.{add-zero, add-mul, suc-mul, mul-le-mul_right, mul-mod_left, mod-lt, mod-add-mod, mod-eq_of_lt, div-eq_of_lt, div-eq_of_lt-le, zero-mod, sub-add_cancel, add-sub_of_le, lt_of_lt_of_le, le_of_lt}
use native.Mathlib.Omega.{arith}
use borrow.Author.Tests.{lt-ltb, ltb-true}
use lib.IntN.{ℤ, pos, negsuc, neg_ℤ}
use lib.Pow.{pow_pos, pow_mono, pow-add, ones_lt, shl_lt, shl-shr, high, mod-pow-add, mod-mod-pow}
use lib.Signed.{mag, shr_z}
use Rattle.word.specs.Value.{residue, signed, fits}
use Rattle.word.proofs.Integer.{parts, residue_difference, residue_unique, residue-neg, residue-pos, half_twice, signed_low, signed_high, lt-or-ge}
use Rattle.evaluate.specs.Evaluate.{extended}
use Rattle.evaluate.specs.SmtLib.{bvneg, msb}

-- ---- the low w bits of a pattern of v bits

pub narrow : (n v w : ℕ) → w ≤ v → n % 2 ^ v % 2 ^ w ≡ n % 2 ^ w
narrow n v w h = subst (λ (u : ℕ). n % 2 ^ u % 2 ^ w ≡ n % 2 ^ w) (sub-add_cancel h) (mod-mod-pow n (v - w) w)

pub residue-narrow : (z : ℤ) (v w : ℕ) → w ≤ v → residue v z % 2 ^ w ≡ residue w z
residue-narrow z v w h =
    let (p, q, d) = parts z in
    residue_unique w z p q (residue v z % 2 ^ w) d (mod-lt (residue v z) (pow_pos w))
    (mod-add-mod (residue v z) (2 ^ w) q ∙ sym (narrow (residue v z + q) v w h)
    ∙ ap (λ (n : ℕ). n % 2 ^ w) (residue_difference v z p q d) ∙ narrow p v w h)

-- the opposite of n modulo 2 ^ w
pub negated : (w n : ℕ) → n < 2 ^ w → bvneg w n ≡ residue w (neg_ℤ (pos n))
negated w n h = ap (bvneg w) (sym (residue-pos w n h)) ∙ residue-neg w (pos n)

pub negated_some : (w n : ℕ) → 0 < n → n ≤ 2 ^ w → bvneg w n ≡ 2 ^ w - n
negated_some w n p h = mod-eq_of_lt (omega arith)

-- ---- the top bit

-- half of the numbers of w bits
pub halves : (w : ℕ) → 0 < w → (0 < 2 ^ (w - 1)) × (2 ^ w ≡ 2 ^ (w - 1) + 2 ^ (w - 1))
halves w p = (pow_pos (w - 1), half_twice w p)

-- what a stands for where its top bit is set
abbrev pub negative : ℕ → ℕ → ℤ
negative w a = negsuc (2 ^ w - suc a)

module _ (w a : ℕ) where
  msb_low : a < 2 ^ (w - 1) → msb w a ≡ false
  msb_low h = rw (div-eq_of_lt h, zero-mod)

  module _ (some-width : 0 < w) (below : a < 2 ^ w) where
    msb_high : 2 ^ (w - 1) ≤ a → msb w a ≡ true
    msb_high h =
        let t = halves w some-width in
        let e : w - 1 - (w - 1) + 1 ≡ 1 = omega arith in
        let q : a / 2 ^ (w - 1) ≡ 1 = div-eq_of_lt-le (2 ^ (w - 1)) (omega arith) (omega arith) in
        rw (q, e)

    -- a law of a field's top bit and of what it stands for: the bit clear, and set
    pub by_top : (P : Bool → ℤ → Type 0) → (a < 2 ^ (w - 1) → P false (pos a))
        → (2 ^ (w - 1) ≤ a → P true (negative w a)) → P (msb w a) (signed w a)
    by_top P clear set =
        ⊎_elim (λ (h : a < 2 ^ (w - 1)). subst₂ P (sym (msb_low h)) (sym (signed_low w a h)) (clear h))
        (λ (h : 2 ^ (w - 1) ≤ a). subst₂ P (sym (msb_high h)) (sym (signed_high w a h below)) (set h)) (lt-or-ge a (2 ^ (w - 1)))

-- the same of two fields: both bits clear, the first one set, the second one set, both set
pub by_tops : (w a b : ℕ) → 0 < w → a < 2 ^ w → b < 2 ^ w → (P : Bool → Bool → ℤ → ℤ → Type 0)
    → (a < 2 ^ (w - 1) → b < 2 ^ (w - 1) → P false false (pos a) (pos b))
    → (2 ^ (w - 1) ≤ a → b < 2 ^ (w - 1) → P true false (negative w a) (pos b))
    → (a < 2 ^ (w - 1) → 2 ^ (w - 1) ≤ b → P false true (pos a) (negative w b))
    → (2 ^ (w - 1) ≤ a → 2 ^ (w - 1) ≤ b → P true true (negative w a) (negative w b))
    → P (msb w a) (msb w b) (signed w a) (signed w b)
by_tops w a b p l m P neither first second both =
    by_top w a p l (λ (s : Bool) (x : ℤ). P s (msb w b) x (signed w b))
    (λ f. by_top w b p m (λ (t : Bool) (y : ℤ). P false t (pos a) y) (neither f) (second f))
    (λ f. by_top w b p m (λ (t : Bool) (y : ℤ). P true t (negative w a) y) (first f) (both f))

-- fewer bits than v are no integer below 0 in v bits
pub signed-narrow : (w v a : ℕ) → w < v → a < 2 ^ w → signed v a ≡ pos a
signed-narrow w v a h l =
    let j : w ≤ v - 1 = omega arith in signed_low v a (lt_of_lt_of_le l (pow_mono j))

-- ---- the low w bits, shifted to the top of w + k bits and back

shifted_up : (v w k : ℕ) → v * 2 ^ k % 2 ^ (w + k) ≡ v % 2 ^ w * 2 ^ k
shifted_up v w k =
    mod-pow-add (v * 2 ^ k) w k
    ∙ (λ i. shl-shr v k i % 2 ^ w * 2 ^ k + mul-mod_left v (2 ^ k) i) ∙ add-zero (v % 2 ^ w * 2 ^ k)

shifted_low : (n w k : ℕ) → 0 < w → n < 2 ^ (w - 1) → shr_z (signed (w + k) (n * 2 ^ k)) (2 ^ k) ≡ pos n
shifted_low n w k p h =
    let e : w + k - 1 ≡ w - 1 + k = omega arith in
    ap (λ (z : ℤ). shr_z z (2 ^ k)) (signed_low (w + k) (n * 2 ^ k) (rw e (shl_lt (w - 1) k h))) ∙ ap pos (shl-shr n k)

shifted_high : (n w k : ℕ) → 0 < w → n < 2 ^ w → 2 ^ (w - 1) ≤ n → shr_z (signed (w + k) (n * 2 ^ k)) (2 ^ k) ≡ negative w n
shifted_high n w k p l h =
    let e : 2 ^ (w + k - 1) ≡ 2 ^ (w - 1) * 2 ^ k = ap (λ (j : ℕ). 2 ^ j) (omega arith) ∙ pow-add 2 (w - 1) k in
    let m : ℕ = 2 ^ w - suc n in
    let t : 2 ^ (w + k) ≡ m * 2 ^ k + (n * 2 ^ k + 2 ^ k) =
    pow-add 2 w k ∙ ap (λ (j : ℕ). j * 2 ^ k) (omega arith) ∙ add-mul m (suc n) (2 ^ k) ∙ ap (λ (j : ℕ). m * 2 ^ k + j) (suc-mul n (2 ^ k)) in
    let f : 0 < 2 ^ k = pow_pos k in
    ap (λ (z : ℤ). shr_z z (2 ^ k)) (signed_high (w + k) (n * 2 ^ k) (rw e (mul-le-mul_right (2 ^ k) h)) (shl_lt w k l))
    ∙ ap (λ (j : ℕ). negsuc (j / 2 ^ k)) (omega arith) ∙ ap negsuc (high m k (ones_lt k))

-- `extended` reads the low w bits in two's complement
pub extended-signed : (v w : ℕ) → 0 < w → w ≤ 128 → extended w v ≡ signed w (v % 2 ^ w)
extended-signed v w p h = over 128 h
  where
    over : (m : ℕ) → w ≤ m → shr_z (signed m (v * 2 ^ (m - w) % 2 ^ m)) (2 ^ (m - w)) ≡ signed w (v % 2 ^ w)
    over m h =
        let k : ℕ = m - w in
        let n : ℕ = v % 2 ^ w in
        let l : n < 2 ^ w = mod-lt v (pow_pos w) in
        subst (λ (j : ℕ). shr_z (signed j (v * 2 ^ k % 2 ^ j)) (2 ^ k) ≡ signed w n) (add-sub_of_le h)
        (ap (λ (x : ℕ). shr_z (signed (w + k) x) (2 ^ k)) (shifted_up v w k)
        ∙ by_top w n p l (λ (s : Bool) (z : ℤ). shr_z (signed (w + k) (n * 2 ^ k)) (2 ^ k) ≡ z) (shifted_low n w k p) (shifted_high n w k p l))

-- of a field, all of it
pub extended-field : (a w : ℕ) → 0 < w → w ≤ 128 → a < 2 ^ w → extended w a ≡ signed w a
extended-field a w p h l = extended-signed a w p h ∙ ap (signed w) (mod-eq_of_lt l)

-- ---- what fits

pub fits_below : (z : ℤ) → (fits z ≡ true) ↔ (mag z < 2 ^ 127)
unfolding fits
fits_below z = (ltb-true (mag z) (2 ^ 127), lt-ltb (mag z) (2 ^ 127))

-- -n, for n at most h, is not below -h
pub negative_below : (n h : ℕ) → 0 < h → n ≤ h → mag (neg_ℤ (pos n)) < h
negative_below zero h p l = p
negative_below (suc n) h p l = l

-- the opposite fits, unless a stands for the least integer
pub negate_fits : (w a : ℕ) → 0 < w → a < 2 ^ w → (mag (neg_ℤ (signed w a)) < 2 ^ (w - 1)) ↔ (a ≡ 2 ^ (w - 1) → ⊥)
negate_fits w a p l =
    let t = halves w p in
    by_top w a p l (λ (s : Bool) (z : ℤ). (mag (neg_ℤ z) < 2 ^ (w - 1)) ↔ (a ≡ 2 ^ (w - 1) → ⊥))
    (λ f. (λ h q. omega arith, λ n. negative_below a (2 ^ (w - 1)) t.0 (le_of_lt f)))
    (λ f. (λ h q. omega arith, λ n. omega arith))

-- A number by its bits: two numbers with the same bits are equal, and each operation read bit by bit, at any width. Assumes nothing.
use mathlib.Core.Path.{◌≡◌, refl, sym, ap, ◌∙◌, subst}
use Prim.Native.Nat.{ℕ, zero, suc, ◌+◌, ◌-◌, ◌*◌, ◌/◌, ◌%◌, ◌^◌, ◌≤◌, ◌<◌, min, max}
use native.Mathlib.Nat.{mod-lt, zero-div, div-one, div-add-mod', add_comm, add-zero, div-eq_of_lt, two-pow-succ, lt_of_lt_of_le}
use native.Mathlib.Numerals.{add-one}
use native.Mathlib.Omega.{arith}
use lib.Arith.{bin_ind, digits_div, digits_mod}
use lib.Bits.{bit_and, bit_or, bit_xor, and_shr, or_shr, xor_shr, and_mod, or_mod, xor_mod}
use lib.Pow.{shr-shr, pow_mono, pow_pos, field, mod-mod-pow, high, low}
use Rattle.bit_laws.specs.Bit.{bit}

pub bit-lt : (n i : ℕ) → bit n i < 2
unfolding bit
bit-lt n i = mod-lt (n / 2 ^ i) (omega arith)

bit_low : (n : ℕ) → bit n 0 ≡ n % 2
unfolding bit
bit_low n = ap (λ (m : ℕ). m % 2) (div-one n)

bit_half : (n i : ℕ) → bit (n / 2) i ≡ bit n (suc i)
unfolding bit
bit_half n i = ap (λ (m : ℕ). m % 2) (shr-shr n 1 i ∙ ap (λ (k : ℕ). n / 2 ^ k) (add_comm 1 i ∙ add-one i))

pub bit-zero : (i : ℕ) → bit 0 i ≡ 0
unfolding bit
bit-zero i = ap (λ (m : ℕ). m % 2) (zero-div (2 ^ i))

-- ---- extensionality

no_bits_lem : (n : ℕ) → ((i : ℕ) → bit n i ≡ 0) → n ≡ 0
no_bits_lem =
    bin_ind (λ (n : ℕ). ((i : ℕ) → bit n i ≡ 0) → n ≡ 0) (λ h. refl)
    (λ n ih h. omega (arith, div-add-mod' n 2, sym (bit_low n) ∙ h 0, ih (λ i. bit_half n i ∙ h (suc i))))

pub bit_ext : (a b : ℕ) → ((i : ℕ) → bit a i ≡ bit b i) → a ≡ b
bit_ext =
    bin_ind (λ (n : ℕ). (b : ℕ) → ((i : ℕ) → bit n i ≡ bit b i) → n ≡ b) (λ b h. sym (no_bits_lem b (λ i. sym (h i) ∙ bit-zero i)))
    (λ n ih b h.
    omega (arith, div-add-mod' n 2, div-add-mod' b 2, sym (bit_low n) ∙ h 0 ∙ bit_low b, ih (b / 2) (λ i. bit_half n i ∙ h (suc i) ∙ sym (bit_half b i))))

-- ---- and, or, exclusive or

digit : (f : ℕ → ℕ → ℕ) (r : ℕ → ℕ → ℕ) → f 0 0 ≡ r 0 0 → f 0 1 ≡ r 0 1 → f 1 0 ≡ r 1 0 → f 1 1 ≡ r 1 1 → (x y : ℕ) → x < 2 → y < 2 → f x y ≡ r x y
digit f r a b c d zero zero p q = a
digit f r a b c d zero (suc zero) p q = b
digit f r a b c d (suc zero) zero p q = c
digit f r a b c d (suc zero) (suc zero) p q = d
digit f r a b c d zero (suc (suc y)) p q = absurd (omega arith)
digit f r a b c d (suc zero) (suc (suc y)) p q = absurd (omega arith)
digit f r a b c d (suc (suc x)) y p q = absurd (omega arith)

module _ (a b i : ℕ) where
  small_a : a / 2 ^ i % 2 < 2
  small_a = mod-lt (a / 2 ^ i) (omega arith)

  small_b : b / 2 ^ i % 2 < 2
  small_b = mod-lt (b / 2 ^ i) (omega arith)

  pub bit-and : bit (bit_and a b) i ≡ min (bit a i) (bit b i)
  unfolding bit
  bit-and =
      ap (λ (n : ℕ). n % 2) (and_shr a b i) ∙ and_mod (a / 2 ^ i) (b / 2 ^ i) 1
      ∙ digit bit_and min refl refl refl refl (a / 2 ^ i % 2) (b / 2 ^ i % 2) small_a small_b

  pub bit-or : bit (bit_or a b) i ≡ max (bit a i) (bit b i)
  unfolding bit
  bit-or =
      ap (λ (n : ℕ). n % 2) (or_shr a b i) ∙ or_mod (a / 2 ^ i) (b / 2 ^ i) 1
      ∙ digit bit_or max refl refl refl refl (a / 2 ^ i % 2) (b / 2 ^ i % 2) small_a small_b

  -- 1 if the two bits differ
  pub bit-xor : bit (bit_xor a b) i ≡ (bit a i + bit b i) % 2
  unfolding bit
  bit-xor =
      ap (λ (n : ℕ). n % 2) (xor_shr a b i) ∙ xor_mod (a / 2 ^ i) (b / 2 ^ i) 1
      ∙ digit bit_xor (λ x y. (x + y) % 2) refl refl refl refl (a / 2 ^ i % 2) (b / 2 ^ i % 2) small_a small_b

-- ---- shifts, remainders, and two numbers side by side

pub bit_big : (x w i : ℕ) → x < 2 ^ w → w ≤ i → bit x i ≡ 0
unfolding bit
bit_big x w i l q = ap (λ (n : ℕ). n % 2) (div-eq_of_lt (lt_of_lt_of_le l (pow_mono q)))

pub bit-shr : (x k i : ℕ) → bit (x / 2 ^ k) i ≡ bit x (k + i)
unfolding bit
bit-shr x k i = ap (λ (n : ℕ). n % 2) (shr-shr x k i)

mod-bit : (x j i : ℕ) → bit (x % 2 ^ (suc j + i)) i ≡ bit x i
unfolding bit
mod-bit x j i = ap (λ (n : ℕ). n % 2) (field x (suc j) i) ∙ ap (λ (n : ℕ). x / 2 ^ i % 2 ^ n % 2) (sym (add-one j)) ∙ mod-mod-pow (x / 2 ^ i) j 1

pub bit-mod : (x w i : ℕ) → i < w → bit (x % 2 ^ w) i ≡ bit x i
bit-mod x w i l = let e : suc (w - suc i) + i ≡ w = omega arith in ap (λ (n : ℕ). bit (x % 2 ^ n) i) (sym e) ∙ mod-bit x (w - suc i) i

pub bit-mod_big : (x w i : ℕ) → w ≤ i → bit (x % 2 ^ w) i ≡ 0
bit-mod_big x w i l = bit_big (x % 2 ^ w) w i (mod-lt x (pow_pos w)) l

pub bit_high : (h l k i : ℕ) → l < 2 ^ k → bit (h * 2 ^ k + l) (k + i) ≡ bit h i
bit_high h l k i q = sym (bit-shr (h * 2 ^ k + l) k i) ∙ ap (λ (n : ℕ). bit n i) (high h k q)

pub bit_low_part : (h l k i : ℕ) → l < 2 ^ k → i < k → bit (h * 2 ^ k + l) i ≡ bit l i
bit_low_part h l k i q p = sym (bit-mod (h * 2 ^ k + l) k i p) ∙ ap (λ (n : ℕ). bit n i) (low h k q)

pub bit-shl : (x k i : ℕ) → bit (x * 2 ^ k) (k + i) ≡ bit x i
bit-shl x k i = ap (λ (n : ℕ). bit n (k + i)) (sym (add-zero (x * 2 ^ k))) ∙ bit_high x 0 k i (pow_pos k)

pub bit-shl_low : (x k i : ℕ) → i < k → bit (x * 2 ^ k) i ≡ 0
bit-shl_low x k i l = ap (λ (n : ℕ). bit n i) (sym (add-zero (x * 2 ^ k))) ∙ bit_low_part x 0 k i (pow_pos k) l ∙ bit-zero i

-- ---- the complement within w bits

not_half : (N k : ℕ) → k < N + N → N + N - 1 - k ≡ (N - 1 - k / 2) * 2 + (1 - k % 2)
not_half N k l = omega (arith, div-add-mod' k 2, mod-lt k two)
  where
    two : 0 < 2
    two = omega arith

half_lt : (N k : ℕ) → k < N + N → k / 2 < N
half_lt N k l = omega (arith, div-add-mod' k 2)

pub bit_not : (w k i : ℕ) → k < 2 ^ w → i < w → bit (2 ^ w - 1 - k) i ≡ 1 - bit k i
bit_not zero k i l q = absurd (omega arith)
bit_not (suc w) k i l q =
    let lk : k < 2 ^ w + 2 ^ w = subst (λ (n : ℕ). k < n) (two-pow-succ w) l in
    let s : 2 ^ suc w - 1 - k ≡ (2 ^ w - 1 - k / 2) * 2 + (1 - k % 2) = ap (λ (n : ℕ). n - 1 - k) (two-pow-succ w) ∙ not_half (2 ^ w) k lk in
    go i q s (λ j p. bit_not w (k / 2) j (half_lt (2 ^ w) k lk) p)
  where
    go : (i : ℕ) → i < suc w → 2 ^ suc w - 1 - k ≡ (2 ^ w - 1 - k / 2) * 2 + (1 - k % 2)
        → ((j : ℕ) → j < w → bit (2 ^ w - 1 - k / 2) j ≡ 1 - bit (k / 2) j) → bit (2 ^ suc w - 1 - k) i ≡ 1 - bit k i
    go zero q s ih =
        bit_low (2 ^ suc w - 1 - k) ∙ ap (λ (n : ℕ). n % 2) s ∙ digits_mod (2 ^ w - 1 - k / 2) (omega arith) ∙ ap (λ (n : ℕ). 1 - n) (sym (bit_low k))
    go (suc j) q s ih =
        sym (bit_half (2 ^ suc w - 1 - k) j) ∙ ap (λ (n : ℕ). bit (n / 2) j) s ∙ ap (λ (n : ℕ). bit n j) (digits_div (2 ^ w - 1 - k / 2) (omega arith))
        ∙ ih j (omega arith) ∙ ap (λ (n : ℕ). 1 - n) (bit_half k j)

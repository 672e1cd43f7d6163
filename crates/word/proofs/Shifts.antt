-- Shifts of a number of two halves of w bits by k bits. Assumes nothing.
use Rattle.std.proofs.Common.{◌≡◌, ℕ, ◌+◌, ◌-◌, ◌*◌, ◌/◌, ◌%◌, ◌^◌, ◌<◌, ◌≤◌, sym, ap, ◌∙◌, lt_of_lt_of_le, mod-eq_of_lt, mul_comm, div-lt_iff_lt-mul, add-mul, zero-add, mul_right_comm, mul_left_comm, arith, pow_pos, pow_mono, pow-add}
use native.Mathlib.Nat.{mul-mod_right, mul-div_right, mul-add-mod_self_left, mul-add-mod_self_right, mul-add-div, mul-add-div_right, div-eq_of_lt, div-div-eq-div-mul}
use lib.Pow.{high, split, mod-pow-add, shl-shr}
use lib.Bits.{bit_or, or_comm, or_mod, or_shifted}

-- a shift by j bits in two parts: by i bits and by the rest
module _ (i j : ℕ) (h : i ≤ j) where
  pow_parts : 2 ^ j ≡ 2 ^ i * 2 ^ (j - i)
  pow_parts = let e : j ≡ i + (j - i) = omega arith in ap (λ (n : ℕ). 2 ^ n) e ∙ pow-add 2 i (j - i)

  left_parts : (v : ℕ) → v * 2 ^ j ≡ 2 ^ i * (v * 2 ^ (j - i))
  left_parts v = rw pow_parts (mul_left_comm v (2 ^ i) (2 ^ (j - i)))

  right_parts : (v : ℕ) → v / 2 ^ j ≡ v / 2 ^ i / 2 ^ (j - i)
  right_parts v = rw pow_parts (sym (div-div-eq-div-mul v (2 ^ i) (2 ^ (j - i))))

-- k bits q, below what w bits hold of h
beside : (w k h q : ℕ) → k ≤ w → q < 2 ^ k → bit_or (h * 2 ^ k % 2 ^ w) q ≡ (h * 2 ^ k + q) % 2 ^ w
beside w k h q f g =
    ap (bit_or (h * 2 ^ k % 2 ^ w)) (sym (mod-eq_of_lt (lt_of_lt_of_le g (pow_mono f))))
    ∙ sym (or_mod (h * 2 ^ k) q w) ∙ ap (λ (n : ℕ). n % 2 ^ w) (or_shifted h k q g)

-- ---- to the left

module _ (w k h l : ℕ) where
  -- what w + w bits keep, by halves
  left_halves : (h * 2 ^ w + l) * 2 ^ k % 2 ^ (w + w) ≡ (h * 2 ^ k + l * 2 ^ k / 2 ^ w) % 2 ^ w * 2 ^ w + l * 2 ^ k % 2 ^ w
  left_halves =
      rw (
        add-mul (h * 2 ^ w) l (2 ^ k),
        mul_right_comm h (2 ^ w) (2 ^ k),
        mod-pow-add (h * 2 ^ k * 2 ^ w + l * 2 ^ k) w w,
        mul-add-div_right (pow_pos w) (h * 2 ^ k) (l * 2 ^ k),
        mul-add-mod_self_right (h * 2 ^ k) (2 ^ w) (l * 2 ^ k),
      )

  -- by at most w bits
  pub left : k ≤ w → l < 2 ^ w → bit_or (h * 2 ^ k % 2 ^ w) (l / 2 ^ (w - k)) * 2 ^ w + l * 2 ^ k % 2 ^ w ≡ (h * 2 ^ w + l) * 2 ^ k % 2 ^ (w + w)
  left f g =
      let q : l / 2 ^ (w - k) < 2 ^ k = (div-lt_iff_lt-mul (pow_pos (w - k))).1 (rw (pow_parts k w f) at g) in
      let d : l * 2 ^ k / 2 ^ w ≡ l / 2 ^ (w - k) = rw (right_parts k w f (l * 2 ^ k), shl-shr l k) in
      rw (beside w k h (l / 2 ^ (w - k)) f q, ← d) (sym left_halves)

  -- by w bits or more
  pub left_half : w ≤ k → l * 2 ^ (k - w) % 2 ^ w * 2 ^ w + 0 ≡ (h * 2 ^ w + l) * 2 ^ k % 2 ^ (w + w)
  left_half f =
      sym (left_halves ∙ rw (left_parts w k f h, left_parts w k f l, mul-mod_right, mul-div_right (l * 2 ^ (k - w)) (pow_pos w), mul-add-mod_self_left))

-- by all bits or more
pub left_all : (w k v : ℕ) → w ≤ k → 0 ≡ v * 2 ^ k % 2 ^ w
left_all w k v f = rw (left_parts w k f v) (sym (mul-mod_right (2 ^ w) (v * 2 ^ (k - w))))

-- ---- to the right

module _ (w k h l : ℕ) (low : l < 2 ^ w) where
  -- by at most w bits
  pub right : k ≤ w → h / 2 ^ k * 2 ^ w + bit_or (l / 2 ^ k) (h * 2 ^ (w - k) % 2 ^ w) ≡ (h * 2 ^ w + l) / 2 ^ k
  right f =
      let n = (h * 2 ^ w + l) / 2 ^ k in
      let q : l / 2 ^ k < 2 ^ (w - k) = (div-lt_iff_lt-mul (pow_pos k)).1 (rw (pow_parts k w f, mul_comm (2 ^ k)) at low) in
      let e : n ≡ h * 2 ^ (w - k) + l / 2 ^ k = rw (left_parts k w f h) (mul-add-div (pow_pos k) (h * 2 ^ (w - k)) l) in
      let d : n / 2 ^ w ≡ h / 2 ^ k = rw (div-div-eq-div-mul, mul_comm (2 ^ k), ← div-div-eq-div-mul, high h w low) in
      rw (or_comm (l / 2 ^ k), beside w (w - k) h (l / 2 ^ k) (omega arith) q, ← e, ← d) (split n w)

  -- by w bits or more
  pub right_half : w ≤ k → 0 + h / 2 ^ (k - w) ≡ (h * 2 ^ w + l) / 2 ^ k
  right_half f = rw (zero-add, right_parts w k f (h * 2 ^ w + l), high h w low)

-- by all bits or more
pub right_all : (w k v : ℕ) → v < 2 ^ w → w ≤ k → 0 ≡ v / 2 ^ k
right_all w k v f g = sym (div-eq_of_lt (lt_of_lt_of_le f (pow_mono g)))

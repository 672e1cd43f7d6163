-- Shifts and extensions of fields of w bits, as SMT-LIB's. Assumes nothing.
use mathlib.Core.Path.{◌≡◌, sym, ap, ◌∙◌}
use mathlib.Core.Bool.{Bool, cond}
use mathlib.Core.Logic.{⊎_elim}
use Prim.Native.Nat.{ℕ, min, suc, ◌-◌, ◌*◌, ◌/◌, ◌%◌, ◌^◌, ◌<◌, ◌≤◌}
use native.Mathlib.Nat.{mul_assoc, mul-mod_left, sub-add_cancel, div-le_self, div-eq_of_lt, min-eq_left, min-eq_right, lt_of_le_of_lt, lt_of_lt_of_le, le_of_lt}
use native.Mathlib.Omega.{arith}
use borrow.Author.Tests.{lt-ltb, le-ltb, ne_eqb}
use lib.Dec.{ltb}
use lib.IntN.{ℤ, pos, negsuc}
use lib.Pow.{pow_mono, pow-add, high_ones}
use lib.Signed.{mag, shr_z}
use Rattle.word.specs.Value.{residue, signed}
use Rattle.word.specs.Option.{only, or_zero}
use Rattle.word.proofs.Integer.{residue-pos, residue-negsuc, signed_mag, lt-or-ge}
use Rattle.evaluate.specs.Evaluate.{to_u32, shifted_left, shifted_right, arithmetic_shift}
use Rattle.evaluate.specs.SmtLib.{concat, bvnot, bvshl, bvlshr, bvashr, sign_extend}
use Rattle.evaluate.proofs.Fields.{by_top, extended-field}

-- ---- a count of 128 or more

-- past the width nothing stays
all_out : (a w b : ℕ) → w ≤ b → a * 2 ^ b % 2 ^ w ≡ 0
all_out a w b h =
    ap (λ (n : ℕ). n % 2 ^ w)
    (ap (λ (n : ℕ). a * 2 ^ n) (sym (sub-add_cancel h)) ∙ ap (λ (n : ℕ). a * n) (pow-add 2 (b - w) w) ∙ sym (mul_assoc a (2 ^ (b - w)) (2 ^ w)))
    ∙ mul-mod_left (a * 2 ^ (b - w)) (2 ^ w)

none_left : (a w b : ℕ) → a < 2 ^ w → w ≤ b → a / 2 ^ b ≡ 0
none_left a w b l h = div-eq_of_lt (lt_of_lt_of_le l (pow_mono h))

-- f, that gives 0 from 128 on, is the checked shift with 0 for None
or_none : (f : ℕ → ℕ) (n : ℕ) → (128 ≤ n → f n ≡ 0) → f n ≡ or_zero (only (ltb n 128) (f n))
or_none f n z = ⊎_elim (λ (h : n < 128). rw (lt-ltb n 128 h)) (λ (h : 128 ≤ n). rw (le-ltb n 128 h) (z h)) (lt-or-ge n 128)

pub unbounded_left : (a n : ℕ) → a * 2 ^ n % 2 ^ 128 ≡ or_zero (only (ltb n 128) (a * 2 ^ n % 2 ^ 128))
unbounded_left a n = or_none (λ k. a * 2 ^ k % 2 ^ 128) n (all_out a 128 n)

pub unbounded_right : (a n : ℕ) → a < 2 ^ 128 → a / 2 ^ n ≡ or_zero (only (ltb n 128) (a / 2 ^ n))
unbounded_right a n l = or_none (λ k. a / 2 ^ k) n (none_left a 128 n l)

-- f, that gives 0 from 128 on: by the checked shift, with 0 for None
any_count : (f : ℕ → ℕ) (b : ℕ) → (128 ≤ b → f b ≡ 0) → or_zero (only (ltb (to_u32 b) 128) (f (to_u32 b))) ≡ f b
any_count f b z =
    ⊎_elim
    (λ (h : b < 128). let e : to_u32 b ≡ b = omega arith in rw (e, lt-ltb b 128 h))
    (λ (h : 128 ≤ b). rw (le-ltb (to_u32 b) 128 (omega arith)) (sym (z h))) (lt-or-ge b 128)

pub shift_left : (a b : ℕ) → shifted_left a b ≡ bvshl 128 a b
shift_left a b = any_count (bvshl 128 a) b (all_out a 128 b)

pub shift_right : (a b : ℕ) → a < 2 ^ 128 → shifted_right a b ≡ bvlshr a b
shift_right a b l = any_count (bvlshr a) b (none_left a 128 b l)

-- ---- the shift that copies the top bit

-- n has k bits: a count past k leaves what k leaves
clamped : (n k b : ℕ) → n < 2 ^ k → n / 2 ^ min b k ≡ n / 2 ^ b
clamped n k b l =
    ⊎_elim (λ (h : b < k). ap (λ (j : ℕ). n / 2 ^ j) (min-eq_left (le_of_lt h)))
    (λ (h : k ≤ b). ap (λ (j : ℕ). n / 2 ^ j) (min-eq_right h) ∙ div-eq_of_lt l ∙ sym (none_left n k b l h)) (lt-or-ge b k)

clamped-shift : (z : ℤ) (k b : ℕ) → mag z < 2 ^ k → shr_z z (2 ^ min b k) ≡ shr_z z (2 ^ b)
clamped-shift (pos n) k b l = ap pos (clamped n k b l)
clamped-shift (negsuc n) k b l = ap negsuc (clamped n k b l)

module _ (w a : ℕ) (some-width : 0 < w) (below : a < 2 ^ w) where
  pub arithmetic : w ≤ 128 → (b : ℕ) → arithmetic_shift w a b ≡ residue 128 (shr_z (signed w a) (2 ^ b))
  arithmetic h b =
      rw (ne_eqb w 0 (omega arith), extended-field a w some-width h below)
      (ap (residue 128) (clamped-shift (signed w a) (w - 1) b (signed_mag w a some-width below)))

  pub shift_sign : (b : ℕ) → residue w (shr_z (signed w a) (2 ^ b)) ≡ bvashr w a b
  unfolding bvashr
  shift_sign b =
      let n : ℕ = bvnot w a / 2 ^ b in
      let f : n ≤ bvnot w a = div-le_self (bvnot w a) (2 ^ b) in
      let e : 2 ^ w - suc a ≡ bvnot w a = omega arith in
      by_top w a some-width below
      (λ (s : Bool) (z : ℤ). residue w (shr_z z (2 ^ b)) ≡ cond s (bvnot w (bvlshr (bvnot w a) b)) (bvlshr a b))
      (λ t. residue-pos w (a / 2 ^ b) (lt_of_le_of_lt (div-le_self a (2 ^ b)) below))
      (λ t. ap (λ (j : ℕ). residue w (negsuc (j / 2 ^ b))) e ∙ residue-negsuc w n (omega arith) ∙ omega arith)

  -- ---- copies of the top bit in front

  pub sign_extended_lem : (t : ℕ) → w ≤ t → residue t (signed w a) ≡ sign_extend w (t - w) a
  sign_extended_lem t h =
      let m : 2 ^ w ≤ 2 ^ t = pow_mono h in
      let e : 2 ^ t - 2 ^ w ≡ (2 ^ (t - w) - 1) * 2 ^ w = ap (λ (n : ℕ). 2 ^ n - 2 ^ w) (sym (sub-add_cancel h)) ∙ high_ones (t - w) w in
      by_top w a some-width below (λ (s : Bool) (z : ℤ). residue t z ≡ concat w (cond s (2 ^ (t - w) - 1) 0) a)
      (λ f. residue-pos t a (omega arith) ∙ omega arith)
      (λ f. residue-negsuc t (2 ^ w - suc a) (omega arith) ∙ omega arith)

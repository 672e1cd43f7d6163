-- Each operator of the evaluators against SMT-LIB's on bit vectors of width w, with the exact condition under which both agree.
-- Assumes nothing.
use mathlib.Core.Path.{◌≡◌, refl, sym, ap, ◌∙◌, subst}
use mathlib.Core.Bool.{Bool, true, false, not}
use Rattle.std.specs.Prelude.{Option, None, Some}
use mathlib.Core.Logic.Iff
use mathlib.Core.Logic.{◌↔◌, ◌⊎◌}
use Prim.Native.Nat.{ℕ, ◌+◌, ◌-◌, ◌*◌, ◌/◌, ◌%◌, ◌^◌, ◌<◌, ◌≤◌}
use native.Mathlib.Nat.{zero-add, add-mod-mod, mod-eq_of_lt, div-one, sub-add_cancel, lt_of_le_of_lt, lt_of_lt_of_le, div-le_self, mod-le}
use native.Mathlib.Omega.{arith}
use borrow.Author.Tests.{ne_eqb, le-leb, lt-ltb, ltb-true}
use lib.Bits.{and_lt, or_lt, xor_lt}
use lib.Dec.{eqb, ltb, leb}
use lib.IntN.{ℤ, pos, neg_ℤ, ◌+ℤ◌, ◌-ℤ◌, ◌*ℤ◌}
use lib.Pow.{pow_pos, pow_mono, shr_le, not_mod}
use lib.Signed.{lt_z, le_z, shr_z, quot_z, rem_z}
use Rattle.range.specs.declared.ScalarType.{ScalarType}
use Rattle.range.specs.declared.ScalarType.TheVariants as ty
use Rattle.word.specs.Value.{residue, signed, fits, fitted, quotient, remainder}
use Rattle.word.specs.Option.{only, provided, mapped, from_bool}
use Rattle.word.proofs.Integer.{residue-lt, residue-add, residue-sub, residue-mul, residue-neg, residue-pos, residue-signed}
use Rattle.evaluate.specs.declared.Unary.TheVariants as un
use Rattle.evaluate.specs.declared.Binary.TheVariants as bi
use Rattle.evaluate.specs.Evaluate.{unary_value, binary_value, reduced, shift_width, arithmetic_shift, slice_value, concat_value}
use Rattle.evaluate.specs.SmtLib.{concat, extract, zero_extend, sign_extend, bvnot, bvneg, bvand, bvor, bvxor, bvadd, bvsub, bvmul, bvshl, bvlshr, bvashr, msb, bvult, bvule, bvslt, bvsle, bvudiv, bvurem, bvsdiv, bvsrem}
use Rattle.evaluate.proofs.Answers.{given, divided, divided-some}
use Rattle.evaluate.proofs.Division.{quotient-value, remainder-value, at_128, unsigned_quotient, unsigned_remainder, quotient_first, quotient_second, quotient_both, remainder_first, remainder_second, remainder_both}
use Rattle.evaluate.proofs.Fields.{negative, by_tops, narrow, residue-narrow, extended-field, fits_below, negate_fits}
use Rattle.evaluate.proofs.Orders.{test_answer, less_agrees, at_most-agrees}
use Rattle.evaluate.proofs.Shifts.{shift_left, shift_right, arithmetic, shift_sign, sign_extended_lem}

-- ---- the values of a type as bit vectors of its width

-- 1 for Bool, 128 for Integer
abbrev pub vector_width : ScalarType → ℕ
vector_width ty.Bool = 1
vector_width (ty.Bits w) = w
vector_width ty.Integer = 128

-- a value of the type is left as it is
reduced-value : (t : ScalarType) (v : ℕ) → v < 2 ^ vector_width t → reduced t v ≡ v
reduced-value ty.Bool v h = refl
reduced-value (ty.Bits w) v h = mod-eq_of_lt h
reduced-value ty.Integer v h = refl

-- an integer as an answer in 128 bits
signed-answer : (t : ScalarType) → vector_width t ≡ 128 → (o : Option ℤ) → mapped (reduced t) (mapped (residue 128) o) ≡ mapped (residue 128) o
signed-answer t whole None = refl
signed-answer t whole (Some z) = ap Some (reduced-value t (residue 128 z) (rw whole (residue-lt 128 z)))

-- what f gives in 128 bits, for Bits and Integer
reduced_word : (t : ScalarType) (f : ℕ → ℕ) → (t ≡ ty.Bool → ⊥) → (f 128 % 2 ^ vector_width t ≡ f (vector_width t)) → reduced t (f 128) ≡ f (vector_width t)
reduced_word ty.Bool f not_bool e = absurd (not_bool refl)
reduced_word (ty.Bits w) f not_bool e = e
reduced_word ty.Integer f not_bool e = refl

-- an arithmetic shift reads that width
shift_width_lem : (t : ScalarType) → (t ≡ ty.Bool → ⊥) → shift_width t ≡ vector_width t
shift_width_lem ty.Bool not_bool = absurd (not_bool refl)
shift_width_lem (ty.Bits w) not_bool = refl
shift_width_lem ty.Integer not_bool = refl

-- ---- unary

pub not_agrees : (w a : ℕ) → 0 < w → w ≤ 128 → a < 2 ^ w → mapped (reduced (ty.Bits w)) (unary_value un.BitNot a) ≡ Some (bvnot w a)
unfolding unary_value
not_agrees w a p h l = ap Some (over 128 h)
  where
    over : (v : ℕ) → w ≤ v → (2 ^ v - 1 - a) % 2 ^ w ≡ bvnot w a
    over v h = subst (λ (u : ℕ). (2 ^ u - 1 - a) % 2 ^ w ≡ bvnot w a) (sub-add_cancel h) (not_mod (v - w) w l)

-- to Bits or Integer
pub sign_extend_agrees : (w : ℕ) (t : ScalarType) (a : ℕ) → 0 < w → w ≤ vector_width t → vector_width t ≤ 128 → (t ≡ ty.Bool → ⊥) → a < 2 ^ w
    → mapped (reduced t) (unary_value (un.SignExtend w) a) ≡ Some (sign_extend w (vector_width t - w) a)
unfolding unary_value
sign_extend_agrees w t a p h g not_bool l =
    let z : ℤ = signed w a in
    rw (ne_eqb w 0 (omega arith), extended-field a w p (omega arith) l)
    (ap Some (reduced_word t (λ v. residue v z) not_bool (residue-narrow z 128 (vector_width t) g) ∙ sign_extended_lem w a p l (vector_width t) h))

-- an integer of 128 bits as an answer, if it fits
fitted-agrees : (z : ℤ) (v : ℕ) → v ≡ residue 128 z → (mapped (residue 128) (fitted z) ≡ Some v) ↔ (fits z ≡ true)
fitted-agrees z v e =
    let g = given (residue 128) true (fits z) z v in (λ q. (g.0 q).1, λ q. g.1 (refl, q, sym e))

pub negate_agrees : (a : ℕ) → a < 2 ^ 128 → (unary_value un.Negate a ≡ Some (bvneg 128 a)) ↔ (a ≡ 2 ^ 127 → ⊥)
unfolding unary_value
negate_agrees a l =
    let z : ℤ = neg_ℤ (signed 128 a) in
    Iff.trans (fitted-agrees z (bvneg 128 a) (sym (ap (bvneg 128) (residue-signed 128 a l)) ∙ residue-neg 128 (signed 128 a)))
    (Iff.trans (fits_below z) (negate_fits 128 a (omega arith) l))

-- ---- slice, truncate and concat

-- ((_ extract i j) s) of s of width m: it exists where j ≤ i < m
abbrev pub extract_of : ℕ → ℕ → ℕ → ℕ → Option ℕ
extract_of m i j s = mapped (extract i j) (provided (leb j i) (only (ltb i m) s))

-- of an operand of width m
pub slice-agrees : (m offset width v : ℕ) → 0 < width
    → (Some (slice_value offset width v) ≡ extract_of m (offset + width - 1) offset v) ↔ (offset + width ≤ m)
slice-agrees m offset width v p =
    let i : ℕ = offset + width - 1 in
    let e : i - offset + 1 ≡ width = omega arith in
    let g = given (extract i offset) (leb offset i) (ltb i m) v (slice_value offset width v) in
    (λ q. omega (arith, ltb-true i m (g.0 (sym q)).1), λ h. sym (g.1 (le-leb offset i (omega arith), lt-ltb i m (omega arith), rw e)))

-- past the operand's bits: the same of the operand with zeros in front
pub slice_past : (m offset width v : ℕ) → 0 < width
    → let k : ℕ = offset + width - m in Some (slice_value offset width v) ≡ extract_of (m + k) (offset + width - 1) offset (zero_extend k v)
slice_past m offset width v p = (slice-agrees (m + (offset + width - m)) offset width v p).1 (omega arith)

-- of an operand of width m, to no more bits: the slice at 0
pub truncate_agrees : (m w a : ℕ) → 0 < w → (unary_value (un.Truncate w) a ≡ extract_of m (w - 1) 0 a) ↔ (w ≤ m)
unfolding unary_value
truncate_agrees m w a p = rw (div-one, zero-add) at (slice-agrees m 0 w a p)

-- to no fewer bits
pub zero_extend_agrees : (w t a : ℕ) → w ≤ t → a < 2 ^ w → unary_value (un.Truncate t) a ≡ Some (zero_extend (t - w) a)
unfolding unary_value
zero_extend_agrees w t a h l = ap Some (mod-eq_of_lt (lt_of_lt_of_le l (pow_mono h)))

pub concat-agrees : (n h l : ℕ) → concat_value n h l ≡ concat n h l
concat-agrees n h l = refl

-- ---- sums, differences and products: f on integers is g w on their residues

module _ (f : ℤ → ℤ → ℤ) (g : ℕ → ℕ → ℕ → ℕ) (hom : (w : ℕ) (x y : ℤ) → g w (residue w x) (residue w y) ≡ residue w (f x y)) where
  on_residues : (w : ℕ) (x y : ℤ) (a b : ℕ) → residue w x ≡ a → residue w y ≡ b → g w a b ≡ residue w (f x y)
  on_residues w x y a b d e = sym (λ i. g w (d i) (e i)) ∙ hom w x y

  -- g of v bits, reduced to w bits
  bits_agree : (w a b v : ℕ) → w ≤ v → a < 2 ^ w → b < 2 ^ w → g v a b % 2 ^ w ≡ g w a b
  bits_agree w a b v h l m =
      let at : (n : ℕ) → n < 2 ^ w → residue v (pos n) ≡ n = λ n j. residue-pos v n (lt_of_lt_of_le j (pow_mono h)) in
      ap (λ (n : ℕ). n % 2 ^ w) (on_residues v (pos a) (pos b) a b (at a l) (at b m)) ∙ residue-narrow (f (pos a) (pos b)) v w h
      ∙ sym (on_residues w (pos a) (pos b) a b (residue-pos w a l) (residue-pos w b m))

  integer_agrees : (a b : ℕ) → a < 2 ^ 128 → b < 2 ^ 128
      → (mapped (reduced ty.Integer) (mapped (residue 128) (fitted (f (signed 128 a) (signed 128 b)))) ≡ Some (g 128 a b))
      ↔ (fits (f (signed 128 a) (signed 128 b)) ≡ true)
  integer_agrees a b l m =
      let z : ℤ = f (signed 128 a) (signed 128 b) in
      rw (signed-answer ty.Integer refl (fitted z))
      (fitted-agrees z (g 128 a b) (on_residues 128 (signed 128 a) (signed 128 b) a b (residue-signed 128 a l) (residue-signed 128 b m)))

sub_residues : (w : ℕ) (x y : ℤ) → bvsub w (residue w x) (residue w y) ≡ residue w (x -ℤ y)
sub_residues w x y = add-mod-mod (residue w x) (2 ^ w - residue w y) (2 ^ w) ∙ residue-sub w x y

-- ---- at a type

module _ (t : ScalarType) (a b : ℕ) (l : a < 2 ^ vector_width t) (m : b < 2 ^ vector_width t) where
  pub and-agrees : binary_value bi.And t a b ≡ Some (bvand a b)
  unfolding binary_value
  and-agrees = ap Some (reduced-value t (bvand a b) (and_lt (vector_width t) a b l m))

  pub or-agrees : binary_value bi.Or t a b ≡ Some (bvor a b)
  unfolding binary_value
  or-agrees = ap Some (reduced-value t (bvor a b) (or_lt (vector_width t) a b l m))

  pub xor-agrees : binary_value bi.Xor t a b ≡ Some (bvxor a b)
  unfolding binary_value
  xor-agrees = ap Some (reduced-value t (bvxor a b) (xor_lt (vector_width t) a b l m))

  pub udiv_agrees : (binary_value bi.DivideUnsigned t a b ≡ Some (bvudiv (vector_width t) a b)) ↔ (b ≡ 0 → ⊥)
  unfolding binary_value
  udiv_agrees = divided-some t b (a / b) (reduced-value t (a / b) (lt_of_le_of_lt (div-le_self a b) l)) (2 ^ vector_width t - 1)

  pub urem_agrees : (binary_value bi.RemainderUnsigned t a b ≡ Some (bvurem a b)) ↔ (b ≡ 0 → ⊥)
  unfolding binary_value
  urem_agrees = divided-some t b (a % b) (reduced-value t (a % b) (lt_of_le_of_lt (mod-le a b) l)) a

-- shifts, for every amount b; SMT-LIB's take one of the same width, below 2 ^ w
module _ (t : ScalarType) (not_bool : t ≡ ty.Bool → ⊥) (some-width : 0 < vector_width t) (at_most : vector_width t ≤ 128)
    (a b : ℕ) (l : a < 2 ^ vector_width t) where
  pub shl-agrees : binary_value bi.ShiftLeft t a b ≡ Some (bvshl (vector_width t) a b)
  unfolding binary_value
  shl-agrees =
      ap Some
      (ap (reduced t) (shift_left a b) ∙ reduced_word t (λ v. bvshl v a b) not_bool (narrow (a * 2 ^ b) 128 (vector_width t) at_most))

  pub lshr_agrees : binary_value bi.ShiftRight t a b ≡ Some (bvlshr a b)
  unfolding binary_value
  lshr_agrees =
      ap Some
      (ap (reduced t) (shift_right a b (lt_of_lt_of_le l (pow_mono at_most))) ∙ reduced-value t (bvlshr a b) (lt_of_le_of_lt (shr_le a b) l))

  pub ashr_agrees : binary_value bi.ArithmeticShiftRight t a b ≡ Some (bvashr (vector_width t) a b)
  unfolding binary_value
  ashr_agrees =
      let w : ℕ = vector_width t in
      let z : ℤ = shr_z (signed w a) (2 ^ b) in
      ap Some
      (ap (reduced t) (ap (λ (v : ℕ). arithmetic_shift v a b) (shift_width_lem t not_bool) ∙ arithmetic w a some-width l at_most b)
      ∙ reduced_word t (λ v. residue v z) not_bool (residue-narrow z 128 w at_most) ∙ shift_sign w a some-width l b)

-- ---- at Bits(w)

module _ (w a b : ℕ) (some-width : 0 < w) (at_most : w ≤ 128) (l : a < 2 ^ w) (m : b < 2 ^ w) where
  pub add-agrees : binary_value bi.Add (ty.Bits w) a b ≡ Some (bvadd w a b)
  unfolding binary_value
  add-agrees = ap Some (bits_agree ◌+ℤ◌ bvadd residue-add w a b 128 at_most l m)

  pub sub-agrees : binary_value bi.Sub (ty.Bits w) a b ≡ Some (bvsub w a b)
  unfolding binary_value
  sub-agrees =
      ap Some
      (ap (λ (n : ℕ). n % 2 ^ w) (sym (add-mod-mod a (2 ^ 128 - b) (2 ^ 128))) ∙ bits_agree ◌-ℤ◌ bvsub sub_residues w a b 128 at_most l m)

  pub mul-agrees : binary_value bi.Mul (ty.Bits w) a b ≡ Some (bvmul w a b)
  unfolding binary_value
  mul-agrees = ap Some (bits_agree ◌*ℤ◌ bvmul residue-mul w a b 128 at_most l m)

  -- below width 128 the evaluator reads no field as an integer below 0
  pub slt_agrees : (binary_value bi.LessSigned ty.Bool a b ≡ Some (from_bool (bvslt w a b))) ↔ ((w ≡ 128) ⊎ (msb w a ≡ msb w b))
  unfolding binary_value
  slt_agrees = Iff.trans (test_answer (lt_z (signed 128 a) (signed 128 b)) (bvslt w a b)) (less_agrees w a b some-width at_most l m)

  pub sle_agrees : (binary_value bi.LessEqualSigned ty.Bool a b ≡ Some (from_bool (bvsle w a b))) ↔ ((w ≡ 128) ⊎ (msb w a ≡ msb w b))
  unfolding binary_value
  sle_agrees = Iff.trans (test_answer (le_z (signed 128 a) (signed 128 b)) (bvsle w a b)) (at_most-agrees w a b some-width at_most l m)

pub ult_agrees : (a b : ℕ) → binary_value bi.LessUnsigned ty.Bool a b ≡ Some (from_bool (bvult a b))
unfolding binary_value
ult_agrees a b = refl

pub ule_agrees : (a b : ℕ) → binary_value bi.LessEqualUnsigned ty.Bool a b ≡ Some (from_bool (bvule a b))
unfolding binary_value
ule_agrees a b = refl

-- ---- in 128 bits

module _ (a b : ℕ) (l : a < 2 ^ 128) (m : b < 2 ^ 128) where
  pub integer_add-agrees : (binary_value bi.Add ty.Integer a b ≡ Some (bvadd 128 a b)) ↔ (fits (signed 128 a +ℤ signed 128 b) ≡ true)
  unfolding binary_value
  integer_add-agrees = integer_agrees ◌+ℤ◌ bvadd residue-add a b l m

  pub integer_sub-agrees : (binary_value bi.Sub ty.Integer a b ≡ Some (bvsub 128 a b)) ↔ (fits (signed 128 a -ℤ signed 128 b) ≡ true)
  unfolding binary_value
  integer_sub-agrees = integer_agrees ◌-ℤ◌ bvsub sub_residues a b l m

  pub integer_mul-agrees : (binary_value bi.Mul ty.Integer a b ≡ Some (bvmul 128 a b)) ↔ (fits (signed 128 a *ℤ signed 128 b) ≡ true)
  unfolding binary_value
  integer_mul-agrees = integer_agrees ◌*ℤ◌ bvmul residue-mul a b l m

  -- the divisions at Bits(128) and Integer: not by 0, and not -(2 ^ 127) by -1
  module _ (t : ScalarType) (whole : vector_width t ≡ 128) where
    pub sdiv_agrees_128 : (binary_value bi.DivideSigned t a b ≡ Some (bvsdiv 128 a b))
        ↔ ((b ≡ 0 → ⊥) × ((a ≡ 2 ^ 127) × (b ≡ 2 ^ 128 - 1) → ⊥))
    unfolding binary_value quotient
    sdiv_agrees_128 =
        rw (signed-answer t whole (quotient (signed 128 a) (signed 128 b)))
        (at_128 a b l m (quot_z (signed 128 a) (signed 128 b)) (bvsdiv 128 a b) (quotient-value 128 a b (omega arith) l m))

    pub srem_agrees_128 : (binary_value bi.RemainderSigned t a b ≡ Some (bvsrem 128 a b))
        ↔ ((b ≡ 0 → ⊥) × ((a ≡ 2 ^ 127) × (b ≡ 2 ^ 128 - 1) → ⊥))
    unfolding binary_value remainder
    srem_agrees_128 =
        rw (signed-answer t whole (remainder (signed 128 a) (signed 128 b)))
        (at_128 a b l m (rem_z (signed 128 a) (signed 128 b)) (bvsrem 128 a b) (remainder-value 128 a b (omega arith) l m))

-- ---- `=`, `distinct` and `not` of SMT-LIB's core theory

pub equal_agrees : (a b : ℕ) → binary_value bi.Equal ty.Bool a b ≡ Some (from_bool (eqb a b))
unfolding binary_value
equal_agrees a b = refl

pub not_equal_agrees : (a b : ℕ) → binary_value bi.NotEqual ty.Bool a b ≡ Some (from_bool (not (eqb a b)))
unfolding binary_value
not_equal_agrees a b = refl

-- a Bool is 1 or 0
pub bool_not-agrees : (t : Bool) → unary_value un.BoolNot (from_bool t) ≡ Some (from_bool (not t))
unfolding unary_value
bool_not-agrees true = refl
bool_not-agrees false = refl

-- ---- signed divisions below width 128, where the evaluator gives the unsigned ones

-- when the unsigned division of a by b is the signed one, by their top bits: F where only a's is set
abbrev pub AgreeDivision : Type 0 → Bool → Bool → ℕ → ℕ → ℕ → Type 0
AgreeDivision F false false w a b = b ≡ 0 → ⊥
AgreeDivision F true false w a b = F
AgreeDivision F false true w a b = a + b < 2 ^ w
AgreeDivision F true true w a b = a ≡ b

-- for the quotient
abbrev pub AgreeQuotient : Bool → Bool → ℕ → ℕ → ℕ → Type 0
AgreeQuotient s t w a b = AgreeDivision (b ≡ 1) s t w a b

-- for the remainder
abbrev pub AgreeRemainder : Bool → Bool → ℕ → ℕ → ℕ → Type 0
AgreeRemainder s t w a b = AgreeDivision ((b ≡ 0 → ⊥) × (a % b ≡ 0) × ((2 ^ w - a) % b ≡ 0)) s t w a b

module _ (w a b : ℕ) (some-width : 0 < w) (under : w < 128) (l : a < 2 ^ w) (m : b < 2 ^ w) where
  -- n is the unsigned answer, v the signed one, that of the division d of integers
  below_128 : (F : Type 0) (n v : ℕ) (d : ℤ → ℤ → ℤ) → n < 2 ^ w → ((b ≡ 0 → ⊥) → v ≡ residue w (d (signed w a) (signed w b)))
      → residue w (d (pos a) (pos b)) ≡ n
      → (F → b ≡ 0 → ⊥)
      → (2 ^ (w - 1) ≤ a → b < 2 ^ (w - 1) → (b ≡ 0 → ⊥) → (n ≡ residue w (d (negative w a) (pos b))) ↔ F)
      → (a < 2 ^ (w - 1) → 2 ^ (w - 1) ≤ b → (n ≡ residue w (d (pos a) (negative w b))) ↔ (a + b < 2 ^ w))
      → (2 ^ (w - 1) ≤ a → 2 ^ (w - 1) ≤ b → (n ≡ residue w (d (negative w a) (negative w b))) ↔ (a ≡ b))
      → (mapped (reduced (ty.Bits w)) (only (ltb 0 b) n) ≡ Some v) ↔ AgreeDivision F (msb w a) (msb w b) w a b
  below_128 F n v d h e neither some-F first second both =
      let q = divided (ty.Bits w) b n (mod-eq_of_lt h) v in
      let some-set : 2 ^ (w - 1) ≤ b → b ≡ 0 → ⊥ = λ g z. omega (arith, pow_pos (w - 1)) in
      let k =
      by_tops w a b some-width l m
      (λ (s t : Bool) (x y : ℤ). (AgreeDivision F s t w a b → b ≡ 0 → ⊥) × ((b ≡ 0 → ⊥) → (n ≡ residue w (d x y)) ↔ AgreeDivision F s t w a b))
      (λ f g. (λ z. z, λ z. (λ o. z, λ o. sym neither))) (λ f g. (some-F, first f g)) (λ f g. (λ o. some-set g, λ z. second f g))
      (λ f g. (λ o. some-set g, λ z. both f g)) in
      (λ o. let c = q.0 o in (k.1 c.0).0 (c.1 ∙ e c.0), λ c. let z = k.0 c in q.1 (z, (k.1 z).1 c ∙ sym (e z)))

  pub sdiv_agrees : (binary_value bi.DivideSigned (ty.Bits w) a b ≡ Some (bvsdiv w a b)) ↔ AgreeQuotient (msb w a) (msb w b) w a b
  sdiv_agrees =
      let h : a / b < 2 ^ w = lt_of_le_of_lt (div-le_self a b) l in
      rw (unsigned_quotient w a b under l m)
      (unfold binary_value in
      below_128 (b ≡ 1) (a / b) (bvsdiv w a b) quot_z h (quotient-value w a b some-width l m) (residue-pos w (a / b) h) (omega arith)
      (quotient_first w a b some-width l m) (quotient_second w a b some-width l m) (quotient_both w a b some-width l m))

  pub srem_agrees : (binary_value bi.RemainderSigned (ty.Bits w) a b ≡ Some (bvsrem w a b)) ↔ AgreeRemainder (msb w a) (msb w b) w a b
  srem_agrees =
      let h : a % b < 2 ^ w = lt_of_le_of_lt (mod-le a b) l in
      rw (unsigned_remainder w a b under l m)
      (unfold binary_value in
      below_128 ((b ≡ 0 → ⊥) × (a % b ≡ 0) × ((2 ^ w - a) % b ≡ 0)) (a % b) (bvsrem w a b) rem_z h (remainder-value w a b some-width l m)
      (residue-pos w (a % b) h) (λ c. c.0) (remainder_first w a b some-width l m) (remainder_second w a b some-width l m)
      (remainder_both w a b some-width l m))

-- Option (Option Range) ranges have ends of 128 bits and pass question 1; results are of their types; unary's plans claim what is asked of them. Assumes nothing.
use mathlib.Core.Path.{◌≡◌, refl, sym, ap, ◌∙◌, subst}
use mathlib.Core.Bool.{Bool, true, false, not, false≢true, ◌&&◌}
use mathlib.Core.List.{List, ◌∷◌}
use Rattle.std.specs.Prelude.{Option, None, Some}
use Prim.Native.Nat.{ℕ, ◌+◌, ◌-◌, ◌*◌, ◌%◌, ◌^◌, ◌≤◌, ◌<◌}
use native.Mathlib.Nat.{lt_of_lt_of_le, lt_of_le_of_lt, mod-lt, mod-le, div-le_self}
use native.Mathlib.Omega.{arith}
use borrow.Author.Tests.{ltb-true, leb-true, ne_eqb}
use lib.Bits.{and_lt, or_lt, xor_lt}
use lib.Count.{leading_le, trailing_le}
use lib.Dec.{ltb, leb, eqb, lit<}
use lib.IntN.{ℤ, pos, nat_abs, neg_ℤ, ◌-ℤ◌}
use lib.Pow.{pow_pos, pow_mono}
use lib.Signed.{mag, le_z, lt_z, ◌≤ℤ◌, mag_shr}
use Rattle.word.specs.Value.{residue, signed, fitted, quotient, min_z, max_z}
use Rattle.word.specs.Option.{only, from_bool, mapped, or_zero, both_given, or_else}
use Rattle.word.proofs.Integer.{residue-lt, residue-pos, signed_low, half_twice}
use Rattle.range.specs.Interval.{Interval, nonnegative, type_interval, filtered, sign_extended, between, add_interval, sub_interval, neg_interval, corners_of, mul_interval, divisible, quot_interval, cut, cut_to, rem_interval, and_interval, udiv_interval, at_most, urem_interval, clamped, shifted, shl_interval, shr_interval}
use Rattle.range.specs.declared.ScalarType.{ScalarType}
use Rattle.range.specs.declared.ScalarType.TheVariants as ty
use Rattle.range.proofs.Order.{orders, extremes, le-min, max-le, between_small}
use Rattle.range.proofs.Sound.{tests}
use Rattle.range.proofs.Answers.{none-some, some_is, provided_is}
use Rattle.range.proofs.Valid.{Valid, neg_full, add_full, sub_full, mul_full, quot_full, rem_full, and_full, udiv_full, urem_full, shl_full, shr_full, extended_full, integer_valid, filtered_valid, type_valid}
use Rattle.evaluate.specs.Evaluate.{reduced, to_u32, extended, sign_extended as extend, leading_in, trailing_in, signedly, shifted_left, shifted_right, arithmetic_shift, unreduced, unary_value, binary_value}
use Rattle.evaluate.specs.I128 as i128
use Rattle.evaluate.specs.Operator.{type_width, unary_width}
use Rattle.evaluate.specs.declared.Unary.{Unary}
use Rattle.evaluate.specs.declared.Unary.TheVariants as un
use Rattle.evaluate.specs.declared.Binary.{Binary}
use Rattle.evaluate.specs.declared.Binary.TheVariants as bi
use Rattle.evaluate.proofs.Fields.{negative_below, extended-field}
use Rattle.graph.specs.Layout.{count_of}
use Rattle.graph.specs.Node as node
use Rattle.graph.specs.Node.{type_at, range_at}
use Rattle.graph.specs.Insert.{literal}
use Rattle.fold.specs.Operator.{comparisons}
use Rattle.fold.specs.Shape.{same_type}
use Rattle.fold.specs.Range.{held_to, bits_rule, integer_rule, unary_range, binary_range, ranged_at}
use Rattle.request.specs.Typing.{is_bits, is_number, unary_typed}
use Rattle.plan.specs.Plan.{constant_or}
use Rattle.plan.specs.OneOperand.{is_view, add_or, unary_plan}
use Rattle.meaning.specs.Value.{size, valued, and_then, unary_means}
use Rattle.meaning.proofs.Worlds.{World, operand, value}
use Rattle.meaning.proofs.Values.{typed_is, then_is, truth_small}
use Rattle.meaning.proofs.Invariant.{stored_typed, Ends, Inv, inv_width, inv_valid, Storable}
use Rattle.meaning.proofs.Answers.{both_given_lem, by_test, of_any, among, answering, Each, each_none, each_some, each_provided, each_mapped, each_else}
use Rattle.meaning.proofs.Constants.{stored_of}
use Rattle.meaning.proofs.Plans.{Covers, Claim}
use Rattle.meaning.proofs.Views.{same_type_lem, value_small, value_pattern, covers_truncate, fits_facts, fits_small}
use Rattle.meaning.proofs.Ranges.{bits_rules, integer_rules, fitted_is, quotient_is, type-ends, stored_within, held_at}
use Rattle.meaning.proofs.Field.{literal-value}

-- ---- what holds of the range of each rule holds of what a node's rule gives

module _ (P : Interval → Type 0) (a b : Interval) (add : Each P (add_interval a b)) (sub : Each P (sub_interval a b)) (mul : Each P (mul_interval a b))
    (conj : Each P (and_interval a b)) where
  each_integer : Each P (quot_interval a b) → Each P (rem_interval a b) → Each P (udiv_interval a b) → Each P (urem_interval a b) → (o : Binary)
      → Each P (integer_rule o a b)
  unfolding integer_rule
  each_integer quot rem udiv urem o r e =
      of_any (λ o. Each P (integer_rule o a b)) integer_rules add sub mul conj quot rem udiv urem o
      (answering integer_rules (λ o. integer_rule o a b) refl o e) r e

  each_bits : Each P (shl_interval a b) → Each P (shr_interval a b) → (o : Binary) → Each P (bits_rule o a b)
  unfolding bits_rule
  each_bits shl shr o r e =
      of_any (λ o. Each P (bits_rule o a b)) bits_rules add sub mul conj shl shr o (answering bits_rules (λ o. bits_rule o a b) refl o e) r e

-- ---- ends of 128 bits

abbrev Small : ℤ → Type 0
Small z = mag z < 2 ^ 127

min_small : (x y : ℤ) → Small x → Small y → Small (min_z x y)
min_small x y f g = by_test Small (lt_z y x) (λ e. g) (λ e. f)

max_small : (x y : ℤ) → Small x → Small y → Small (max_z x y)
max_small x y f g = by_test Small (lt_z y x) (λ e. f) (λ e. g)

fitted_small : (z : ℤ) → Each Small (fitted z)
fitted_small z u e = (fitted_is z u e).1

quotient_small : (x y : ℤ) → Each Small (quotient x y)
quotient_small x y u e = (quotient_is x y u e).1

shifted_small : (z n : ℤ) → Each Small (shifted z n)
unfolding shifted
shifted_small z n = each_provided Small (ltb (clamped n) 127) (λ q. fitted_small _)

between_ends : (o p : Option ℤ) → Each Small o → Each Small p → Each Ends (between o p)
between_ends None p f g = each_none Ends
between_ends (Some l) None f g = each_none Ends
between_ends (Some l) (Some h) f g = each_some Ends _ (record { low = f l refl; high = g h refl })

corners_ends : (o p q r : Option ℤ) → Each Small o → Each Small p → Each Small q → Each Small r → Each Ends (corners_of o p q r)
corners_ends None p q r a b c d = each_none Ends
corners_ends (Some i) None q r a b c d = each_none Ends
corners_ends (Some i) (Some j) None r a b c d = each_none Ends
corners_ends (Some i) (Some j) (Some k) None a b c d = each_none Ends
corners_ends (Some i) (Some j) (Some k) (Some l) a b c d =
    each_some Ends _ (record {
      low = min_small (min_z i j) (min_z k l) (min_small i j (a i refl) (b j refl)) (min_small k l (c k refl) (d l refl));
      high = max_small (max_z i j) (max_z k l) (max_small i j (a i refl) (b j refl)) (max_small k l (c k refl) (d l refl));
    })

at_most_small : (z : ℤ) (o : Option ℤ) → Small z → Each Small o → Each Small (at_most z o)
at_most_small z None f g = each_none Small
at_most_small z (Some m) f g = each_some Small _ (min_small z m f (g m refl))

-- a range cut to a size, stretched to 0, goes no further than its ends and 0
cut-ends : (a : Interval) (m : ℤ) → Ends a → Ends (cut a m)
cut-ends a m e = record {
  low =
      let x = max_z a.low (pos 1 -ℤ m) in
      between_small (2 ^ 127) (min_z a.low (pos 0)) (pos 0) (min_z x (pos 0))
      (le-min x (pos 0) _ (omega (orders, extremes a.low (pos 0), extremes a.low (pos 1 -ℤ m))) (extremes a.low (pos 0)).1)
      (extremes x (pos 0)).1 (min_small a.low (pos 0) e.low (pow_pos 127)) (pow_pos 127);
  high =
      let x = min_z a.high (m -ℤ pos 1) in
      between_small (2 ^ 127) (pos 0) (max_z a.high (pos 0)) (max_z x (pos 0)) (extremes x (pos 0)).3
      (max-le x (pos 0) _ (omega (orders, extremes a.high (pos 0), extremes a.high (m -ℤ pos 1))) (extremes a.high (pos 0)).3)
      (pow_pos 127) (max_small a.high (pos 0) e.high (pow_pos 127));
}

cut_to-ends : (a : Interval) (o p : Option ℤ) → Ends a → Each Ends (cut_to a o p)
cut_to-ends a None p e = each_none Ends
cut_to-ends a (Some m) None e = each_none Ends
cut_to-ends a (Some m) (Some n) e = each_some Ends _ (cut-ends a (max_z m n) e)

-- ---- ends of the rules' ranges

module _ (a b : Interval) (f : Ends a) (g : Ends b) where
  add-ends : Each Ends (add_interval a b)
  unfolding add_interval
  add-ends = between_ends _ _ (fitted_small _) (fitted_small _)

  sub-ends : Each Ends (sub_interval a b)
  unfolding sub_interval
  sub-ends = between_ends _ _ (fitted_small _) (fitted_small _)

  mul-ends : Each Ends (mul_interval a b)
  unfolding mul_interval
  mul-ends = corners_ends _ _ _ _ (fitted_small _) (fitted_small _) (fitted_small _) (fitted_small _)

  and-ends : Each Ends (and_interval a b)
  unfolding and_interval
  and-ends =
      each_provided Ends (nonnegative a && nonnegative b) (λ q. between_ends _ _ (each_some Small _ (pow_pos 127)) (each_some Small _ (min_small a.high b.high f.high g.high)))

  quot_ends : Each Ends (quot_interval a b)
  unfolding quot_interval
  quot_ends = each_provided Ends (divisible a b) (λ q. corners_ends _ _ _ _ (quotient_small _ _) (quotient_small _ _) (quotient_small _ _) (quotient_small _ _))

  rem_ends : Each Ends (rem_interval a b)
  unfolding rem_interval
  rem_ends = each_provided Ends (divisible a b) (λ q. cut_to-ends a (fitted (pos (nat_abs b.low))) (fitted (pos (nat_abs b.high))) f)

  udiv_ends : Each Ends (udiv_interval a b)
  unfolding udiv_interval
  udiv_ends = each_provided Ends (nonnegative a && lt_z (pos 0) b.low) (λ q. between_ends _ _ (each_some Small _ (pow_pos 127)) (quotient_small _ _))

  urem_ends : Each Ends (urem_interval a b)
  unfolding urem_interval
  urem_ends = each_provided Ends (nonnegative a && lt_z (pos 0) b.low) (λ q. between_ends _ _ (each_some Small _ (pow_pos 127)) (at_most_small a.high _ f.high (fitted_small _)))

  shl-ends : Each Ends (shl_interval a b)
  unfolding shl_interval
  shl-ends = each_provided Ends (nonnegative a && nonnegative b) (λ q. between_ends _ _ (shifted_small _ _) (shifted_small _ _))

  shr-ends : Each Ends (shr_interval a b)
  unfolding shr_interval
  shr-ends =
      each_provided Ends (nonnegative a && nonnegative b) (λ q. each_some Ends _ (record {
        low = lt_of_le_of_lt (mag_shr a.low _) f.low;
        high = lt_of_le_of_lt (mag_shr a.high _) f.high;
      }))

  integer_ends : (o : Binary) → Each Ends (integer_rule o a b)
  integer_ends = each_integer Ends a b add-ends sub-ends mul-ends and-ends quot_ends rem_ends udiv_ends urem_ends

  bits_ends : (o : Binary) → Each Ends (bits_rule o a b)
  bits_ends = each_bits Ends a b add-ends sub-ends mul-ends and-ends shl-ends shr-ends

given_ends : (rule : Interval → Interval → Option Interval) → ((a b : Interval) → Ends a → Ends b → Each Ends (rule a b)) → (ra rb : Option Interval)
    → Each Ends ra → Each Ends rb → Each Ends (both_given ra rb rule)
given_ends rule k ra rb f g c e =
    let (a, b, i, j, r) = both_given_lem rule ra rb e in
    k a b (f a i) (g b j) c r

filtered-ends : (w : ℕ) (a : Interval) → Ends a → Each Ends (filtered w a)
unfolding filtered
filtered-ends w a f = each_provided Ends (ltb w 128 && (nonnegative a && le_z a.high (pos (2 ^ w - 1)))) (λ q. each_some Ends a f)

held_ends : (w : ℕ) (m : Option Interval) → Each Ends m → Each Ends (or_else (held_to w m) (type_interval (ty.Bits w)))
held_ends w None f = type-ends (ty.Bits w)
held_ends w (Some a) f = each_else Ends (filtered w a) (filtered-ends w a (f a refl)) (type-ends (ty.Bits w))

pub binary-ends : (o : Binary) (t : ScalarType) (ra rb r : Option Interval) → ((a : Interval) → ra ≡ Some a → Ends a)
    → ((a : Interval) → rb ≡ Some a → Ends a) → binary_range t o ra rb ≡ Some r → (a : Interval) → r ≡ Some a → Ends a
unfolding binary_range
binary-ends o ty.Bool ra rb r f g e = subst (Each Ends) (some_is e) (type-ends ty.Bool)
binary-ends o (ty.Bits w) ra rb r f g e =
    subst (Each Ends) (some_is e) (held_ends w _ (given_ends (bits_rule o) (λ b c h k. bits_ends b c h k o) ra rb f g))
binary-ends o ty.Integer ra rb r f g e =
    each_mapped (Each Ends) Some (both_given ra rb (integer_rule o))
    (λ a q. each_some Ends a (given_ends (integer_rule o) (λ b c h k. integer_ends b c h k o) ra rb f g a q)) r e

extended-ends : (w : ℕ) → Each Ends (sign_extended w)
unfolding sign_extended
extended-ends w a e =
    let p = provided_is (ltb 0 w && ltb w 128) _ e in
    let l : w < 128 = ltb-true w 128 (tests (ltb 0 w) (ltb w 128) p.0).1 in
    let k : w - 1 ≤ 127 = omega arith in
    let h : 0 < 2 ^ (w - 1) = pow_pos (w - 1) in
    let b : 2 ^ (w - 1) - 1 < 2 ^ (w - 1) = omega arith in
    let m : 2 ^ (w - 1) ≤ 2 ^ 127 = pow_mono k in
    each_some Ends _ (record { low = negative_below (2 ^ (w - 1)) (2 ^ 127) (pow_pos 127) m; high = lt_of_lt_of_le b m }) a p.1

negated_ends : (a : Interval) → Each Ends (neg_interval a)
unfolding neg_interval
negated_ends a = between_ends _ _ (fitted_small _) (fitted_small _)

unary-ends : (o : Unary) (t : ScalarType) (ra r : Option Interval) → ((a : Interval) → ra ≡ Some a → Ends a) → unary_range t o ra ≡ Some r
    → (a : Interval) → r ≡ Some a → Ends a
unfolding unary_range
unary-ends un.BoolNot t ra r f e = subst (Each Ends) (some_is e) (type-ends t)
unary-ends un.BitNot t ra r f e = subst (Each Ends) (some_is e) (type-ends t)
unary-ends un.Negate t None r f e = absurd (none-some e)
unary-ends un.Negate t (Some p) r f e = each_mapped (Each Ends) Some (neg_interval p) (λ a q. each_some Ends a (negated_ends p a q)) r e
unary-ends (un.Truncate w) t ra r f e = subst (Each Ends) (some_is e) (type-ends t)
unary-ends (un.SignExtend w) ty.Bool ra r f e = subst (Each Ends) (some_is e) (type-ends ty.Bool)
unary-ends (un.SignExtend w) (ty.Bits n) ra r f e = subst (Each Ends) (some_is e) (type-ends (ty.Bits n))
unary-ends (un.SignExtend w) ty.Integer ra r f e = subst (Each Ends) (some_is e) (extended-ends w)
unary-ends (un.LeadingZeros w) t ra r f e = subst (Each Ends) (some_is e) (type-ends t)
unary-ends (un.TrailingZeros w) t ra r f e = subst (Each Ends) (some_is e) (type-ends t)

-- ---- ranges that are not empty and lie inside their types

abbrev Full : Interval → Type 0
Full a = a.low ≤ℤ a.high

module _ (a b : Interval) (f : Full a) (g : Full b) where
  integer_full : (o : Binary) → Each Full (integer_rule o a b)
  integer_full =
      each_integer Full a b (λ r. add_full a b r f g) (λ r. sub_full a b r f g) (λ r. mul_full a b r f g) (λ r. and_full a b r f g)
      (λ r. quot_full a b r f g) (λ r. rem_full a b r f g) (λ r. udiv_full a b r f g) (λ r. urem_full a b r f g)

  bits_full : Small a.low → (o : Binary) → Each Full (bits_rule o a b)
  bits_full s =
      each_bits Full a b (λ r. add_full a b r f g) (λ r. sub_full a b r f g) (λ r. mul_full a b r f g) (λ r. and_full a b r f g)
      (λ r. shl_full a b r f g) (λ r. shr_full a b r f g s)

held_valid : (w : ℕ) (m : Option Interval) → Each Full m → Each (Valid (ty.Bits w)) (or_else (held_to w m) (type_interval (ty.Bits w)))
held_valid w None f = type_valid (ty.Bits w)
held_valid w (Some a) f = each_else (Valid (ty.Bits w)) (filtered w a) (λ r. filtered_valid w a r (f a refl)) (type_valid (ty.Bits w))

pub binary_valid : (o : Binary) (t ta tb : ScalarType) (ra rb r : Option Interval) → ((a : Interval) → ra ≡ Some a → Valid ta a)
    → ((a : Interval) → rb ≡ Some a → Valid tb a) → ((a : Interval) → ra ≡ Some a → Ends a) → binary_range t o ra rb ≡ Some r
    → (a : Interval) → r ≡ Some a → Valid t a
unfolding binary_range
binary_valid o ty.Bool ta tb ra rb r f g ends e = subst (Each (Valid ty.Bool)) (some_is e) (type_valid ty.Bool)
binary_valid o (ty.Bits w) ta tb ra rb r f g ends e =
    subst (Each (Valid (ty.Bits w))) (some_is e) (held_valid w _ (λ c q.
    let (a, b, i, j, k) = both_given_lem (bits_rule o) ra rb q in
    bits_full a b (f a i).full (g b j).full (ends a i).low o c k))
binary_valid o ty.Integer ta tb ra rb r f g ends e =
    each_mapped (Each (Valid ty.Integer)) Some (both_given ra rb (integer_rule o))
    (λ c q.
    let (a, b, i, j, k) = both_given_lem (integer_rule o) ra rb q in
    each_some (Valid ty.Integer) c (integer_valid (integer_full a b (f a i).full (g b j).full o c k))) r e

unary_valid : (o : Unary) (t s : ScalarType) (ra r : Option Interval) → unary_typed o s t ≡ true → ((a : Interval) → ra ≡ Some a → Valid s a)
    → unary_range t o ra ≡ Some r → (a : Interval) → r ≡ Some a → Valid t a
unfolding unary_range
unary_valid un.BoolNot t s ra r d f e = subst (Each (Valid t)) (some_is e) (type_valid t)
unary_valid un.BitNot t s ra r d f e = subst (Each (Valid t)) (some_is e) (type_valid t)
unary_valid un.Negate t s None r d f e = absurd (none-some e)
unary_valid un.Negate t s (Some p) r d f e =
    let j : t ≡ ty.Integer = same_type_lem t ty.Integer (tests (same_type s ty.Integer) (same_type t ty.Integer) d).1 in
    rw j (each_mapped (Each (Valid ty.Integer)) Some (neg_interval p)
    (λ a q. each_some (Valid ty.Integer) a (integer_valid (neg_full p a (f p refl).full q))) r e)
unary_valid (un.Truncate w) t s ra r d f e = subst (Each (Valid t)) (some_is e) (type_valid t)
unary_valid (un.SignExtend w) ty.Bool s ra r d f e = subst (Each (Valid ty.Bool)) (some_is e) (type_valid ty.Bool)
unary_valid (un.SignExtend w) (ty.Bits n) s ra r d f e = subst (Each (Valid (ty.Bits n))) (some_is e) (type_valid (ty.Bits n))
unary_valid (un.SignExtend w) ty.Integer s ra r d f e = subst (Each (Valid ty.Integer)) (some_is e) (λ a q. integer_valid (extended_full w a q))
unary_valid (un.LeadingZeros w) t s ra r d f e = subst (Each (Valid t)) (some_is e) (type_valid t)
unary_valid (un.TrailingZeros w) t s ra r d f e = subst (Each (Valid t)) (some_is e) (type_valid t)

-- ---- results are values of their types

abbrev Below : ℕ → ℕ → Type 0
Below k n = n < k

-- a count of bits is a pattern
count_small : (n : ℕ) → n ≤ 128 → n < 2 ^ 128
count_small n h = lt_of_le_of_lt h (lit< tt)

-- so is what stands for an integer
patterns : (m : Option ℤ) → Each (Below (2 ^ 128)) (mapped (residue 128) m)
patterns m = each_mapped (Below (2 ^ 128)) (residue 128) m (λ z e. residue-lt 128 z)

signed_patterns : (f : ℤ → ℤ → Option ℤ) (x y : ℕ) → Each (Below (2 ^ 128)) (signedly f x y)
signed_patterns f x y = patterns (f (signed 128 x) (signed 128 y))

-- an answer, or 0
zero_small : (t : Bool) (n : ℕ) → n < 2 ^ 128 → or_zero (only t n) < 2 ^ 128
zero_small true n h = h
zero_small false n h = pow_pos 128

-- BitNot gives Bits
gives_bits : (s t : ScalarType) → is_bits s && same_type t s ≡ true → is_bits t ≡ true
gives_bits s t d = let c = tests (is_bits s) (same_type t s) d in ap is_bits (same_type_lem t s c.1) ∙ c.0

-- the result's type is refused
refused : (a : Bool) → a && false ≡ true → ⊥
refused a d = false≢true (tests a false d).1

bool_unary : (o : Unary) (s : ScalarType) (x : ℕ) → unary_typed o s ty.Bool ≡ true → Each (Below 2) (unary_value o x)
unfolding unary_value
bool_unary un.BoolNot s x d = each_some (Below 2) _ (truth_small (eqb x 0))
bool_unary un.BitNot s x d = absurd (false≢true (gives_bits s ty.Bool d))
bool_unary un.Negate s x d = absurd (refused (same_type s ty.Integer) d)
bool_unary (un.Truncate w) s x d = absurd (false≢true d)
bool_unary (un.SignExtend w) s x d = absurd (refused (same_type s (ty.Bits w)) d)
bool_unary (un.LeadingZeros w) s x d = absurd (refused (same_type s (ty.Bits w)) d)
bool_unary (un.TrailingZeros w) s x d = absurd (refused (same_type s (ty.Bits w)) d)

integer_unary : (o : Unary) (s : ScalarType) (x : ℕ) → unary_typed o s ty.Integer ≡ true → Each (Below (2 ^ 128)) (unary_value o x)
unfolding unary_value
integer_unary un.BoolNot s x d = absurd (refused (same_type s ty.Bool) d)
integer_unary un.BitNot s x d = absurd (false≢true (gives_bits s ty.Integer d))
integer_unary un.Negate s x d = patterns (fitted (neg_ℤ (signed 128 x)))
integer_unary (un.Truncate w) s x d = absurd (false≢true d)
integer_unary (un.SignExtend w) s x d =
    each_some (Below (2 ^ 128)) (extend w x) (by_test (Below (2 ^ 128)) (eqb w 0) (λ c. pow_pos 128) (λ c. residue-lt 128 (extended w x)))
integer_unary (un.LeadingZeros w) s x d =
    let l = leading_le 128 (x % 2 ^ w) in each_some (Below (2 ^ 128)) (leading_in w x) (count_small (leading_in w x) (omega arith))
integer_unary (un.TrailingZeros w) s x d =
    let l = trailing_le 128 (x % 2 ^ w) in each_some (Below (2 ^ 128)) (trailing_in w x) (count_small (trailing_in w x) (omega arith))

unary_small : (o : Unary) (s t : ScalarType) (x u : ℕ) → unary_typed o s t ≡ true → type_width s ≤ 128 → type_width t ≤ 128 → x < size s
    → unary_value o x ≡ Some u → reduced t u < size t
unary_small o s ty.Bool x u d h k l e = bool_unary o s x d u e
unary_small o s (ty.Bits w) x u d h k l e = mod-lt u (pow_pos w)
unary_small o s ty.Integer x u d h k l e = integer_unary o s x d u e

-- the operators of Bool results
abbrev bool_ops : List Binary
bool_ops = bi.And ∷ bi.Or ∷ bi.Xor ∷ comparisons

module _ (a b : ScalarType) (x y : ℕ) (l : x < size a) (m : y < size b) where
  left_small : (t : ScalarType) → same_type a t ≡ true → x < size t
  left_small t d = subst (λ (s : ScalarType). x < size s) (same_type_lem a t d) l

  -- both operands of the result's type
  operands_small : (t : ScalarType) → same_type a t && same_type b t ≡ true → (x < size t) × (y < size t)
  operands_small t d =
      let c = tests (same_type a t) (same_type b t) d in
      (left_small t c.0, subst (λ (s : ScalarType). y < size s) (same_type_lem b t c.1) m)

  abbrev BoolBinary : Binary → Type 0
  BoolBinary o = stored_typed o a b ty.Bool ≡ true → Each (Below 2) (unreduced o ty.Bool x y)

  bool_binary : (o : Binary) → BoolBinary o
  bool_binary o d =
      let truth : (t : Bool) → Each (Below 2) (Some (from_bool t)) = λ t. each_some (Below 2) _ (truth_small t) in
      of_any BoolBinary bool_ops
      (λ d. let (p, q) = operands_small ty.Bool d in each_some (Below 2) _ (and_lt 1 x y p q))
      (λ d. let (p, q) = operands_small ty.Bool d in each_some (Below 2) _ (or_lt 1 x y p q))
      (λ d. let (p, q) = operands_small ty.Bool d in each_some (Below 2) _ (xor_lt 1 x y p q))
      (λ d. truth (lt_z (signed 128 x) (signed 128 y))) (λ d. truth (ltb x y)) (λ d. truth (le_z (signed 128 x) (signed 128 y))) (λ d. truth (leb x y))
      (λ d. truth (eqb x y)) (λ d. truth (not (eqb x y)))
      o (among bool_ops (λ o. stored_typed o a b ty.Bool) refl o d) d

  integer_binary : (o : Binary) → stored_typed o a b ty.Integer ≡ true → Each (Below (2 ^ 128)) (unreduced o ty.Integer x y)
  integer_binary bi.Add d = signed_patterns i128.checked_add x y
  integer_binary bi.Sub d = signed_patterns i128.checked_sub x y
  integer_binary bi.Mul d = signed_patterns i128.checked_mul x y
  integer_binary bi.And d = let (p, q) = operands_small ty.Integer d in each_some (Below (2 ^ 128)) _ (and_lt 128 x y p q)
  integer_binary bi.Or d = let (p, q) = operands_small ty.Integer d in each_some (Below (2 ^ 128)) _ (or_lt 128 x y p q)
  integer_binary bi.Xor d = let (p, q) = operands_small ty.Integer d in each_some (Below (2 ^ 128)) _ (xor_lt 128 x y p q)
  integer_binary bi.ShiftLeft d =
      each_some (Below (2 ^ 128)) (shifted_left x y) (zero_small (ltb (to_u32 y) 128) _ (mod-lt (x * 2 ^ to_u32 y) (pow_pos 128)))
  integer_binary bi.ShiftRight d =
      let p = left_small ty.Integer (tests (same_type a ty.Integer) (is_number b) d).0 in
      each_some (Below (2 ^ 128)) (shifted_right x y) (zero_small (ltb (to_u32 y) 128) _ (lt_of_le_of_lt (div-le_self x (2 ^ to_u32 y)) p))
  integer_binary bi.ArithmeticShiftRight d = each_some (Below (2 ^ 128)) (arithmetic_shift 128 x y) (residue-lt 128 _)
  integer_binary bi.Equal d = absurd (false≢true d)
  integer_binary bi.NotEqual d = absurd (false≢true d)
  integer_binary bi.LessSigned d = absurd (false≢true d)
  integer_binary bi.LessUnsigned d = absurd (false≢true d)
  integer_binary bi.LessEqualSigned d = absurd (false≢true d)
  integer_binary bi.LessEqualUnsigned d = absurd (false≢true d)
  integer_binary bi.DivideSigned d = signed_patterns i128.checked_div x y
  integer_binary bi.RemainderSigned d = signed_patterns i128.checked_rem x y
  integer_binary bi.DivideUnsigned d =
      each_provided (Below (2 ^ 128)) (ltb 0 y) (λ q. each_some (Below (2 ^ 128)) _ (lt_of_le_of_lt (div-le_self x y) (operands_small ty.Integer d).0))
  integer_binary bi.RemainderUnsigned d =
      each_provided (Below (2 ^ 128)) (ltb 0 y) (λ q. each_some (Below (2 ^ 128)) _ (lt_of_le_of_lt (mod-le x y) (operands_small ty.Integer d).0))

pub binary_small : (o : Binary) (a b t : ScalarType) (x y v : ℕ) → stored_typed o a b t ≡ true → type_width t ≤ 128 → x < size a → y < size b
    → binary_value o t x y ≡ Some v → v < size t
unfolding binary_value
binary_small o a b ty.Bool x y v d h l m = each_mapped (Below 2) (reduced ty.Bool) (unreduced o ty.Bool x y) (bool_binary a b x y l m o d) v
binary_small o a b (ty.Bits w) x y v d h l m =
    each_mapped (Below (2 ^ w)) (reduced (ty.Bits w)) (unreduced o (ty.Bits w) x y) (λ n e. mod-lt n (pow_pos w)) v
binary_small o a b ty.Integer x y v d h l m =
    each_mapped (Below (2 ^ 128)) (reduced ty.Integer) (unreduced o ty.Integer x y) (integer_binary a b x y l m o d) v

-- ---- unary's plans

-- a value below half of w bits is its own sign extension
extended_same : (w x : ℕ) → 0 < w → w ≤ 128 → x < 2 ^ (w - 1) → x < 2 ^ 128 → unary_value (un.SignExtend w) x ≡ Some x
unfolding unary_value
extended_same w x p h l k =
    let t : 2 ^ w ≡ 2 ^ (w - 1) + 2 ^ (w - 1) = half_twice w p in
    rw (ne_eqb w 0 (omega arith))
    (ap Some (ap (residue 128) (extended-field x w p h (omega arith) ∙ signed_low w x l) ∙ residue-pos 128 x k))

-- where the operator leaves the value as it is
view_covers : {ρ : World} {g : List ℕ} → Inv ρ g → (n : ℕ) → n < count_of g → (t : ScalarType) (o : Unary) → unary_typed o (type_at g n) t ≡ true
    → is_view o (type_at g n) (range_at g n) ≡ true → ρ.IsSure → Covers (unary_means t o (value ρ g n)) (and_then (value ρ g n) (valued t))
view_covers i n l t un.BoolNot d e sure = absurd (false≢true e)
view_covers i n l t un.BitNot d e sure = absurd (false≢true e)
view_covers i n l t un.Negate d e sure = absurd (false≢true e)
view_covers {ρ} {g} i n l t (un.Truncate w) d e sure = rw (same_type_lem t (ty.Bits w) d) (covers_truncate w (value ρ g n))
view_covers {ρ} {g} i n l t (un.SignExtend w) d e sure = λ v q.
    let (p, c) = tests (ltb 0 w) _ e in
    let (h, f) = tests (leb w 128) _ c in
    let k : w ≤ 128 = leb-true w 128 h in
    let (a, r, inside) = fits_facts (w - 1) (range_at g n) f in
    let (x, xs, m) = then_is (value ρ g n) (λ x. and_then (unary_value (un.SignExtend w) x) (valued t)) v q in
    let s = extended_same w x (ltb-true 0 w p) k (fits_small i n l (w - 1) (omega arith) a r inside sure x xs) (value_pattern i n l x xs) in
    rw (xs) (rw s at m)
view_covers i n l t (un.LeadingZeros w) d e sure = absurd (false≢true e)
view_covers i n l t (un.TrailingZeros w) d e sure = absurd (false≢true e)

module _ {ρ : World} {g : List ℕ} (i : Inv ρ g) (n : ℕ) (l : n < count_of g) (t : ScalarType) (o : Unary) (wide : type_width t ≤ 128)
    (width : unary_width o ≤ 128) (typed : unary_typed o (type_at g n) t ≡ true) where
  pub unary-constant_claim : (c : ℕ) → literal g n ≡ Some c → Claim ρ g t (unary_means t o (value ρ g n)) (constant_or t (unary_value o c))
  unary-constant_claim c e = go (unary_value o c) refl
    where
      same : value ρ g n ≡ Some c
      same = literal-value ρ g i n c l e

      go : (r : Option ℕ) → unary_value o c ≡ r → Claim ρ g t (unary_means t o (value ρ g n)) (constant_or t r)
      go None q = tt
      go (Some u) q = (
        refl,
        record { width = wide; small = unary_small o (type_at g n) t c u typed (inv_width i n l) wide (value_small i n l c same) q },
        λ sure v f.
            let m : valued t u ≡ Some v = rw (same, q) at f in
            ap Some (sym (typed_is t (reduced t u) v m).0),
      )

  unary_storable : (r : Option Interval) → unary_range t o (range_at g n) ≡ Some r → Storable ρ g t r (node.unary o n)
  unary_storable r e =
      let ends = unary-ends o t (range_at g n) r (i.ends n l) e in
      record {
        stored = stored_of wide ends (omega arith) width;
        width = wide;
        below = omega arith;
        offset = omega arith;
        parameter = width;
        valid = unary_valid o t (type_at g n) (range_at g n) r typed (inv_valid i n l) e;
        typed = typed;
        refined = λ sure. tt;
        ends = ends;
        within = λ sure v q. stored_within ρ.env t wide (ranged_at g) (operand ρ g) r v (node.unary o n) (typed, held_at i n l sure) q e;
      }

  add_claim : (r : Option (Option Interval)) → unary_range t o (range_at g n) ≡ r
      → Claim ρ g t (unary_means t o (value ρ g n)) (add_or t r (node.unary o n))
  add_claim None e = tt
  add_claim (Some r) e = (refl, unary_storable r e, λ sure v q. q)

  pub unary_plan_claim : Claim ρ g t (unary_means t o (value ρ g n)) (unary_plan g t o n)
  unfolding unary_plan
  unary_plan_claim =
      by_test (Claim ρ g t (unary_means t o (value ρ g n))) (is_view o (type_at g n) (range_at g n))
      (λ e. ((wide, l), refl, view_covers i n l t o typed e))
      (λ e. add_claim (unary_range t o (range_at g n)) refl)

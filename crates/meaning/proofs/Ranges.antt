-- The range of a new node holds its value, if its operands' ranges hold theirs. Assumes nothing.
use mathlib.Core.Path.{◌≡◌, refl, sym, ap, ◌∙◌, subst}
use mathlib.Core.Bool.{true, false, cond, false≢true, ◌&&◌}
use mathlib.Core.List.{List, [], ◌∷◌}
use mathlib.Core.Logic.{⊎_elim}
use Rattle.std.specs.Prelude.{Option, None, Some}
use Prim.Native.Nat.{ℕ, ◌-◌, ◌*◌, ◌/◌, ◌%◌, ◌^◌, ◌≤◌, ◌<◌}
use native.Mathlib.Nat.{lt_of_lt_of_le, lt_of_le_of_lt, mod-lt, mod-le, div-le_self, le_refl, le_trans}
use native.Mathlib.Omega.{arith}
use borrow.Author.Tests.{ltb-true, leb-true, le-leb, ne_eqb}
use lib.Bits.{bit_and, and_le_l}
use lib.Dec.{ltb, eqb}
use lib.IntN.{ℤ, pos, negsuc, neg_ℤ, ◌+ℤ◌, ◌-ℤ◌, ◌*ℤ◌, nat_abs}
use lib.Pow.{pow_pos, pow-lt, pow_mono, ones_lt}
use lib.Signed.{mag, lt_z, quot_z, rem_z, ◌≤ℤ◌, mag_rem}
use Rattle.word.specs.Value.{residue, signed, fits, fitted, is_neg, quotient, remainder}
use Rattle.word.specs.Option.{provided, mapped, both_given, or_else}
use Rattle.word.proofs.Integer.{residue-pos, residue-sub, signed_low, signed_high, signed-residue, signed_mag, lt-or-ge}
use Rattle.range.specs.Interval.{Interval, ◌∈◌, nonnegative, bits_interval, type_interval, filtered, sign_extended, neg_interval, and_interval, udiv_interval, urem_interval, shl_interval, shr_interval}
use Rattle.range.specs.declared.ScalarType.{ScalarType}
use Rattle.range.specs.declared.ScalarType.TheVariants as ty
use Rattle.range.proofs.Order.{orders, less_true}
use Rattle.range.proofs.Sound.{tests, neg_in, add_in, sub_in, mul_in, quot_in, rem_in, and_in, udiv_in, urem_in, shl_in, shr_in, filtered_in, type_in_bits, type_in_bool, sign_extended_in, at_most_lem}
use Rattle.range.proofs.Answers.{none-some, some_is, provided_is}
use Rattle.evaluate.specs.Evaluate.{reduced, unary_value, binary_value, extended}
use Rattle.evaluate.specs.Operator.{type_width}
use Rattle.evaluate.specs.declared.Unary.{Unary}
use Rattle.evaluate.specs.declared.Unary.TheVariants as un
use Rattle.evaluate.specs.declared.Binary.{Binary}
use Rattle.evaluate.specs.declared.Binary.TheVariants as bi
use Rattle.evaluate.proofs.Fields.{residue-narrow, extended-signed, fits_below}
use Rattle.evaluate.proofs.Shifts.{shift_left, shift_right}
use Rattle.graph.specs.Layout.{count_of}
use Rattle.graph.specs.Node as node
use Rattle.graph.specs.Node.{Op}
use Rattle.graph.specs.Insert.{constant_interval}
use Rattle.fold.specs.Shape.{same_type, narrow_type}
use Rattle.fold.specs.Range.{negated_range, held_to, bits_rule, integer_rule, unary_range, binary_range, Ranged, ranged_at, stored_range}
use Rattle.request.specs.Typing.{is_number, unary_typed}
use Rattle.meaning.specs.Value.{Env, Operand, size, integer_of, of_type, valued, and_then, operation_means}
use Rattle.meaning.proofs.Worlds.{World, value}
use Rattle.meaning.proofs.Values.{typed_is, then_is, means_small}
use Rattle.meaning.proofs.Modular.{difference, wraps}
use Rattle.meaning.proofs.Answers.{mapped_is, both_given_lem, each_else, of_any, answering}
use Rattle.meaning.proofs.Invariant.{stored_typed, Ends, Within, Inv}
use Rattle.meaning.proofs.Constants.{pattern, valued_same, constant-within}
use Rattle.meaning.proofs.Views.{same_type_lem, value_small}

-- ---- the readings of a pattern

not_below : (z : ℤ) → pos 0 ≤ℤ z → is_neg z ≡ false
not_below (pos n) h = refl
not_below (negsuc n) h = absurd (omega orders)

-- a pattern that is read as no negative integer is below half
low_half : (w n : ℕ) → n < 2 ^ w → is_neg (signed w n) ≡ false → n < 2 ^ (w - 1)
low_half w n l e =
    ⊎_elim (λ (h : n < 2 ^ (w - 1)). h)
    (λ (h : 2 ^ (w - 1) ≤ n). absurd (false≢true (sym e ∙ ap is_neg (signed_high w n h l)))) (lt-or-ge n (2 ^ (w - 1)))

low_in : (w n : ℕ) (a : Interval) → n < 2 ^ w → (signed w n) ∈ a → pos 0 ≤ℤ a.low → n < 2 ^ (w - 1)
low_in w n a l f h = low_half w n l (not_below (signed w n) (omega orders))

-- a rule that needs ranges that are not negative
not_negative_lem : (p q : Interval) (o : Option Interval) (a : Interval) → provided (nonnegative p && nonnegative q) o ≡ Some a
    → (pos 0 ≤ℤ p.low) × (pos 0 ≤ℤ q.low)
not_negative_lem p q o a e =
    let d = tests (nonnegative p) (nonnegative q) (provided_is _ o e).0 in (at_most_lem (pos 0) p.low d.0, at_most_lem (pos 0) q.low d.1)

-- the same, and a divisor above 0
positive : (p q : Interval) (o : Option Interval) (a : Interval) → provided (nonnegative p && lt_z (pos 0) q.low) o ≡ Some a
    → (pos 0 ≤ℤ p.low) × (pos 0 ≤ℤ q.low)
positive p q o a e =
    let d = tests (nonnegative p) (lt_z (pos 0) q.low) (provided_is _ o e).0 in
    (at_most_lem (pos 0) p.low d.0, omega (orders, less_true (pos 0) q.low d.1))

-- ---- the ranges of types

pub type-within : (t : ScalarType) (v : ℕ) → v < size t → Within t v (type_interval t)
type-within ty.Bool v l a e = type_in_bool v a l e
type-within (ty.Bits w) v l a e = type_in_bits w v a l e
type-within ty.Integer v l a e = absurd (none-some e)

pub type-ends : (t : ScalarType) (a : Interval) → type_interval t ≡ Some a → Ends a
unfolding bits_interval
type-ends ty.Bool a e = subst Ends (some_is e) (record { low = pow_pos 127; high = pow-lt {i = 0} {j = 127} (omega arith) })
type-ends (ty.Bits w) a e =
    let p = provided_is (ltb w 128) _ e in
    let l : w < 128 = ltb-true w 128 p.0 in
    let h : w ≤ 127 = omega arith in
    subst Ends (some_is p.1) (record { low = pow_pos 127; high = lt_of_lt_of_le (ones_lt w) (pow_mono h) })
type-ends ty.Integer a e = absurd (none-some e)

-- ---- types of operands

same_narrow : (s : ScalarType) (w : ℕ) → same_type s (ty.Bits w) ≡ true → narrow_type s w ≡ true
same_narrow s w d = rw (same_type_lem s (ty.Bits w) d) (le-leb w w (le_refl w))

-- a value of Bits of at most w bits
bits_read : (s : ScalarType) (w v : ℕ) (a : Interval) → w ≤ 128 → narrow_type s w ≡ true → v < size s → (integer_of s v) ∈ a → ((pos v) ∈ a) × (v < 2 ^ 128)
bits_read ty.Bool w v a h d l f = absurd (false≢true d)
bits_read (ty.Bits k) w v a h d l f = (f, pattern (ty.Bits k) v (le_trans (leb-true k w d) h) l)
bits_read ty.Integer w v a h d l f = absurd (false≢true d)

-- a value in a range that is not negative is read as itself
read_low : (t : ScalarType) (v : ℕ) (a : Interval) → v < size t → (integer_of t v) ∈ a → pos 0 ≤ℤ a.low → (pos v) ∈ a
read_low ty.Bool v a l f h = f
read_low (ty.Bits w) v a l f h = f
read_low ty.Integer v a l f h = subst (λ (z : ℤ). z ∈ a) (signed_low 128 v (low_in 128 v a l f h)) f

-- ---- Bits

-- the operators with a rule on Bits
abbrev pub bits_rules : List Binary
bits_rules = bi.Add ∷ bi.Sub ∷ bi.Mul ∷ bi.And ∷ bi.ShiftLeft ∷ bi.ShiftRight ∷ []

-- an integer in a, of which v is the low w bits
abbrev Low : ℕ → ℕ → Interval → Type 0
Low w v a = (z : ℤ) × (z ∈ a) × (v ≡ residue w z)

held : (w v : ℕ) (m : Option Interval) → v < 2 ^ w → ((a : Interval) → m ≡ Some a → Low w v a)
    → Within (ty.Bits w) v (or_else (held_to w m) (type_interval (ty.Bits w)))
held w v None l f = type-within (ty.Bits w) v l
held w v (Some a) l f =
    each_else (λ (r : Interval). (pos v) ∈ r) (filtered w a)
    (λ b q.
    let (z, i, d) = f a refl in
    let (j, n) = filtered_in w a b z i q in
    let s : z ≡ pos v = n.1 ∙ ap pos (sym (d ∙ ap (residue w) n.1 ∙ residue-pos w n.0 n.2)) in
    rw (← s) j)
    (type-within (ty.Bits w) v l)

module _ (w : ℕ) (narrow : w ≤ 128) (s t : ScalarType) (x y v : ℕ) (p q a : Interval) (l : x < size s) (m : y < size t)
    (f : (integer_of s x) ∈ p) (g : (integer_of t y) ∈ q) (ends : Ends p) where
  -- of what 128 bits keep of z
  low_of : (z : ℤ) (n : ℕ) → z ∈ a → residue 128 z ≡ n → n % 2 ^ w ≡ v → Low w v a
  low_of z n i d e = (z, i, sym e ∙ ap (λ (j : ℕ). j % 2 ^ w) (sym d) ∙ residue-narrow z 128 w narrow)

  left : narrow_type s w ≡ true → ((pos x) ∈ p) × (x < 2 ^ 128)
  left d = bits_read s w x p narrow d l f

  -- both operands of the result's type
  same_low : same_type s (ty.Bits w) && same_type t (ty.Bits w) ≡ true
      → ((pos x) ∈ p → (pos y) ∈ q → x < 2 ^ 128 → y < 2 ^ 128 → Low w v a) → Low w v a
  same_low d k =
      let c = tests _ _ d in
      let i = left (same_narrow s w c.0) in
      let j = bits_read t w y q narrow (same_narrow t w c.1) m g in
      k i.0 j.0 i.1 j.1

  abbrev BitsLow : Binary → Type 0
  BitsLow o = stored_typed o s t (ty.Bits w) ≡ true → binary_value o (ty.Bits w) x y ≡ Some v → bits_rule o p q ≡ Some a → Low w v a

  bits_low : (o : Binary) → BitsLow o
  unfolding binary_value bits_rule residue shl_interval shr_interval
  bits_low o d e r =
      of_any BitsLow bits_rules
      (λ d e r. same_low d (λ i j b c. low_of (pos x +ℤ pos y) _ (add_in p q a _ _ i j r) refl (some_is e)))
      (λ d e r. same_low d (λ i j b c. low_of (pos x -ℤ pos y) _ (sub_in p q a _ _ i j r) (sym (wraps ◌-ℤ◌ difference residue-sub 128 x y b c)) (some_is e)))
      (λ d e r. same_low d (λ i j b c. low_of (pos x *ℤ pos y) _ (mul_in p q a _ _ i j r) refl (some_is e)))
      (λ d e r. same_low d (λ i j b c. (pos (bit_and x y), and_in p q a x y i j r, sym (some_is e))))
      (λ d e r.
      let i = left (tests (narrow_type s w) (is_number t) d).0 in
      low_of (pos (x * 2 ^ y)) _ (shl_in p q a x y i.0 (read_low t y q m g (not_negative_lem p q _ a r).1) r) (sym (shift_left x y)) (some_is e))
      (λ d e r.
      let i = left (same_narrow s w (tests (same_type s (ty.Bits w)) (is_number t) d).0) in
      (pos (x / 2 ^ y), shr_in p q a x y ends.low i.0 (read_low t y q m g (not_negative_lem p q _ a r).1) r, sym (some_is e) ∙ ap (λ (n : ℕ). n % 2 ^ w) (shift_right x y i.1)))
      o (answering bits_rules (λ o. bits_rule o p q) refl o r) d e r

-- ---- Integer

-- the operators with a rule on Integer
abbrev pub integer_rules : List Binary
integer_rules = bi.Add ∷ bi.Sub ∷ bi.Mul ∷ bi.And ∷ bi.DivideSigned ∷ bi.RemainderSigned ∷ bi.DivideUnsigned ∷ bi.RemainderUnsigned ∷ []

pub fitted_is : (z u : ℤ) → fitted z ≡ Some u → (z ≡ u) × (mag u < 2 ^ 127)
fitted_is z u e =
    let p = provided_is (fits z) (Some z) e in
    let s : z ≡ u = some_is p.1 in
    (s, subst (λ (i : ℤ). mag i < 2 ^ 127) s ((fits_below z).0 p.0))

pub quotient_is : (x y u : ℤ) → quotient x y ≡ Some u → (quot_z x y ≡ u) × (mag u < 2 ^ 127)
unfolding quotient
quotient_is x y u e = fitted_is (quot_z x y) u (provided_is (ltb 0 (nat_abs y)) _ e).1

remainder_is : (x y u : ℤ) → mag x < 2 ^ 127 → remainder x y ≡ Some u → (rem_z x y ≡ u) × (mag u < 2 ^ 127)
unfolding remainder
remainder_is x y u l e =
    let p = provided_is (ltb 0 (nat_abs y)) _ e in
    let s : rem_z x y ≡ u = some_is (provided_is (fits (quot_z x y)) (Some (rem_z x y)) p.1).1 in
    (s, subst (λ (i : ℤ). mag i < 2 ^ 127) s (lt_of_le_of_lt (mag_rem x y) l))

plain : (o : Option ℕ) (v : ℕ) → mapped (reduced ty.Integer) o ≡ Some v → o ≡ Some v
plain None v e = e
plain (Some n) v e = e

-- a checked signed result, by what its answer is
checked_in : (m : Option ℤ) (z : ℤ) (a : Interval) (v : ℕ) → ((u : ℤ) → m ≡ Some u → (z ≡ u) × (mag u < 2 ^ 127)) → z ∈ a
    → mapped (residue 128) m ≡ Some v → (signed 128 v) ∈ a
checked_in m z a v is i e =
    let (u, d, c) = mapped_is (residue 128) m e in
    let (s, l) = is u d in
    let r : z ≡ signed 128 v = s ∙ sym (signed-residue 128 u (omega arith) l) ∙ ap (signed 128) c in
    subst (λ (j : ℤ). j ∈ a) r i

-- operands of type Integer
abbrev Integers : ℕ → ℕ → Interval → Interval → Type 0
Integers x y p q = (x < 2 ^ 128) × (y < 2 ^ 128) × ((signed 128 x) ∈ p) × ((signed 128 y) ∈ q)

module _ (s t : ScalarType) (x y v : ℕ) (p q a : Interval) (l : x < size s) (m : y < size t) (f : (integer_of s x) ∈ p) (g : (integer_of t y) ∈ q) where
  integers : same_type s ty.Integer && same_type t ty.Integer ≡ true → Integers x y p q
  integers d =
      let c = tests _ _ d in
      let i : s ≡ ty.Integer = same_type_lem s ty.Integer c.0 in
      let j : t ≡ ty.Integer = same_type_lem t ty.Integer c.1 in
      (rw i at l, rw j at m, rw i at f, rw j at g)

  -- a rule of integers, and its operator's checked result
  checked : same_type s ty.Integer && same_type t ty.Integer ≡ true → (h : ℤ → ℤ → Option ℤ) (k : ℤ → ℤ → ℤ)
      → ((u : ℤ) → mag (signed 128 x) < 2 ^ 127 → h (signed 128 x) (signed 128 y) ≡ Some u → (k (signed 128 x) (signed 128 y) ≡ u) × (mag u < 2 ^ 127))
      → ((signed 128 x) ∈ p → (signed 128 y) ∈ q → (k (signed 128 x) (signed 128 y)) ∈ a)
      → mapped (reduced ty.Integer) (mapped (residue 128) (h (signed 128 x) (signed 128 y))) ≡ Some v → (signed 128 v) ∈ a
  checked d h k is i e =
      let (l, m, f, g) = integers d in
      checked_in _ _ a v (λ u. is u (signed_mag 128 x (omega arith) l)) (i f g) (plain _ v e)

  -- a rule of naturals, for a result no greater than the left operand
  natural : same_type s ty.Integer && same_type t ty.Integer ≡ true → (n : ℕ) → n ≤ x
      → (pos 0 ≤ℤ p.low) × (pos 0 ≤ℤ q.low) → ((pos x) ∈ p → (pos y) ∈ q → (pos n) ∈ a) → n ≡ v → (signed 128 v) ∈ a
  natural d n k h i e =
      let (l, m, f, g) = integers d in
      rw (← e, signed_low 128 n (lt_of_le_of_lt k (low_in 128 x p l f h.0))) (i (read_low ty.Integer x p l f h.0) (read_low ty.Integer y q m g h.1))

  abbrev IntegerIn : Binary → Type 0
  IntegerIn o = stored_typed o s t ty.Integer ≡ true → binary_value o ty.Integer x y ≡ Some v → integer_rule o p q ≡ Some a → (signed 128 v) ∈ a

  integer_in : (o : Binary) → IntegerIn o
  unfolding binary_value integer_rule and_interval udiv_interval urem_interval
  integer_in o d e r =
      of_any IntegerIn integer_rules
      (λ d e r. checked d (λ i j. fitted (i +ℤ j)) ◌+ℤ◌ (λ u l. fitted_is _ u) (λ f g. add_in p q a _ _ f g r) e)
      (λ d e r. checked d (λ i j. fitted (i -ℤ j)) ◌-ℤ◌ (λ u l. fitted_is _ u) (λ f g. sub_in p q a _ _ f g r) e)
      (λ d e r. checked d (λ i j. fitted (i *ℤ j)) ◌*ℤ◌ (λ u l. fitted_is _ u) (λ f g. mul_in p q a _ _ f g r) e)
      (λ d e r. natural d (bit_and x y) (and_le_l x y) (not_negative_lem p q _ a r) (λ f g. and_in p q a x y f g r) (some_is e))
      (λ d e r. checked d quotient quot_z (λ u l. quotient_is _ _ u) (λ f g. quot_in p q a _ _ f g r) e)
      (λ d e r. checked d remainder rem_z (λ u l. remainder_is _ _ u l) (λ f g. rem_in p q a _ _ f g r) e)
      (λ d e r.
      natural d (x / y) (div-le_self x y) (positive p q _ a r) (λ f g. udiv_in p q a x y f g r) (some_is (provided_is (ltb 0 y) _ (plain _ v e)).1))
      (λ d e r.
      natural d (x % y) (mod-le x y) (positive p q _ a r) (λ f g. urem_in p q a x y f g r) (some_is (provided_is (ltb 0 y) _ (plain _ v e)).1))
      o (answering integer_rules (λ o. integer_rule o p q) refl o r) d e r

-- ---- the range of a new node

binary-within : (o : Binary) (t ta tb : ScalarType) (ra rb r : Option Interval) (x y v : ℕ) → stored_typed o ta tb t ≡ true → type_width t ≤ 128
    → x < size ta → y < size tb → Within ta x ra → Within tb y rb → ((a : Interval) → ra ≡ Some a → Ends a) → binary_value o t x y ≡ Some v
    → v < size t → binary_range t o ra rb ≡ Some r → Within t v r
unfolding binary_range
binary-within o ty.Bool ta tb ra rb r x y v d h l m f g ends e k c = rw (← some_is c) (type-within ty.Bool v k)
binary-within o (ty.Bits w) ta tb ra rb r x y v d h l m f g ends e k c =
    rw (← some_is c) (held w v (both_given ra rb (bits_rule o)) k (λ a b.
    let (p, q, i, j, u) = both_given_lem (bits_rule o) ra rb b in
    bits_low w h ta tb x y v p q a l m (f p i) (g q j) (ends p i) o d e u))
binary-within o ty.Integer ta tb ra rb r x y v d h l m f g ends e k c =
    let (a, b, z) = mapped_is Some (both_given ra rb (integer_rule o)) c in
    let (p, q, i, j, u) = both_given_lem (integer_rule o) ra rb b in
    rw (← z) (λ n s. rw (← some_is s) (integer_in ta tb x y v p q a l m (f p i) (g q j) o d e u))

-- the sign copied from w bits
extended_in : (w x v : ℕ) (a : Interval) → v ≡ cond (eqb w 0) 0 (residue 128 (extended w x)) → sign_extended w ≡ Some a → (signed 128 v) ∈ a
unfolding sign_extended
extended_in w x v a e r =
    let c = tests (ltb 0 w) (ltb w 128) (provided_is _ _ r).0 in
    let p : 0 < w = ltb-true 0 w c.0 in
    let h : w < 128 = ltb-true w 128 c.1 in
    let z : ℤ = signed w (x % 2 ^ w) in
    let m : mag z < 2 ^ (w - 1) = signed_mag w (x % 2 ^ w) p (mod-lt x (pow_pos w)) in
    let k : w - 1 ≤ 127 = omega arith in
    let b : v ≡ residue 128 z = e ∙ rw (ne_eqb w 0 (omega arith)) (ap (residue 128) (extended-signed x w p (omega arith))) in
    rw (b, signed-residue 128 z (omega arith) (lt_of_lt_of_le m (pow_mono k))) (sign_extended_in w a z m r)

negated_within : (x v : ℕ) (ra r : Option Interval) → Within ty.Integer x ra → mapped (residue 128) (fitted (neg_ℤ (signed 128 x))) ≡ Some v
    → negated_range ra ≡ Some r → Within ty.Integer v r
negated_within x v None r f e c = absurd (none-some c)
negated_within x v (Some p) r f e c =
    let (a, b, z) = mapped_is Some (neg_interval p) c in
    rw (← z) (λ n s. rw (← some_is s) (checked_in _ _ a v (fitted_is (neg_ℤ (signed 128 x))) (neg_in p a (signed 128 x) (f p refl) b) e))

unary-within : (o : Unary) (t s : ScalarType) (ra r : Option Interval) (x u v : ℕ) → unary_typed o s t ≡ true
    → Within s x ra → unary_value o x ≡ Some u → v ≡ reduced t u → v < size t → unary_range t o ra ≡ Some r → Within t v r
unfolding unary_range unary_value
unary-within un.BoolNot t s ra r x u v d f e q k c = rw (← some_is c) (type-within t v k)
unary-within un.BitNot t s ra r x u v d f e q k c = rw (← some_is c) (type-within t v k)
unary-within un.Negate t s ra r x u v d f e q k c =
    let b = tests (same_type s ty.Integer) (same_type t ty.Integer) d in
    let i : s ≡ ty.Integer = same_type_lem s ty.Integer b.0 in
    let j : t ≡ ty.Integer = same_type_lem t ty.Integer b.1 in
    let n : v ≡ u = rw j at q in
    rw (j, n) (negated_within x u ra r (rw i at f) e c)
unary-within (un.Truncate w) t s ra r x u v d f e q k c = rw (← some_is c) (type-within t v k)
unary-within (un.SignExtend w) ty.Bool s ra r x u v d f e q k c = rw (← some_is c) (type-within ty.Bool v k)
unary-within (un.SignExtend w) (ty.Bits n) s ra r x u v d f e q k c = rw (← some_is c) (type-within (ty.Bits n) v k)
unary-within (un.SignExtend w) ty.Integer s ra r x u v d f e q k c = rw (← some_is c) (λ a b. extended_in w x v a (q ∙ sym (some_is e)) b)
unary-within (un.LeadingZeros w) t s ra r x u v d f e q k c = rw (← some_is c) (type-within t v k)
unary-within (un.TrailingZeros w) t s ra r x u v d f e q k c = rw (← some_is c) (type-within t v k)

-- ---- the range of any stored node

-- an operand's value is of its type and lies in its range, whose ends are integers of 128 bits
pub record Held (a : Ranged) (v : Option ℕ) : Type 0 where
  pub small : (x : ℕ) → v ≡ Some x → x < size a.type
  pub within : (x : ℕ) → v ≡ Some x → Within a.type x a.range
  pub ends : (i : Interval) → a.range ≡ Some i → Ends i

-- an operation of type t on operands that are held; a Refine's source lies in its range as a value of t too
abbrev pub HeldIn : (ℕ → Ranged) → (ℕ → Operand) → ScalarType → Op → Type 0
HeldIn known look t (node.constant c) = c < size t
HeldIn known look t (node.input i) = Unit {0}
HeldIn known look t (node.refine i) = (x : ℕ) → (look i).val ≡ Some x → Within t x (known i).range
HeldIn known look t (node.effect i) = Unit {0}
HeldIn known look t (node.slice i o w) = Unit {0}
HeldIn known look t (node.concat i j w) = Unit {0}
HeldIn known look t (node.unary u i) = (unary_typed u (known i).type t ≡ true) × Held (known i) (look i).val
HeldIn known look t (node.binary b i j) = (stored_typed b (known i).type (known j).type t ≡ true) × Held (known i) (look i).val × Held (known j) (look j).val

module _ (ρ : Env) (t : ScalarType) (wide : type_width t ≤ 128) (known : ℕ → Ranged) (look : ℕ → Operand) (r : Option Interval) (v : ℕ) where
  -- where the range is the type's
  typed-within : (o : Op) → operation_means ρ t o look ≡ Some v → Some (type_interval t) ≡ Some r → Within t v r
  typed-within o e q = rw (← some_is q) (type-within t v (means_small ρ t o look v e))

  pub stored_within : (o : Op) → HeldIn known look t o → operation_means ρ t o look ≡ Some v → stored_range t o known ≡ Some r → Within t v r
  stored_within (node.constant c) h e q =
      let p : c ≡ v = some_is (sym (valued_same t c h) ∙ e) in
      rw (← some_is q) (subst (λ (n : ℕ). Within t n (constant_interval t c)) p (constant-within t c wide h))
  stored_within (node.input i) h e q = typed-within (node.input i) e q
  stored_within (node.refine i) h e q =
      let (x, xs, f) = then_is (look i).val (of_type t) v e in
      rw (← some_is q) (subst (λ (n : ℕ). Within t n (known i).range) (sym (typed_is t x v f).0) (h x xs))
  stored_within (node.effect i) h e q = typed-within (node.effect i) e q
  stored_within (node.slice i o w) h e q = typed-within (node.slice i o w) e q
  stored_within (node.concat i j w) h e q = typed-within (node.concat i j w) e q
  stored_within (node.unary u i) h e q =
      let (x, xs, f) = then_is (look i).val (λ x. and_then (unary_value u x) (valued t)) v e in
      let (y, ys, k) = then_is (unary_value u x) (valued t) v f in
      let (s, l) = typed_is t (reduced t y) v k in
      unary-within u t (known i).type (known i).range r x y v h.0 (h.1.within x xs) ys s l q
  stored_within (node.binary b i j) h e q =
      let (x, xs, f) = then_is (look i).val (λ x. and_then (look j).val (λ y. and_then (binary_value b t x y) (of_type t))) v e in
      let (y, ys, k) = then_is (look j).val (λ y. and_then (binary_value b t x y) (of_type t)) v f in
      let (z, zs, m) = then_is (binary_value b t x y) (of_type t) v k in
      let (s, l) = typed_is t z v m in
      binary-within b t (known i).type (known j).type (known i).range (known j).range r x y v h.0 wide (h.1.small x xs) (h.2.small y ys)
      (h.1.within x xs) (h.2.within y ys) h.1.ends (zs ∙ ap Some (sym s)) l q

-- a node of a graph is held
pub held_at : {ρ : World} {g : List ℕ} → Inv ρ g → (n : ℕ) → n < count_of g → ρ.IsSure → Held (ranged_at g n) (value ρ g n)
held_at i n l sure = record { small = value_small i n l; within = i.ranged n l sure; ends = i.ends n l }

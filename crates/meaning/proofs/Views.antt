-- A value seen at another type: identity's plan claims what is asked of it. Assumes nothing.
use mathlib.Core.Path.{◌≡◌, refl, sym, ap, ◌∙◌, subst}
use mathlib.Core.Bool.{true, false, false≢true}
use mathlib.Core.List.{List}
use mathlib.Core.Logic.{⊎_elim}
use Rattle.std.specs.Prelude.{Option, None, Some}
use Prim.Native.Nat.{ℕ, ◌-◌, ◌^◌, ◌≤◌, ◌<◌}
use native.Mathlib.Nat.{mod-mod, lt_of_le_of_lt}
use native.Mathlib.Omega.{arith}
use borrow.Author.Tests.{eqb-true, leb-true, eq-eqb}
use lib.Dec.{leb}
use lib.IntN.{ℤ, pos, negsuc}
use lib.Pow.{lt_of_le_ones}
use lib.Signed.{mag, le_z, ◌≤ℤ◌}
use Rattle.word.specs.Value.{is_neg, signed}
use Rattle.word.proofs.Integer.{signed_low}
use Rattle.range.specs.Interval.{Interval, ◌∈◌, nonnegative, inside_bits, inside_type}
use Rattle.range.specs.declared.ScalarType.{ScalarType}
use Rattle.range.specs.declared.ScalarType.TheVariants as ty
use Rattle.range.proofs.Order.{le_parts}
use Rattle.range.proofs.Sound.{tests, either}
use Rattle.range.proofs.Answers.{some_is}
use Rattle.range.proofs.Valid.{Valid}
use Rattle.evaluate.specs.Evaluate.{unary_value}
use Rattle.evaluate.specs.Operator.{type_width}
use Rattle.evaluate.specs.declared.Unary.TheVariants as un
use Rattle.graph.specs.Layout.{count_of}
use Rattle.graph.specs.Node as node
use Rattle.graph.specs.Node.{type_at, range_at, operation_at}
use Rattle.fold.specs.Shape.{same_type, not_negative, fits}
use Rattle.request.specs.Typing.{is_number, same_types, arithmetic}
use Rattle.plan.specs.Plan as plan
use Rattle.plan.specs.OneOperand.{view_plan, identity_plan}
use Rattle.meaning.specs.Value.{size, integer_of, of_type, valued, and_then, unary_means}
use Rattle.meaning.proofs.Worlds.{World, operand, value}
use Rattle.meaning.proofs.Values.{typed_is, typed_of, then_is, means_small}
use Rattle.meaning.proofs.Invariant.{Ends, Inv, inv_width, inv_step, inv_valid, Storable}
use Rattle.meaning.proofs.Constants.{pattern, valued_same, signed_parts}
use Rattle.meaning.proofs.Answers.{by_test, each_some}
use Rattle.meaning.proofs.Plans.{Covers, Claim}

-- ---- types and values of nodes

pub same_type_lem : (a b : ScalarType) → same_type a b ≡ true → a ≡ b
same_type_lem ty.Bool ty.Bool e = refl
same_type_lem ty.Bool (ty.Bits v) e = absurd (false≢true e)
same_type_lem ty.Bool ty.Integer e = absurd (false≢true e)
same_type_lem (ty.Bits w) ty.Bool e = absurd (false≢true e)
same_type_lem (ty.Bits w) (ty.Bits v) e = ap ty.Bits (eqb-true w v e)
same_type_lem (ty.Bits w) ty.Integer e = absurd (false≢true e)
same_type_lem ty.Integer ty.Bool e = absurd (false≢true e)
same_type_lem ty.Integer (ty.Bits v) e = absurd (false≢true e)
same_type_lem ty.Integer ty.Integer e = refl

-- two operands of the result's type
pub same_types_lem : (a b t : ScalarType) → same_types a b t ≡ true → (a ≡ t) × (b ≡ t)
same_types_lem a b t e = let p = tests (same_type a t) (same_type b t) e in (same_type_lem a t p.0, same_type_lem b t p.1)

pub arithmetic_types : (a b t : ScalarType) → arithmetic a b t ≡ true → (is_number t ≡ true) × (a ≡ t) × (b ≡ t)
arithmetic_types a b t e =
    let p = tests (is_number t) (same_types a b t) e in
    let q = same_types_lem a b t p.1 in
    (p.0, q.0, q.1)

module _ {ρ : World} {g : List ℕ} (i : Inv ρ g) (n : ℕ) (l : n < count_of g) (v : ℕ) (e : value ρ g n ≡ Some v) where
  pub value_small : v < size (type_at g n)
  value_small = means_small ρ.env (type_at g n) (operation_at g n) (operand ρ g) v (sym (inv_step i n l) ∙ e)

  pub value_pattern : v < 2 ^ 128
  value_pattern = pattern (type_at g n) v (inv_width i n l) value_small

-- ---- values in ranges that are not negative

not_negative_lem : (a : Interval) (z : ℤ) → nonnegative a ≡ true → z ∈ a → is_neg z ≡ false
not_negative_lem a (pos n) e h = refl
not_negative_lem a (negsuc n) e h = absurd (below a.low e h.above)
  where
    below : (l : ℤ) → le_z (pos 0) l ≡ true → l ≤ℤ negsuc n → ⊥
    below (pos m) e q = omega (arith, le_parts q)
    below (negsuc m) e q = false≢true e

module _ (s : ScalarType) (x : ℕ) (a : Interval) (small : x < 2 ^ 128) (ends : Ends a) (up : nonnegative a ≡ true) (h : (integer_of s x) ∈ a) where
  pub own_integer : integer_of s x ≡ pos x
  own_integer = by s h
    where
      by : (r : ScalarType) → (integer_of r x) ∈ a → integer_of r x ≡ pos x
      by ty.Bool q = refl
      by (ty.Bits w) q = refl
      by ty.Integer q = signed_parts x small (not_negative_lem a (signed 128 x) up q)

  own_in : (pos x) ∈ a
  own_in = subst (λ (z : ℤ). z ∈ a) own_integer h

  -- it lies below 2 ^ 127, so that every type reads it so
  below_half : x < 2 ^ 127
  below_half = by a.high own_in.below ends.high
    where
      by : (z : ℤ) → pos x ≤ℤ z → mag z < 2 ^ 127 → x < 2 ^ 127
      by (pos n) q r = lt_of_le_of_lt (let p : x ≤ n = omega (arith, le_parts q) in p) r
      by (negsuc n) q r = absurd (omega (arith, le_parts q))

  any_integer : (t : ScalarType) → integer_of t x ≡ pos x
  any_integer ty.Bool = refl
  any_integer (ty.Bits w) = refl
  any_integer ty.Integer = signed_low 128 x below_half

  pub any_within : (t : ScalarType) → (integer_of t x) ∈ a
  any_within t = subst (λ (z : ℤ). z ∈ a) (sym (any_integer t)) own_in

  -- inside Bits(w) it is below 2 ^ w
  inside_small : (w : ℕ) → w ≤ 128 → inside_bits w a ≡ true → x < 2 ^ w
  inside_small w l e =
      ⊎_elim (λ q. let f : 128 ≡ w = (let p = leb-true 128 w q in omega arith) in subst (λ (k : ℕ). x < 2 ^ k) f small)
      (λ q. by a.high q own_in.below)
      (either (leb 128 w) (le_z a.high (pos (2 ^ w - 1))) (tests (nonnegative a) _ e).1)
    where
      by : (z : ℤ) → le_z z (pos (2 ^ w - 1)) ≡ true → pos x ≤ℤ z → x < 2 ^ w
      by (pos n) q r = lt_of_le_ones w (let p : x ≤ n = omega (arith, le_parts r) in let d : n ≤ 2 ^ w - 1 = leb-true n (2 ^ w - 1) q in omega arith)
      by (negsuc n) q r = absurd (omega (arith, le_parts r))

-- ---- what a test of a range says

pub fits_facts : (w : ℕ) (r : Option Interval) → fits w r ≡ true → (a : Interval) × (r ≡ Some a) × (inside_bits w a ≡ true)
fits_facts w None e = absurd (false≢true e)
fits_facts w (Some a) e = (a, refl, e)

negative_facts : (r : Option Interval) → not_negative r ≡ true → (a : Interval) × (r ≡ Some a) × (nonnegative a ≡ true)
negative_facts None e = absurd (false≢true e)
negative_facts (Some a) e = (a, refl, e)

-- ---- truncation

-- a truncation, and then a value of Bits(w), is the value at Bits(w)
pub truncate_valued : (w x : ℕ) → and_then (unary_value (un.Truncate w) x) (valued (ty.Bits w)) ≡ valued (ty.Bits w) x
unfolding unary_value
truncate_valued w x = ap (of_type (ty.Bits w)) (mod-mod x (2 ^ w))

truncate_covers : (w : ℕ) (a : Option ℕ) → Covers (and_then a (valued (ty.Bits w))) (unary_means (ty.Bits w) (un.Truncate w) a)
truncate_covers w a x e = let p = then_is a (valued (ty.Bits w)) x e in rw p.1 (truncate_valued w p.0 ∙ p.2)

pub covers_truncate : (w : ℕ) (a : Option ℕ) → Covers (unary_means (ty.Bits w) (un.Truncate w) a) (and_then a (valued (ty.Bits w)))
covers_truncate w a x e =
    let p = then_is a (λ v. and_then (unary_value (un.Truncate w) v) (valued (ty.Bits w))) x e in
    rw p.1 (sym (truncate_valued w p.0) ∙ p.2)

-- ---- identity

module _ {ρ : World} {g : List ℕ} (i : Inv ρ g) (v : ℕ) (l : v < count_of g) where
  -- a value of the type asked for is itself
  pub seen : (t : ScalarType) → ((x : ℕ) → value ρ g v ≡ Some x → x < size t) → Covers (and_then (value ρ g v) (valued t)) (value ρ g v)
  seen t small x e =
      let p = then_is (value ρ g v) (valued t) x e in
      let q : p.0 ≡ x = some_is (sym (valued_same t p.0 (small p.0 p.1)) ∙ p.2) in
      p.1 ∙ ap Some q

  -- a Refine of a type and with a range that its source's values have
  pub refine_storable : (t : ScalarType) → type_width t ≤ 128 → (a : Interval) → Valid t a → Ends a
      → (ρ.IsSure → (x : ℕ) → value ρ g v ≡ Some x → (x < size t) × ((integer_of t x) ∈ a)) → Storable ρ g t (Some a) (node.refine v)
  refine_storable t wide a valid ends has = record {
    stored = record { width = omega arith; low = ends.low; high = ends.high; offset = omega arith; parameter = omega arith };
    width = wide;
    below = omega arith;
    offset = omega arith;
    parameter = omega arith;
    valid = each_some (Valid t) a valid;
    typed = tt;
    refined = λ sure x m. (has sure x m).0;
    ends = each_some Ends a ends;
    within = λ sure x q.
        let p = then_is (value ρ g v) (of_type t) x q in
        let same : p.0 ≡ x = sym (typed_is t p.0 x p.2).0 in
        each_some (λ b. (integer_of t x) ∈ b) a (has sure x (p.1 ∙ ap Some same)).1;
  }

  module _ (t : ScalarType) (wide : type_width t ≤ 128) (a : Interval) (e : range_at g v ≡ Some a) (up : nonnegative a ≡ true)
      (inside : inside_type t a ≡ true) (small : ρ.IsSure → (x : ℕ) → value ρ g v ≡ Some x → x < size t) where
    refine_claim : Claim ρ g t (and_then (value ρ g v) (valued t)) (plan.add t (range_at g v) (node.refine v))
    refine_claim = (
      refl,
      subst (λ (r : Option Interval). Storable ρ g t r (node.refine v)) (sym e)
          (refine_storable t wide a (record { full = (inv_valid i v l a e).full; inside = inside }) (i.ends v l a e)
          (λ sure x m. (
            small sure x m,
            any_within (type_at g v) x a (value_pattern i v l x m) (i.ends v l a e) up (i.ranged v l sure x m a e) t,
          ))),
      λ sure x q. let m = seen t (small sure) x q in rw m (typed_of t x (small sure x m)),
    )

  -- a value that fits Bits(w)
  pub fits_small : (w : ℕ) → w ≤ 128 → (a : Interval) → range_at g v ≡ Some a → inside_bits w a ≡ true → ρ.IsSure → (x : ℕ) → value ρ g v ≡ Some x → x < 2 ^ w
  fits_small w wide a e f sure x m =
      inside_small (type_at g v) x a (value_pattern i v l x m) (i.ends v l a e) (tests (nonnegative a) _ f).0 (i.ranged v l sure x m a e) w wide f

  view_claim : (t : ScalarType) → type_width t ≤ 128 → Claim ρ g t (and_then (value ρ g v) (valued t)) (view_plan t (range_at g v) v)
  view_claim ty.Bool wide =
      by_test (Claim ρ g ty.Bool (and_then (value ρ g v) (valued ty.Bool))) (fits 1 (range_at g v))
      (λ e.
      let f = fits_facts 1 (range_at g v) e in
      refine_claim ty.Bool wide f.0 f.1 (tests (nonnegative f.0) _ f.2).0 f.2 (fits_small 1 (omega arith) f.0 f.1 f.2))
      (λ e. tt)
  view_claim (ty.Bits w) wide =
      by_test (Claim ρ g (ty.Bits w) (and_then (value ρ g v) (valued (ty.Bits w)))) (fits w (range_at g v))
      (λ e.
      let f = fits_facts w (range_at g v) e in
      refine_claim (ty.Bits w) wide f.0 f.1 (tests (nonnegative f.0) _ f.2).0 f.2 (fits_small w wide f.0 f.1 f.2))
      (λ e. ((wide, wide, l, eq-eqb w w refl), refl, λ sure. truncate_covers w (value ρ g v)))
  view_claim ty.Integer wide =
      by_test (Claim ρ g ty.Integer (and_then (value ρ g v) (valued ty.Integer))) (not_negative (range_at g v))
      (λ e.
      let f = negative_facts (range_at g v) e in
      refine_claim ty.Integer wide f.0 f.1 f.2 refl (λ sure. value_pattern i v l))
      (λ e. tt)

  pub identity_claim : (t : ScalarType) → type_width t ≤ 128 → Claim ρ g t (and_then (value ρ g v) (valued t)) (identity_plan g t v)
  unfolding identity_plan
  identity_claim t wide =
      by_test (Claim ρ g t (and_then (value ρ g v) (valued t))) (same_type (type_at g v) t)
      (λ e.
      let s : type_at g v ≡ t = same_type_lem (type_at g v) t e in
      record { here = l; type = s; means = λ sure. seen t (λ x m. subst (λ (r : ScalarType). x < size r) s (value_small i v l x m)) })
      (λ e. view_claim t wide)

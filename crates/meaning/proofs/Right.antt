-- What binary decides of ranges, of one node twice and of a constant on the right claims what is asked of it. Assumes nothing.
use mathlib.Core.Path.{◌≡◌, refl, sym, ap, ◌∙◌, subst}
use mathlib.Core.Bool.{Bool, true, false, cond, false≢true, ◌&&◌}
use mathlib.Core.List.{List}
use mathlib.Core.Logic.{◌⊎◌, inl, inr, ⊎_elim}
use Rattle.std.specs.Prelude.{Option, None, Some}
use Prim.Native.Nat.{ℕ, ◌-◌, ◌^◌, ◌≤◌, ◌<◌}
use native.Mathlib.Nat.{mod-lt, lt_of_lt_of_le}
use native.Mathlib.Omega.{arith}
use borrow.Author.Tests.{eqb-true, eq-eqb, leb-true}
use lib.Bits.{bit_and}
use lib.Dec.{eqb}
use lib.Pow.{pow_pos, pow_mono, ones_lt}
use Rattle.word.specs.Option.{only, provided, from_bool, both_given}
use Rattle.range.specs.Interval.{Interval}
use Rattle.range.specs.declared.ScalarType.{ScalarType}
use Rattle.range.specs.declared.ScalarType.TheVariants as ty
use Rattle.range.proofs.Sound.{tests}
use Rattle.range.proofs.Answers.{none-some, some_is, provided_is}
use Rattle.evaluate.specs.Evaluate.{reduced, shift_width, unreduced, binary_value}
use Rattle.evaluate.specs.Operator.{type_width}
use Rattle.evaluate.specs.declared.Binary.{Binary}
use Rattle.evaluate.specs.declared.Binary.TheVariants as bi
use Rattle.graph.specs.Node.{type_at, range_at}
use Rattle.graph.specs.Insert.{literal}
use Rattle.fold.specs.Operator.{zero_keeps, zero_makes_zero, bitwise, comparisons, kept_twice, zero_twice, true_twice, false_twice}
use Rattle.fold.specs.Range.{comparison}
use Rattle.fold.specs.Shape.{same_type, same_binary, is_any, mask, ByConstant, by_constant_at}
use Rattle.request.specs.Typing.{is_number, same_types, shift}
use Rattle.request.specs.Typing as typing
use Rattle.plan.specs.Plan as plan
use Rattle.plan.specs.Plan.{Plan}
use Rattle.plan_binary.specs.Binary.{truth_plan, compared_plan, with_itself, zero_plan, ones_plan, right_plan, merged_plan, mask_of_mask, mask_plan}
use Rattle.build.specs.Build.{binary}
use Rattle.meaning.specs.Value.{size, of_type, valued, and_then, binary_means}
use Rattle.meaning.proofs.Worlds.{World, value}
use Rattle.meaning.proofs.Answers.{mapped_is, both_given_lem, each_provided, each_or, binary_is, of_any, answering, by_test, Each, each_none, each_some, each_given}
use Rattle.meaning.proofs.Values.{typed_is, truth_small}
use Rattle.meaning.proofs.Invariant.{shiftable, stored_typed, Inv}
use Rattle.meaning.proofs.Constants.{reduced_same, valued_same, low_valued, size-pos}
use Rattle.meaning.proofs.Tree.{Callable}
use Rattle.meaning.proofs.Plans.{Claim, bits_number}
use Rattle.meaning.proofs.Views.{same_type_lem, value_small, value_pattern, same_types_lem, arithmetic_types}
use Rattle.meaning.proofs.Field.{literal-value, operands, Linked, linked, by_constant_here, by_constant-typed, by_constant-means}
use Rattle.meaning.proofs.Compared.{comparison_sound, sub_twice, xor_twice, and_twice, or_twice, equal_twice, not_equal_twice, less_signed_twice, less_unsigned_twice, at_most-signed_twice, at_most_unsigned_twice, and_zero, mul-zero, or-zero, xor-zero, shift_left_zero, shift_right_zero, add-zero, sub-zero, arithmetic-zero, mask_is, and_ones, or_ones, and-true, or-true, and_merged, or_merged, xor_merged, and_of_or_merged}

-- ---- types of operands

-- the left operand of a shift
shift_type : (a b t : ScalarType) → shift a b t ≡ true → a ≡ t
shift_type a b t e = same_type_lem a t (tests (same_type a t) (is_number b) (tests (is_number t) _ e).1).0

-- a comparison gives Bool, of two operands of one type
compared_types : (a b t : ScalarType) → typing.comparison a b t ≡ true → (t ≡ ty.Bool) × (a ≡ b)
compared_types a b t e = let p = tests (same_type t ty.Bool) (same_type a b) e in (same_type_lem t ty.Bool p.0, same_type_lem a b p.1)

-- a comparison
comparison_types : (o : Binary) → is_any comparisons o ≡ true → (a b t : ScalarType) → stored_typed o a b t ≡ true → (t ≡ ty.Bool) × (a ≡ b)
comparison_types =
    of_any (λ o. (a b t : ScalarType) → stored_typed o a b t ≡ true → (t ≡ ty.Bool) × (a ≡ b)) comparisons
    compared_types compared_types compared_types compared_types compared_types compared_types

-- what ranges decide is a comparison
compares : (o : Binary) (c d : Interval) (truth : Bool) → comparison o c d ≡ Some truth → is_any comparisons o ≡ true
unfolding comparison
compares o c d truth e = answering comparisons (λ o. comparison o c d) refl o e

-- ---- 0 on the right

shift_width_lem : (t : ScalarType) → type_width t ≤ 128 → shift_width t ≤ 128
shift_width_lem ty.Bool h = omega arith
shift_width_lem (ty.Bits w) h = h
shift_width_lem ty.Integer h = omega arith

same_size : {a t : ScalarType} → a ≡ t → (x : ℕ) → x < size a → x < size t
same_size e x h = subst (λ (s : ScalarType). x < size s) e h

-- the left operand of a stored shift left is of its result's type too
shiftable_size : (a t : ScalarType) → shiftable a t ≡ true → (x : ℕ) → x < size a → x < size t
shiftable_size a ty.Bool e x h = absurd (false≢true e)
shiftable_size ty.Bool (ty.Bits w) e x h = absurd (false≢true e)
shiftable_size (ty.Bits v) (ty.Bits w) e x h = lt_of_lt_of_le h (pow_mono (leb-true v w e))
shiftable_size ty.Integer (ty.Bits w) e x h = absurd (false≢true e)
shiftable_size a ty.Integer e x h = same_size (same_type_lem a ty.Integer e) x h

-- 0 on the right keeps the left operand, a value of the result's type
abbrev Keeps : Binary → Type 0
Keeps o =
    ((a b t : ScalarType) → stored_typed o a b t ≡ true → (x : ℕ) → x < size a → x < size t)
    × ((t : ScalarType) → type_width t ≤ 128 → (x : ℕ) → x < size t → x < 2 ^ 128 → binary_value o t x 0 ≡ Some x)

keeps : (o : Binary) → is_any zero_keeps o ≡ true → Keeps o
keeps =
    of_any Keeps zero_keeps
    (λ a b t e. same_size (arithmetic_types a b t e).1, λ t h. add-zero t)
    (λ a b t e. same_size (arithmetic_types a b t e).1, λ t h. sub-zero t)
    (λ a b t e. same_size (same_types_lem a b t e).0, λ t h x s m. or-zero t x s)
    (λ a b t e. same_size (same_types_lem a b t e).0, λ t h x s m. xor-zero t x s)
    (λ a b t e. shiftable_size a t (tests (shiftable a t) (is_number b) e).0, λ t h. shift_left_zero t)
    (λ a b t e. same_size (shift_type a b t e), λ t h. shift_right_zero t)
    (λ a b t e. same_size (shift_type a b t e), λ t h x s m. arithmetic-zero t x (shift_width_lem t h) s)

-- 0 on the right makes it 0
abbrev MakesZero : Binary → Type 0
MakesZero o = (t : ScalarType) (x : ℕ) → binary_value o t x 0 ≡ Some 0

makes_zero : (o : Binary) → is_any zero_makes_zero o ≡ true → MakesZero o
makes_zero = of_any MakesZero zero_makes_zero and_zero mul-zero

-- ---- masks of masks

-- both operands are of the result's type, and two such operations by constants are one by the constant of these
abbrev Merges : Binary → Type 0
Merges o =
    ((a b t : ScalarType) → stored_typed o a b t ≡ same_types a b t)
    × ((t : ScalarType) (x c d v k : ℕ) → binary_value o t x c ≡ Some v → binary_value o t c d ≡ Some k → binary_value o t v d ≡ binary_value o t x k)

merges : (o : Binary) → is_any bitwise o ≡ true → Merges o
merges = of_any Merges bitwise (λ a b t. refl, and_merged) (λ a b t. refl, or_merged) (λ a b t. refl, xor_merged)

-- one value twice: kept, 0, true or false
keeps_twice : (o : Binary) → is_any kept_twice o ≡ true → (t : ScalarType) (x : ℕ) → x < size t → binary_value o t x x ≡ Some x
keeps_twice = of_any (λ o. (t : ScalarType) (x : ℕ) → x < size t → binary_value o t x x ≡ Some x) kept_twice and_twice or_twice

merges_twice : (o : Binary) → is_any kept_twice o ≡ true → Merges o
merges_twice = of_any Merges kept_twice (merges bi.And refl) (merges bi.Or refl)

makes_zero_twice : (o : Binary) → is_any zero_twice o ≡ true → (t : ScalarType) (x : ℕ) → x < 2 ^ 128 → binary_value o t x x ≡ Some 0
makes_zero_twice =
    of_any (λ o. (t : ScalarType) (x : ℕ) → x < 2 ^ 128 → binary_value o t x x ≡ Some 0) zero_twice sub_twice (λ t x m. xor_twice t x)

-- a comparison with this truth of one value twice
abbrev Truth : ℕ → Binary → Type 0
Truth c o = (is_any comparisons o ≡ true) × ((x : ℕ) → binary_value o ty.Bool x x ≡ Some c)

true_twice_lem : (o : Binary) → is_any true_twice o ≡ true → Truth 1 o
true_twice_lem = of_any (Truth 1) true_twice (refl, equal_twice) (refl, at_most-signed_twice) (refl, at_most_unsigned_twice)

false_twice_lem : (o : Binary) → is_any false_twice o ≡ true → Truth 0 o
false_twice_lem = of_any (Truth 0) false_twice (refl, not_equal_twice) (refl, less_signed_twice) (refl, less_unsigned_twice)

-- a result of type Bits(w) is below 2 ^ w
evaluated_small : (w : ℕ) (o : Binary) (x y v : ℕ) → binary_value o (ty.Bits w) x y ≡ Some v → v < 2 ^ w
unfolding binary_value
evaluated_small w o x y v e =
    let s = mapped_is (reduced (ty.Bits w)) (unreduced o (ty.Bits w) x y) e in
    subst (λ (n : ℕ). n < 2 ^ w) s.2 (mod-lt s.0 (pow_pos w))

and_is : (t : ScalarType) (x y : ℕ) → binary_value bi.And t x y ≡ Some (reduced t (bit_and x y))
unfolding binary_value
and_is t x y = refl

bits_typed : (w : ℕ) → same_types (ty.Bits w) (ty.Bits w) (ty.Bits w) ≡ true
bits_typed w = rw (eq-eqb w w refl)

-- ---- what the operator gives

truth_is : (b : Option Bool) (p : Plan) → truth_plan b ≡ Some p → (truth : Bool) × (b ≡ Some truth) × (plan.constant ty.Bool (from_bool truth) ≡ p)
truth_is None p e = absurd (none-some e)
truth_is (Some truth) p e = (truth, refl, some_is e)

module _ {ρ : World} {g : List ℕ} (i : Inv ρ g) (t : ScalarType) (o : Binary) (l r : ℕ) (k : Callable g (binary t o l r)) where
  -- what is asked for
  abbrev Asked : Plan → Type 0
  Asked p = Claim ρ g t (binary_means t o (value ρ g l) (value ρ g r)) p

  -- the operator gives this of the operands' values
  abbrev Gives : (ℕ → ℕ → ℕ) → Type 0
  Gives f = ρ.IsSure → (x y : ℕ) → value ρ g l ≡ Some x → value ρ g r ≡ Some y → binary_value o t x y ≡ Some (f x y)

  module _ (sure : ρ.IsSure) (f : ℕ → ℕ → ℕ) (gives : Gives f) (v : ℕ) (e : binary_means t o (value ρ g l) (value ρ g r) ≡ Some v) where
    given_is : (x : ℕ) × (y : ℕ) × (value ρ g l ≡ Some x) × (value ρ g r ≡ Some y) × (v ≡ f x y) × (v < size t)
    given_is =
        let s = operands ρ g t o l r v e in
        let q = typed_is t (f s.x s.y) v (sym (ap (λ (a : Option ℕ). and_then a (of_type t)) (gives sure s.x s.y s.left s.right)) ∙ s.means) in
        (s.x, s.y, s.left, s.right, q.0, q.1)

  constant_claim : (c : ℕ) → c < size t → Gives (λ x y. c) → Asked (plan.constant t c)
  constant_claim c h gives = (
    refl,
    record { width = k.0; small = rw (reduced_same t c h) h },
    λ sure v e. let s = given_is sure (λ x y. c) gives v e in ap Some (reduced_same t c h ∙ sym s.4),
  )

  keep_claim : Gives (λ x y. x) → Asked (plan.identity t l)
  keep_claim gives = (
    (k.0, k.1),
    refl,
    λ sure v e.
        let s = given_is sure (λ x y. x) gives v e in
        rw s.2 (ap (valued t) (sym s.4) ∙ valued_same t v s.5),
  )

  give_left : type_at g l ≡ t → Gives (λ x y. x) → Asked (plan.give l)
  give_left s gives = record { here = k.1; type = s; means = λ sure v e. let s = given_is sure (λ x y. x) gives v e in s.2 ∙ ap Some (sym s.4) }

  give_right : type_at g r ≡ t → Gives (λ x y. y) → Asked (plan.give r)
  give_right s gives = record { here = k.2; type = s; means = λ sure v e. let s = given_is sure (λ x y. y) gives v e in s.3 ∙ ap Some (sym s.4) }

  -- true or false
  truth_claim : (c : ℕ) → c < 2 → t ≡ ty.Bool
      → (ρ.IsSure → (x y : ℕ) → value ρ g l ≡ Some x → value ρ g r ≡ Some y → binary_value o ty.Bool x y ≡ Some c) → Asked (plan.constant ty.Bool c)
  truth_claim c h b gives =
      subst Asked (ap (λ (s : ScalarType). plan.constant s c) b)
      (constant_claim c (same_size (sym b) c h) (λ sure x y ex ey. ap (λ (s : ScalarType). binary_value o s x y) b ∙ gives sure x y ex ey))

  -- And, Or and Xor are of operands of their own type
  bit_types : Merges o → (type_at g l ≡ t) × (type_at g r ≡ t)
  bit_types m = same_types_lem (type_at g l) (type_at g r) t (sym (m.0 (type_at g l) (type_at g r) t) ∙ k.3)

  -- ---- ranges

  pub compared_claim : (p : Plan) → compared_plan o (range_at g l) (range_at g r) ≡ Some p
      → Claim ρ g t (binary_means t o (value ρ g l) (value ρ g r)) p
  compared_claim p e =
      let d = truth_is (both_given (range_at g l) (range_at g r) (comparison o)) p e in
      let f = both_given_lem (comparison o) (range_at g l) (range_at g r) d.1 in
      let s = comparison_types o (compares o f.0 f.1 d.0 f.4) (type_at g l) (type_at g r) t k.3 in
      subst Asked d.2
      (truth_claim (from_bool d.0) (truth_small d.0) s.0
      (λ sure x y ex ey.
      comparison_sound o (type_at g l) x y f.0 f.1 d.0 (value_pattern i l k.1 x ex) (value_pattern i r k.2 y ey)
      (i.ranged l k.1 sure x ex f.0 f.2)
      (rw s.1 (i.ranged r k.2 sure y ey f.1 f.3)) (i.ends l k.1 f.0 f.2) (i.ends r k.2 f.1 f.3) f.4))

  -- ---- one node twice

  module _ (same : l ≡ r) where
    -- what the operator gives of one value twice
    twice_gives : (s : ScalarType) (f : ℕ → ℕ) → ((x : ℕ) → value ρ g l ≡ Some x → binary_value o s x x ≡ Some (f x))
        → ρ.IsSure → (x y : ℕ) → value ρ g l ≡ Some x → value ρ g r ≡ Some y → binary_value o s x y ≡ Some (f x)
    twice_gives s f h sure x y ex ey =
        let q : y ≡ x = some_is (sym ey ∙ ap (value ρ g) (sym same) ∙ ex) in
        ap (binary_value o s x) q ∙ h x ex

    zero_twice_lem : ((x : ℕ) → x < 2 ^ 128 → binary_value o t x x ≡ Some 0) → Asked (plan.constant t 0)
    zero_twice_lem h = constant_claim 0 (size-pos t) (twice_gives t (λ x. 0) (λ x ex. h x (value_pattern i l k.1 x ex)))

    keep_twice : Merges o → ((x : ℕ) → x < size t → binary_value o t x x ≡ Some x) → Asked (plan.identity t l)
    keep_twice m h = keep_claim (twice_gives t (λ x. x) (λ x ex. h x (same_size (bit_types m).0 x (value_small i l k.1 x ex))))

    truth_twice : (c : ℕ) → c < 2 → Truth c o → Asked (plan.constant ty.Bool c)
    truth_twice c small h =
        truth_claim c small (comparison_types o h.0 (type_at g l) (type_at g r) t k.3).0 (twice_gives ty.Bool (λ x. c) (λ x ex. h.1 x))

  -- ---- a constant on the right

  -- And or Or with all ones
  ones_facts : {A : Type 0} (u v p : A) → cond (same_binary o bi.And) (Some u) (only (same_binary o bi.Or) v) ≡ Some p
      → ((o ≡ bi.And) × (u ≡ p)) ⊎ ((o ≡ bi.Or) × (v ≡ p))
  ones_facts {A} u v p = go (same_binary o bi.And) refl (same_binary o bi.Or) refl
    where
      go : (a : Bool) → same_binary o bi.And ≡ a → (b : Bool) → same_binary o bi.Or ≡ b → cond a (Some u) (only b v) ≡ Some p
          → ((o ≡ bi.And) × (u ≡ p)) ⊎ ((o ≡ bi.Or) × (v ≡ p))
      go true q b d e = inl (binary_is o bi.And q, some_is e)
      go false q true d e = inr (binary_is o bi.Or d, some_is e)
      go false q false d e = absurd (none-some e)

  module _ (c : ℕ) (lit : literal g r ≡ Some c) where
    -- what the operator gives of a value and the constant
    right_gives : (f : ℕ → ℕ) → ((x : ℕ) → value ρ g l ≡ Some x → binary_value o t x c ≡ Some (f x)) → Gives (λ x y. f x)
    right_gives f h sure x y ex ey =
        let q : y ≡ c = some_is (sym ey ∙ literal-value ρ g i r c k.2 lit) in
        ap (binary_value o t x) q ∙ h x ex

    zero_claim : c ≡ 0 → (p : Plan) → zero_plan t o l ≡ Some p → Asked p
    zero_claim z =
        by_test (Each Asked) (is_any zero_keeps o)
        (λ q.
        let h = keeps o q in
        each_some Asked _
        (keep_claim
        (by (λ x. x)
        (λ x ex.
        h.1 t k.0 x (h.0 (type_at g l) (type_at g r) t k.3 x (value_small i l k.1 x ex)) (value_pattern i l k.1 x ex)))))
        (λ q.
        each_provided Asked (is_any zero_makes_zero o)
        (λ d.
        each_some Asked _ (constant_claim 0 (size-pos t) (by (λ x. 0) (λ x ex. makes_zero o d t x)))))
      where
        by : (f : ℕ → ℕ) → ((x : ℕ) → value ρ g l ≡ Some x → binary_value o t x 0 ≡ Some (f x)) → Gives (λ x y. f x)
        by f h = right_gives f (λ x ex. ap (binary_value o t x) z ∙ h x ex)

pub twice_claim : {ρ : World} {g : List ℕ} (i : Inv ρ g) (t : ScalarType) (o : Binary) (l r : ℕ) (k : Callable g (binary t o l r)) → l ≡ r → (p : Plan)
    → with_itself t o l ≡ Some p → Claim ρ g t (binary_means t o (value ρ g l) (value ρ g r)) p
twice_claim i t o l r k q =
    let P = Asked i t o l r k in
    by_test (Each P) (is_any kept_twice o) (λ a. each_some P _ (keep_twice i t o l r k q (merges_twice o a) (keeps_twice o a t)))
    (λ n. by_test (Each P) (is_any zero_twice o) (λ a. each_some P _ (zero_twice_lem i t o l r k q (makes_zero_twice o a t)))
    (λ n. by_test (Each P) (is_any true_twice o) (λ a. each_some P _ (truth_twice i t o l r k q 1 (omega arith) (true_twice_lem o a)))
    (λ n. each_provided P (is_any false_twice o) (λ a. each_some P _ (truth_twice i t o l r k q 0 (omega arith) (false_twice_lem o a))))))

-- ---- all ones on the right

module _ {ρ : World} {g : List ℕ} (i : Inv ρ g) where
  ones_claim : (t : ScalarType) (o : Binary) (l r : ℕ) (k : Callable g (binary t o l r)) (c : ℕ) → literal g r ≡ Some c → (p : Plan)
      → ones_plan t o l r c ≡ Some p → Claim ρ g t (binary_means t o (value ρ g l) (value ρ g r)) p
  ones_claim ty.Bool o l r k c lit p e =
      let d = provided_is (eqb c 1) (cond (same_binary o bi.And) (Some (plan.give l)) (only (same_binary o bi.Or) (plan.give r))) e in
      ⊎_elim
      (λ (h : (o ≡ bi.And) × (plan.give l ≡ p)).
      let s = (bit_types i ty.Bool o l r k (subst Merges (sym h.0) (merges bi.And refl))).0 in
      subst (Asked i ty.Bool o l r k) h.1
      (give_left i ty.Bool o l r k s
      (right_gives i ty.Bool o l r k c lit (λ x. x)
      (λ x ex. (λ j. binary_value (h.0 j) ty.Bool x (eqb-true c 1 d.0 j)) ∙ and-true x (same_size s x (value_small i l k.1 x ex))))))
      (λ (h : (o ≡ bi.Or) × (plan.give r ≡ p)).
      let s = bit_types i ty.Bool o l r k (subst Merges (sym h.0) (merges bi.Or refl)) in
      subst (Asked i ty.Bool o l r k) h.1
      (give_right i ty.Bool o l r k s.1
      (λ sure x y ex ey.
      let q : y ≡ 1 = some_is (sym ey ∙ literal-value ρ g i r c k.2 lit) ∙ eqb-true c 1 d.0 in
      (λ j. binary_value (h.0 j) ty.Bool x (q j)) ∙ or-true x (same_size s.0 x (value_small i l k.1 x ex)) ∙ ap Some (sym q))))
      (ones_facts i ty.Bool o l r k (plan.give l) (plan.give r) p d.1)
  ones_claim (ty.Bits w) o l r k c lit p e =
      let t = ty.Bits w in
      let d = provided_is (eqb c (mask w)) (cond (same_binary o bi.And) (Some (plan.identity t l)) (only (same_binary o bi.Or) (plan.constant t (mask w)))) e in
      let m : mask w ≡ 2 ^ w - 1 = mask_is w k.0 in
      let n : c ≡ 2 ^ w - 1 = eqb-true c (mask w) d.0 ∙ m in
      ⊎_elim
      (λ (h : (o ≡ bi.And) × (plan.identity t l ≡ p)).
      let s = (bit_types i t o l r k (subst Merges (sym h.0) (merges bi.And refl))).0 in
      subst (Asked i t o l r k) h.1
      (keep_claim i t o l r k
      (right_gives i t o l r k c lit (λ x. x)
      (λ x ex. (λ j. binary_value (h.0 j) t x (n j)) ∙ and_ones w x (same_size s x (value_small i l k.1 x ex))))))
      (λ (h : (o ≡ bi.Or) × (plan.constant t (mask w) ≡ p)).
      let s = (bit_types i t o l r k (subst Merges (sym h.0) (merges bi.Or refl))).0 in
      subst (Asked i t o l r k) h.1
      (constant_claim i t o l r k (mask w) (subst (λ (v : ℕ). v < 2 ^ w) (sym m) (ones_lt w))
      (right_gives i t o l r k c lit (λ x. mask w)
      (λ x ex. (λ j. binary_value (h.0 j) t x (n j)) ∙ or_ones w x (same_size s x (value_small i l k.1 x ex)) ∙ ap Some (sym m)))))
      (ones_facts i t o l r k (plan.identity t l) (plan.constant t (mask w)) p d.1)
  ones_claim ty.Integer o l r k c lit p e = absurd (none-some e)

pub right_claim : {ρ : World} {g : List ℕ} (i : Inv ρ g) (t : ScalarType) (o : Binary) (l r : ℕ) (k : Callable g (binary t o l r)) (c : ℕ)
    → literal g r ≡ Some c → (p : Plan) → right_plan t o l r c ≡ Some p → Claim ρ g t (binary_means t o (value ρ g l) (value ρ g r)) p
right_claim i t o l r k c lit =
    each_or (Asked i t o l r k) (provided (eqb c 0) (zero_plan t o l))
    (each_provided (Asked i t o l r k) (eqb c 0) (λ q. zero_claim i t o l r k c lit (eqb-true c 0 q))) (ones_claim i t o l r k c lit)

-- ---- an operation by a constant of an operation by a constant

module _ {ρ : World} {g : List ℕ} (i : Inv ρ g) (w : ℕ) (o : Binary) (l r : ℕ) (k : Callable g (binary (ty.Bits w) o l r)) (b : ℕ) (lit : literal g r ≡ Some b)
    (c : ByConstant) (f : Linked g l c) where
  -- its value, if there is one, by the base's
  pair-means : type_at g l ≡ ty.Bits w → (v : ℕ) → binary_means (ty.Bits w) o (value ρ g l) (value ρ g r) ≡ Some v
      → (y : ℕ) × (x : ℕ) × (value ρ g c.base ≡ Some x) × (binary_value c.op (ty.Bits w) x c.value ≡ Some y)
      × (and_then (binary_value o (ty.Bits w) y b) (of_type (ty.Bits w)) ≡ Some v)
  pair-means s v e =
      let d = operands ρ g (ty.Bits w) o l r v e in
      let q : d.y ≡ b = some_is (sym d.right ∙ literal-value ρ g i r b k.2 lit) in
      let h = by_constant-means i l k.1 c f d.x d.left in (
        d.x,
        h.0,
        h.1,
        ap (λ (a : ScalarType). binary_value c.op a h.0 c.value) (sym s) ∙ h.2,
        ap (λ (n : ℕ). and_then (binary_value o (ty.Bits w) d.x n) (of_type (ty.Bits w))) (sym q) ∙ d.means,
      )

  -- the types of both
  pair_types : Merges o → Merges c.op → (type_at g l ≡ ty.Bits w) × (type_at g r ≡ ty.Bits w) × (type_at g c.base ≡ ty.Bits w)
  pair_types m n =
      let s = bit_types i (ty.Bits w) o l r k m in
      let q = same_types_lem (type_at g c.base) (type_at g f.constant) (type_at g l)
      (sym (n.0 (type_at g c.base) (type_at g f.constant) (type_at g l)) ∙ by_constant-typed i l k.1 c f) in
      (s.0, s.1, q.0 ∙ s.0)

  merged_claim : c.op ≡ o → Merges o → Asked i (ty.Bits w) o l r k (merged_plan (ty.Bits w) o c.base (binary_value o (ty.Bits w) c.value b))
  merged_claim q m = go (binary_value o (ty.Bits w) c.value b) refl
    where
      go : (a : Option ℕ) → binary_value o (ty.Bits w) c.value b ≡ a → Asked i (ty.Bits w) o l r k (merged_plan (ty.Bits w) o c.base a)
      go None e = tt
      go (Some u) e =
          let s = pair_types m (subst Merges (sym q) m) in
          let h : u < 2 ^ w = evaluated_small w o c.value b u e in
          let h' : reduced (ty.Bits w) u ≡ u = reduced_same (ty.Bits w) u h in (
            bits_number k.0 u,
            refl,
            k.0,
            (by_constant_here i l k.1 c f).0,
            m.0 (type_at g c.base) (ty.Bits w) (ty.Bits w) ∙ ap (λ (a : ScalarType). same_types a (ty.Bits w) (ty.Bits w)) s.2 ∙ bits_typed w,
            λ sure v d.
                let z = pair-means s.0 v d in
                let n : binary_value o (ty.Bits w) z.0 b ≡ binary_value o (ty.Bits w) z.1 u =
                m.1 (ty.Bits w) z.1 c.value b z.0 u (ap (λ (a : Binary). binary_value a (ty.Bits w) z.1 c.value) (sym q) ∙ z.3) e in
                (λ j. binary_means (ty.Bits w) o (z.2 j) (Some (h' j))) ∙ ap (λ (a : Option ℕ). and_then a (of_type (ty.Bits w))) (sym n) ∙ z.4,
          )

  and-or_claim : c.op ≡ bi.Or → o ≡ bi.And → Asked i (ty.Bits w) o l r k (plan.and_or (ty.Bits w) c.base r (bit_and c.value b))
  and-or_claim q d =
      let s = pair_types (subst Merges (sym d) (merges bi.And refl)) (subst Merges (sym q) (merges bi.Or refl)) in (
        (
          k.0,
          (by_constant_here i l k.1 c f).0,
          k.2,
          (λ j. same_types (s.2 j) (s.1 j) (ty.Bits w)) ∙ bits_typed w,
        ),
        refl,
        bits_number k.0 (bit_and c.value b),
        bits_typed w,
        λ sure v e.
            let z = pair-means s.0 v e in
            let u = reduced (ty.Bits w) (bit_and z.1 b) in
            let n = reduced (ty.Bits w) (bit_and c.value b) in
            let h : binary_value bi.And (ty.Bits w) z.0 b ≡ binary_value bi.Or (ty.Bits w) u n =
            and_of_or_merged (ty.Bits w) z.1 c.value b z.0 u (ap (λ (a : Binary). binary_value a (ty.Bits w) z.1 c.value) (sym q) ∙ z.3)
            (and_is (ty.Bits w) z.1 b) n (and_is (ty.Bits w) c.value b) in
            let first : binary_means (ty.Bits w) bi.And (value ρ g c.base) (value ρ g r) ≡ Some u =
            (λ j. binary_means (ty.Bits w) bi.And (z.2 j) (literal-value ρ g i r b k.2 lit j))
            ∙ ap (λ (a : Option ℕ). and_then a (of_type (ty.Bits w))) (and_is (ty.Bits w) z.1 b)
            ∙ low_valued w (bit_and z.1 b) in
            ap (λ (a : Option ℕ). binary_means (ty.Bits w) bi.Or a (Some n)) first
            ∙ ap (λ (a : Option ℕ). and_then a (of_type (ty.Bits w))) (sym h ∙ ap (λ (a : Binary). binary_value a (ty.Bits w) z.0 b) (sym d)) ∙ z.4,
      )

  mask_twice : (p : Plan) → mask_of_mask (ty.Bits w) o r b c ≡ Some p → Asked i (ty.Bits w) o l r k p
  mask_twice =
      by_test (Each (Asked i (ty.Bits w) o l r k)) (same_binary c.op o && is_any bitwise o)
      (λ q.
      let h = tests (same_binary c.op o) (is_any bitwise o) q in
      each_some (Asked i (ty.Bits w) o l r k) _ (merged_claim (binary_is c.op o h.0) (merges o h.1)))
      (λ q.
      each_provided (Asked i (ty.Bits w) o l r k) (same_binary c.op bi.Or && same_binary o bi.And)
      (λ d.
      let h = tests (same_binary c.op bi.Or) (same_binary o bi.And) d in
      each_some (Asked i (ty.Bits w) o l r k) _ (and-or_claim (binary_is c.op bi.Or h.0) (binary_is o bi.And h.1))))

pub mask_claim : {ρ : World} {g : List ℕ} (i : Inv ρ g) (t : ScalarType) (o : Binary) (l r : ℕ) (k : Callable g (binary t o l r)) (c : ℕ)
    → literal g r ≡ Some c → (p : Plan) → mask_plan g t o l r c ≡ Some p → Claim ρ g t (binary_means t o (value ρ g l) (value ρ g r)) p
mask_claim i ty.Bool o l r k c lit = each_none _
mask_claim {ρ} {g} i (ty.Bits w) o l r k c lit =
    each_given (Asked i (ty.Bits w) o l r k) (by_constant_at g l) (λ d q. mask_twice i w o l r k c lit d (linked g l d q))
mask_claim i ty.Integer o l r k c lit = each_none _

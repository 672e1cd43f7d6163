-- What a comparison that is as expected says of the values compared, and that assuming a guard keeps the invariant. Assumes nothing.
use mathlib.Core.Path.{◌≡◌, refl, sym, ap, ◌∙◌, subst}
use mathlib.Core.Bool.{Bool, true, false, not, cond}
use mathlib.Core.List.{List}
use Rattle.std.specs.Prelude.{Option, None, Some}
use Prim.Native.Nat.{ℕ, zero, suc, ◌+◌, ◌^◌, ◌<◌}
use native.Mathlib.Decide.{dec_lt}
use native.Mathlib.Omega.{arith}
use borrow.Author.Tests.{eqb-true, eqb-false}
use lib.Dec.{eqb}
use lib.IntN.{ℤ, pos, neg_ℤ, ◌+ℤ◌, ◌-ℤ◌}
use lib.Signed.{lt_z, le_z, ◌≤ℤ◌}
use Rattle.word.specs.Value.{signed, residue, eq_z}
use Rattle.word.specs.Option.{from_bool}
use Rattle.word.proofs.Integer.{residue-signed}
use Rattle.word.proofs.Orders.{le-not_less, same_is}
use Rattle.range.specs.Interval.{Interval, ◌∈◌}
use Rattle.range.specs.declared.ScalarType.{ScalarType}
use Rattle.range.specs.declared.ScalarType.TheVariants as ty
use Rattle.range.proofs.Order.{up, down, orders, less_true, sum_parts}
use Rattle.range.proofs.Sound.{tests}
use Rattle.evaluate.specs.Evaluate.{unary_value, binary_value}
use Rattle.evaluate.specs.declared.Unary.TheVariants as un
use Rattle.evaluate.specs.declared.Binary.{Binary}
use Rattle.graph.specs.Layout.{LIMIT, count_of}
use Rattle.graph.specs.Node as node
use Rattle.graph.specs.Node.{type_at, range_at, operation_at}
use Rattle.graph.specs.Insert.{resolve}
use Rattle.fold.specs.Operator.{comparisons}
use Rattle.fold.specs.Shape.{is_any}
use Rattle.guard.specs.Condition.{Condition, negated_at, behind, behind_nots, Comparison, comparison_at}
use Rattle.assume.specs.Limits.{Pair, one_more, one_less, less_limits, not_less_limits, less_equal_limits, greater_limits, equal_limits, besides, apart_limits, comparable, limits_by}
use Rattle.assume.specs.Refine.{Outcome, unchanged, narrowed, full, Assumed, refined}
use Rattle.assume.specs.Assume.{then_refined, refined_both, assumed_by, assumed_of, assumed_guard}
use Rattle.meaning.specs.Value.{size, integer_of, of_type, valued, binary_means}
use Rattle.meaning.proofs.Worlds.{World, value}
use Rattle.meaning.proofs.Values.{typed_is, then_is}
use Rattle.meaning.proofs.Guards.{comparison_is, negated_is}
use Rattle.meaning.proofs.Answers.{by_test, by_given, of_any, Each, each_none, each_some, each_provided}
use Rattle.meaning.proofs.Invariant.{Inv, resolve_leads, Kept, kept_refl, kept_trans}
use Rattle.meaning.proofs.Views.{same_type_lem, value_small, value_pattern}
use Rattle.meaning.proofs.Ranges.{fitted_is}
use Rattle.meaning.proofs.Compared.{less_false, same_parts, read, unsigned}
use Rattle.meaning.proofs.Field.{means_at, below_at, typed_at, operands}
use Rattle.meaning.proofs.Undone.{Obeys, obeys, Bounded}
use Rattle.meaning.proofs.Narrowed.{bounded_ext, refined_kept}

-- ---- limits of two integers compared

-- x is less than y, as a fact of naturals
abbrev Less : ℤ → ℤ → Type 0
Less x y = up x + down y < up y + down x

-- an integer that is at most another and is not that one is less
apart_less : (x y : ℤ) → x ≤ℤ y → (x ≡ y → ⊥) → Less x y
apart_less x y h n = go (dec_lt (up x + down y) (up y + down x))
  where
    go : Dec (Less x y) → Less x y
    go (yes l) = l
    go (no l) = absurd (n (same_parts x y (omega orders)))

-- one more than an integer is at most a larger one
more : (x y : ℤ) → Less x y → Each (λ m. m ≤ℤ y) (one_more x)
more x y h m e = subst (λ (z : ℤ). z ≤ℤ y) (fitted_is (x +ℤ pos 1) m e).0 (omega (orders, sum_parts x (pos 1)))

-- one less than an integer is at least a smaller one
fewer : (x y : ℤ) → Less y x → Each (λ m. y ≤ℤ m) (one_less x)
fewer x y h m e = subst (λ (z : ℤ). y ≤ℤ z) (fitted_is (x -ℤ pos 1) m e).0 (omega (orders, sum_parts x (neg_ℤ (pos 1))))

-- both lie between their limits
abbrev Obey : ℤ → ℤ → Pair → Type 0
Obey x y p = Obeys x p.left × Obeys y p.right

-- an integer of a that is not the one of b, whatever that is
besides_obeys : (x y : ℤ) (a b : Interval) → x ∈ a → y ∈ b → (x ≡ y → ⊥) → Obeys x (besides a b)
besides_obeys x y a b f g n =
    by_test (Obeys x) (eq_z b.low b.high)
    (λ e.
    let s = same_is b.low b.high e in
    let low : y ≡ b.low = same_parts y b.low (omega (orders, g.above, g.below, ap up s, ap down s)) in
    record {
      least = each_provided (λ m. m ≤ℤ x) (eq_z a.low b.low)
          (λ q. more a.low x (apart_less a.low x f.above (λ z. n (sym z ∙ same_is a.low b.low q ∙ sym low))));
      most = each_provided (λ m. x ≤ℤ m) (eq_z a.high b.high)
          (λ q. fewer a.high x (apart_less x a.high f.below (λ z. n (z ∙ same_is a.high b.high q ∙ sym s ∙ sym low))));
    })
    (λ e. record { least = each_none (λ m. m ≤ℤ x); most = each_none (λ m. x ≤ℤ m) })

module _ (x y : ℤ) (a b : Interval) (f : x ∈ a) (g : y ∈ b) where
  -- the order of both is known
  less_obey : (e : Bool) → lt_z x y ≡ e → Obey x y (cond e (less_limits a b) (not_less_limits a b))
  less_obey true d =
      let l = less_true x y d in (
        record { least = each_none (λ m. m ≤ℤ x); most = fewer b.high x (omega (orders, g.below)) },
        record { least = more a.low y (omega (orders, f.above)); most = each_none (λ m. y ≤ℤ m) },
      )
  less_obey false d =
      let l = less_false x y d in (
        record { least = each_some (λ m. m ≤ℤ x) b.low (omega (orders, g.above)); most = each_none (λ m. x ≤ℤ m) },
        record { least = each_none (λ m. m ≤ℤ y); most = each_some (λ m. y ≤ℤ m) a.high (omega (orders, f.below)) },
      )

-- at most is not less, the other way round
at_most_obey : (x y : ℤ) (a b : Interval) → x ∈ a → y ∈ b → (e : Bool) → le_z x y ≡ e → Obey x y (cond e (less_equal_limits a b) (greater_limits a b))
at_most_obey x y a b f g e p = go (lt_z y x) refl e (sym (le-not_less x y refl) ∙ p)
  where
    go : (t : Bool) → lt_z y x ≡ t → (e : Bool) → not t ≡ e → Obey x y (cond e (less_equal_limits a b) (greater_limits a b))
    go true d e q = let k = less_obey y x b a g f true d in rw (← q) (k.1, k.0)
    go false d e q = let k = less_obey y x b a g f false d in rw (← q) (k.1, k.0)

-- ---- limits of two patterns compared

-- a test by its number
truth_is : (s t : Bool) → Some (from_bool s) ≡ Some (from_bool t) → s ≡ t
truth_is true true e = refl
truth_is true false e = let z : ◌≡◌ {A = ℕ} 0 1 = cc in absurd (omega arith)
truth_is false true e = let z : ◌≡◌ {A = ℕ} 0 1 = cc in absurd (omega arith)
truth_is false false e = refl

module _ (x y : ℕ) (a b : Interval) (l : x < 2 ^ 128) (m : y < 2 ^ 128) (f : (signed 128 x) ∈ a) (g : (signed 128 y) ∈ b) where
  -- an operator's comparison is as expected, so that both lie between the limits by the other's range
  abbrev Says : Binary → Type 0
  Says o = (e : Bool) → binary_value o ty.Bool x y ≡ Some (from_bool e) → comparable o a b ≡ true → Obey (signed 128 x) (signed 128 y) (limits_by o e a b)

  -- whether both are equal is known
  equal_says : (e : Bool) → eqb x y ≡ e → Obey (signed 128 x) (signed 128 y) (cond e (equal_limits a b) (apart_limits a b))
  equal_says true p =
      let s : signed 128 x ≡ signed 128 y = ap (signed 128) (eqb-true x y p) in
      (obeys (signed 128 x) b (subst (λ (z : ℤ). z ∈ b) (sym s) g), obeys (signed 128 y) a (subst (λ (z : ℤ). z ∈ a) s f))
  equal_says false p =
      let n : signed 128 x ≡ signed 128 y → ⊥
      = λ s. eqb-false x y p (sym (residue-signed 128 x l) ∙ ap (residue 128) s ∙ residue-signed 128 y m) in
      (besides_obeys (signed 128 x) (signed 128 y) a b f g n, besides_obeys (signed 128 y) (signed 128 x) b a g f (λ s. n (sym s)))

  -- the same with what is expected turned
  apart_says : (e : Bool) → not (eqb x y) ≡ e → Obey (signed 128 x) (signed 128 y) (cond e (apart_limits a b) (equal_limits a b))
  apart_says e p = go (eqb x y) e p equal_says
    where
      go : (t e : Bool) → not t ≡ e → ((e : Bool) → t ≡ e → Obey (signed 128 x) (signed 128 y) (cond e (equal_limits a b) (apart_limits a b)))
          → Obey (signed 128 x) (signed 128 y) (cond e (apart_limits a b) (equal_limits a b))
      go true e q k = rw (← q) (k true refl)
      go false e q k = rw (← q) (k false refl)

  -- every comparison
  compared_obey : (o : Binary) → is_any comparisons o ≡ true → Says o
  unfolding binary_value limits_by
  compared_obey =
      of_any Says comparisons
      (λ e p c. less_obey (signed 128 x) (signed 128 y) a b f g e (truth_is _ e p))
      (λ e p c. let u = unsigned x y a b l m f g c in less_obey (signed 128 x) (signed 128 y) a b f g e ((λ i. lt_z (u.0 i) (u.1 i)) ∙ truth_is _ e p))
      (λ e p c. at_most_obey (signed 128 x) (signed 128 y) a b f g e (truth_is _ e p))
      (λ e p c. let u = unsigned x y a b l m f g c in at_most_obey (signed 128 x) (signed 128 y) a b f g e ((λ i. le_z (u.0 i) (u.1 i)) ∙ truth_is _ e p))
      (λ e p c. equal_says e (truth_is _ e p)) (λ e p c. apart_says e (truth_is _ e p))

-- ---- behind BoolNots

-- a Bool node that has the value expected
record Expects (ρ : World) (g : List ℕ) (c : Condition) : Type 0 where
  here : c.node < count_of g
  type : type_at g c.node ≡ ty.Bool
  means : ρ.IsSure → value ρ g c.node ≡ Some (from_bool c.expected)

-- the operand of a BoolNot has the other value
other : (x : ℕ) (e : Bool) → x < 2 → from_bool e ≡ from_bool (eqb x 0) → x ≡ from_bool (not e)
other x e l = go (eqb x 0) refl e
  where
    go : (t : Bool) → eqb x 0 ≡ t → (e : Bool) → from_bool e ≡ from_bool t → x ≡ from_bool (not e)
    go true d true r = eqb-true x 0 d
    go true d false r = absurd (omega arith)
    go false d true r = absurd (omega arith)
    go false d false r = let n = eqb-false x 0 d in omega arith

-- a condition by its two parts
abbrev condition : ℕ → Bool → Condition
condition n e = record { node = n; expected = e }

module _ {ρ : World} {g : List ℕ} (i : Inv ρ g) where
  -- one BoolNot
  negated_expects : (n j : ℕ) (e : Bool) → negated_at g n ≡ Some j → Expects ρ g (condition n e) → Expects ρ g (condition j (not e))
  unfolding negated_at unary_value
  negated_expects n j e q c =
      let o = negated_is (operation_at g n) j q in
      let b = below_at ρ g i n c.here (node.unary un.BoolNot j) o in
      let here : j < count_of g = (let h = c.here in omega arith) in
      let type : type_at g j ≡ ty.Bool = same_type_lem (type_at g j) ty.Bool (tests _ _ (typed_at ρ g i n c.here (node.unary un.BoolNot j) o)).0 in
      record {
        here = here;
        type = type;
        means = λ sure.
            let s = then_is (value ρ g j) _ (from_bool e) (means_at ρ g i n c.here (from_bool e) (c.means sure) (node.unary un.BoolNot j) o) in
            let small : s.0 < 2 = subst (λ (t : ScalarType). s.0 < size t) type (value_small i j here s.0 s.1) in
            let d : valued ty.Bool (from_bool (eqb s.0 0)) ≡ Some (from_bool e) = subst (λ (t : ScalarType). valued t (from_bool (eqb s.0 0)) ≡ Some (from_bool e)) c.type s.2 in
            s.1 ∙ ap Some (other s.0 e small (typed_is ty.Bool _ (from_bool e) d).0);
      }

  -- all of them
  behind_expects : (k n : ℕ) (e : Bool) → Expects ρ g (condition n e) → Expects ρ g (behind g k n e)
  behind_expects zero n e c = c
  behind_expects (suc k) n e c = by_given (Expects ρ g) (negated_at g n) (λ j q. behind_expects k j (not e) (negated_expects n j e q c)) (λ q. c)

-- ---- the comparison

module _ {ρ : World} {g : List ℕ} (i : Inv ρ g) where
  -- the left operand is refined, and then the right one on what is left
  both_kept : (a b : ℕ) (p : Pair) → Bounded ρ g a p.left → Bounded ρ g b p.right → Kept ρ g (refined_both g a b p).words
  unfolding refined_both
  both_kept a b p l r = go (refined unchanged g a p.left).outcome (refined unchanged g a p.left).words (refined_kept unchanged i a p.left l)
    where
      next : (so : Outcome) (h : List ℕ) → Kept ρ g h → Kept ρ g (refined so h b p.right).words
      next so h k = kept_trans k (refined_kept so k.inv b p.right (bounded_ext k.grows b p.right r))

      go : (o : Outcome) (h : List ℕ) → Kept ρ g h → Kept ρ g (then_refined o h b p.right).words
      go unchanged h k = next unchanged h k
      go narrowed h k = next narrowed h k
      go full h k = k

  -- node n is the comparison, with the value expected
  module _ (e : Bool) (n : ℕ) (c : Comparison) (x : Expects ρ g (condition n e)) (q : comparison_at g n ≡ Some c) where
    -- its operands
    abbrev left : ℕ
    left = resolve g c.left

    -- and the right one
    abbrev right : ℕ
    right = resolve g c.right

    -- what it is
    is : (operation_at g n ≡ node.binary c.op c.left c.right) × (is_any comparisons c.op ≡ true)
    unfolding comparison_at
    is = let (s, o) = comparison_is (operation_at g n) c q in (o, s)

    -- its operands are nodes
    below : (c.left < count_of g) × (c.right < count_of g)
    below =
        let b = below_at ρ g i n x.here (node.binary c.op c.left c.right) is.0 in
        let h = x.here in
        (omega arith, omega arith)

    module _ (a b : Interval) (ea : range_at g left ≡ Some a) (eb : range_at g right ≡ Some b) (t : comparable c.op a b ≡ true) where
      -- the operands have values, which lie between the limits
      record Sides : Type 0 where
        u : ℕ
        v : ℕ
        is_left : value ρ g left ≡ Some u
        is_right : value ρ g right ≡ Some v
        obey : Obey (integer_of (type_at g left) u) (integer_of (type_at g right) v) (limits_by c.op e a b)

      -- a value in a range is read as a pattern of 128 bits
      sides : ρ.IsSure → Sides
      sides sure =
          let l = resolve_leads ρ g i c.left below.0 in
          let r = resolve_leads ρ g i c.right below.1 in
          let m = subst (λ (t : ScalarType). binary_means t c.op (value ρ g c.left) (value ρ g c.right) ≡ Some (from_bool e)) x.type
          (means_at ρ g i n x.here (from_bool e) (x.means sure) (node.binary c.op c.left c.right) is.0) in
          let s = operands ρ g ty.Bool c.op c.left c.right (from_bool e) m in
          let lu : value ρ g left ≡ Some s.x = l.means ∙ s.left in
          let rv : value ρ g right ≡ Some s.y = r.means ∙ s.right in
          let k = then_is (binary_value c.op ty.Bool s.x s.y) (of_type ty.Bool) (from_bool e) s.means in
          let z : binary_value c.op ty.Bool s.x s.y ≡ Some (from_bool e) = k.1 ∙ ap Some (sym (typed_is ty.Bool k.0 (from_bool e) k.2).0) in
          let f = i.ranged left l.here sure s.x lu a ea in
          let h = i.ranged right r.here sure s.y rv b eb in
          let p = read (type_at g left) s.x a f (i.ends left l.here a ea) in
          let q = read (type_at g right) s.y b h (i.ends right r.here b eb) in
          record {
            u = s.x;
            v = s.y;
            is_left = lu;
            is_right = rv;
            obey =
                rw (p, q)
                (compared_obey s.x s.y a b (value_pattern i left l.here s.x lu) (value_pattern i right r.here s.y rv)
                (subst (λ (y : ℤ). y ∈ a) p f) (subst (λ (y : ℤ). y ∈ b) q h) c.op is.1 e z t);
          }

      -- both are refined
      sides_kept : Kept ρ g (refined_both g left right (limits_by c.op e a b)).words
      sides_kept =
          both_kept left right (limits_by c.op e a b)
          (record { here = (resolve_leads ρ g i c.left below.0).here; held = λ sure. let s = sides sure in (s.u, s.is_left, s.obey.0) })
          (record { here = (resolve_leads ρ g i c.right below.1).here; held = λ sure. let s = sides sure in (s.v, s.is_right, s.obey.1) })

    -- if the ranges say something
    comparison_kept : Kept ρ g (assumed_of g e c).words
    unfolding assumed_of
    comparison_kept = go (range_at g left) (range_at g right) refl refl
      where
        go : (r s : Option Interval) → range_at g left ≡ r → range_at g right ≡ s → Kept ρ g (assumed_by g e c.op left right r s).words
        go None s er es = kept_refl i
        go (Some a) None er es = kept_refl i
        go (Some a) (Some b) er es = by_test (λ (p : Assumed). Kept ρ g p.words) (comparable c.op a b) (λ t. sides_kept a b er es t) (λ t. kept_refl i)

  -- assuming a guard whose condition has the value expected
  pub assumed_kept : (n : ℕ) (e : Bool) → n < count_of g → type_at g n ≡ ty.Bool → (ρ.IsSure → value ρ g n ≡ Some (from_bool e))
      → Kept ρ g (assumed_guard g n e).words
  unfolding assumed_guard behind_nots
  assumed_kept n e l t h =
      let x = behind_expects i LIMIT n e (record { here = l; type = t; means = h }) in
      let c = behind g LIMIT n e in
      by_given (λ (p : Assumed). Kept ρ g p.words) (comparison_at g c.node) (λ d q. comparison_kept c.expected c.node d x q) (λ q. kept_refl i)

-- Two values, each in its node's range, match a guard exactly if its condition is as expected, through any number of BoolNots. Assumes nothing.
use mathlib.Core.Path.{◌≡◌, refl, sym, ap, ◌∙◌, subst}
use mathlib.Core.Bool.{Bool, true, false, not, false≢true, not-not}
use mathlib.Core.List.{List}
use mathlib.Core.Logic.{◌↔◌}
use Rattle.std.specs.Prelude.{Option, None, Some}
use Prim.Native.Nat.{ℕ, zero, suc, ◌-◌, ◌%◌, ◌^◌, ◌≤◌, ◌<◌}
use native.Mathlib.Nat.{mod-eq_of_lt, lt_of_lt_of_le}
use native.Mathlib.Omega.{arith}
use lib.Dec.{eqb, ltb, leb}
use lib.IntN.{ℤ, pos}
use lib.Pow.{pow_mono}
use lib.Signed.{lt_z, le_z, ◌≤ℤ◌}
use Rattle.word.specs.Value.{signed}
use Rattle.word.specs.Option.{mapped, from_bool, given}
use Rattle.word.proofs.Integer.{signed_low}
use Rattle.range.specs.Interval.{Interval, ◌∈◌, nonnegative}
use Rattle.range.specs.declared.ScalarType.{ScalarType}
use Rattle.range.specs.declared.ScalarType.TheVariants as ty
use Rattle.range.proofs.Answers.{none-some, some_is, provided_is}
use Rattle.range.proofs.Order.{orders}
use Rattle.range.proofs.Sound.{tests, at_most_lem}
use Rattle.evaluate.specs.Evaluate.{unary_value, binary_value}
use Rattle.evaluate.specs.declared.Unary.TheVariants as un
use Rattle.evaluate.specs.declared.Binary.{Binary}
use Rattle.graph.specs.Layout.{LIMIT, count_of}
use Rattle.graph.specs.Node as node
use Rattle.graph.specs.Node.{Op, type_at, range_at, operation_at}
use Rattle.graph.specs.Insert.{start}
use Rattle.graph.specs.WellFormed.{is_graph}
use Rattle.graph.proofs.Grown.{Graph, graph_facts, start_le}
use Rattle.fold.specs.Operator.{comparisons}
use Rattle.fold.specs.Shape.{is_any, fits}
use Rattle.guard.specs.Condition.{Condition, negated_of, negated_at, behind, behind_nots, Comparison, compared_by, comparison_at}
use Rattle.guard.specs.Guard.{Guard, unsigned_for, guard_by, fit_host, guarded, same_bool, host_compared, compared, matched}
use Rattle.meaning.specs.Value.{Env, size, integer_of, of_type, and_then, unary_means, binary_means, operation_means, value, operand}
use Rattle.meaning.specs.Guard.{BoolsBehind, InRange, Decides}
use Rattle.meaning.proofs.Values.{typed_of, truth_small, value_step, means_small}
use Rattle.meaning.proofs.Answers.{mapped_is, of_any}
use Rattle.meaning.proofs.Compared.{natural}

-- ---- truth values

zero_truth : (b : Bool) → eqb (from_bool b) 0 ≡ not b
zero_truth true = refl
zero_truth false = refl

turned : (e v : Bool) → same_bool (not e) v ≡ same_bool e (not v)
turned true v = refl
turned false v = sym (not-not v)

same_truth : (e v : Bool) → (same_bool e v ≡ true) ↔ (◌≡◌ {A = Option ℕ} (Some (from_bool v)) (Some (from_bool e)))
same_truth true true = (λ h. refl, λ h. refl)
same_truth true false = (λ h. absurd (false≢true h), λ h. let z = some_is h in absurd (omega arith))
same_truth false true = (λ h. absurd (false≢true h), λ h. let z = some_is h in absurd (omega arith))
same_truth false false = (λ h. refl, λ h. refl)

-- ---- values of 64 bits

natural_of : (t : ScalarType) (x : ℕ) → x < size t → pos 0 ≤ℤ integer_of t x → integer_of t x ≡ pos x
natural_of ty.Bool x l h = refl
natural_of (ty.Bits w) x l h = refl
natural_of ty.Integer x l h = natural 128 x l h

-- a value is below 2 ^ 64 if its node's range fits 64 bits
host_small : (t : ScalarType) (x : ℕ) → x < size t → (r : Option Interval) → ((a : Interval) → r ≡ Some a → (integer_of t x) ∈ a)
    → fits 64 r ≡ true → x < 2 ^ 64
host_small t x l None m e = absurd (false≢true e)
host_small t x l (Some a) m e =
    let i = m a refl in
    let d = tests (nonnegative a) _ e in
    let p = at_most_lem (pos 0) a.low d.0 in
    let q = at_most_lem a.high (pos (2 ^ 64 - 1)) d.1 in
    let h : pos x ≤ℤ pos (2 ^ 64 - 1) = rw (← natural_of t x l (omega orders)) (omega orders) in
    omega orders

-- ---- comparisons

-- what a comparison says of x and y, and that the unsigned one says it of their low 64 bits, if they have no others
abbrev Told : ℕ → ℕ → Binary → Type 0
Told x y o =
    (c : Bool) × (binary_value o ty.Bool x y ≡ Some (from_bool c))
    × (x < 2 ^ 64 → y < 2 ^ 64 → host_compared (unsigned_for o) (x % 2 ^ 64) (y % 2 ^ 64) ≡ Some c)

module _ (x y : ℕ) where
  low : (f : ℕ → ℕ → Bool) → x < 2 ^ 64 → y < 2 ^ 64 → Some (f (x % 2 ^ 64) (y % 2 ^ 64)) ≡ Some (f x y)
  low f l m = λ i. Some (f (mod-eq_of_lt l i) (mod-eq_of_lt m i))

  low_signed : (f : ℤ → ℤ → Bool) → x < 2 ^ 64 → y < 2 ^ 64 → Some (f (pos x) (pos y)) ≡ Some (f (signed 128 x) (signed 128 y))
  low_signed f l m = sym (λ i. Some (f (read x l i) (read y m i)))
    where
      read : (n : ℕ) → n < 2 ^ 64 → signed 128 n ≡ pos n
      read n h = signed_low 128 n (lt_of_lt_of_le h (pow_mono {i = 64} {j = 127} (omega arith)))

  told : (o : Binary) → is_any comparisons o ≡ true → Told x y o
  unfolding binary_value
  told =
      of_any (Told x y) comparisons
      (lt_z (signed 128 x) (signed 128 y), refl, λ l m. low ltb l m ∙ low_signed lt_z l m)
      (ltb x y, refl, low ltb)
      (le_z (signed 128 x) (signed 128 y), refl, λ l m. low leb l m ∙ low_signed le_z l m)
      (leb x y, refl, low leb)
      (eqb x y, refl, low eqb)
      (not (eqb x y), refl, low (λ a b. not (eqb a b)))

pub comparison_is : (o : Op) (c : Comparison) → compared_by o ≡ Some c → (is_any comparisons c.op ≡ true) × (o ≡ node.binary c.op c.left c.right)
comparison_is (node.constant n) c e = absurd (none-some e)
comparison_is (node.input i) c e = absurd (none-some e)
comparison_is (node.refine i) c e = absurd (none-some e)
comparison_is (node.effect i) c e = absurd (none-some e)
comparison_is (node.slice i o w) c e = absurd (none-some e)
comparison_is (node.concat i j w) c e = absurd (none-some e)
comparison_is (node.unary u i) c e = absurd (none-some e)
comparison_is (node.binary o i j) c e =
    let p = provided_is (is_any comparisons o) _ e in
    rw (← some_is p.1) (p.0, refl)

pub negated_is : (o : Op) (i : ℕ) → negated_of o ≡ Some i → o ≡ node.unary un.BoolNot i
negated_is (node.constant n) i e = absurd (none-some e)
negated_is (node.input j) i e = absurd (none-some e)
negated_is (node.refine j) i e = absurd (none-some e)
negated_is (node.effect j) i e = absurd (none-some e)
negated_is (node.slice j o w) i e = absurd (none-some e)
negated_is (node.concat j k w) i e = absurd (none-some e)
negated_is (node.unary un.BoolNot j) i e = ap (node.unary un.BoolNot) (some_is e)
negated_is (node.unary un.BitNot j) i e = absurd (none-some e)
negated_is (node.unary un.Negate j) i e = absurd (none-some e)
negated_is (node.unary (un.Truncate w) j) i e = absurd (none-some e)
negated_is (node.unary (un.SignExtend w) j) i e = absurd (none-some e)
negated_is (node.unary (un.LeadingZeros w) j) i e = absurd (none-some e)
negated_is (node.unary (un.TrailingZeros w) j) i e = absurd (none-some e)
negated_is (node.binary o j k) i e = absurd (none-some e)

negated_at_lem : (g : List ℕ) (n i : ℕ) → negated_at g n ≡ Some i → operation_at g n ≡ node.unary un.BoolNot i
unfolding negated_at
negated_at_lem g n i e = negated_is (operation_at g n) i e

not-means : (v : Bool) → unary_means ty.Bool un.BoolNot (Some (from_bool v)) ≡ Some (from_bool (not v))
unfolding unary_value
not-means v = ap (λ (b : Bool). of_type ty.Bool (from_bool b)) (zero_truth v) ∙ typed_of ty.Bool (from_bool (not v)) (truth_small (not v))

-- ---- the values of nodes

module _ (ρ : Env) (g : List ℕ) where
  host_value : (n x : ℕ) → value ρ g n ≡ Some x → InRange g n x → fits 64 (range_at g n) ≡ true → x < 2 ^ 64
  unfolding value
  host_value n x e = host_small (type_at g n) x (means_small ρ (type_at g n) (operation_at g n) _ x e) (range_at g n)

  -- what a guard's comparison says of its operands' values
  compared_is : (c : Comparison) (e host : Bool) → fit_host g c ≡ host → (s : is_any comparisons c.op ≡ true) → (x y : ℕ)
      → value ρ g c.left ≡ Some x → value ρ g c.right ≡ Some y → InRange g c.left x → InRange g c.right y
      → compared (guard_by c e host) x y ≡ Some (told x y c.op s).0
  compared_is c e true h s x y ex ey rx ry =
      let d = tests (fits 64 (range_at g c.left)) _ h in
      (told x y c.op s).2 (host_value c.left x ex rx d.0) (host_value c.right y ey ry d.1)
  compared_is c e false h s x y ex ey rx ry =
      let t = told x y c.op s in
      rw (s, t.1) (ap Some (ap not (zero_truth t.0) ∙ not-not t.0))

  module _ (f : Graph g) where
    -- the value of a comparison
    comparison-value : (n : ℕ) → n < count_of g → type_at g n ≡ ty.Bool → (o : Binary) (i j : ℕ) → operation_at g n ≡ node.binary o i j
        → (x y : ℕ) → value ρ g i ≡ Some x → value ρ g j ≡ Some y
        → (c : Bool) → binary_value o ty.Bool x y ≡ Some (from_bool c) → value ρ g n ≡ Some (from_bool c)
    comparison-value n l t o i j d x y ex ey c e =
        value_step ρ g n (start_le f n l) ∙ (λ k. operation_means ρ (t k) (d k) (operand ρ g)) ∙ (λ k. binary_means ty.Bool o (ex k) (ey k))
        ∙ ap (λ (r : Option ℕ). and_then r (of_type ty.Bool)) e ∙ typed_of ty.Bool (from_bool c) (truth_small c)

    -- if the node of m has a truth value, so has n, and both are as expected or neither is
    abbrev Leads : ℕ → Bool → Condition → Type 0
    Leads n e m =
        (c : Bool) → (m.node < count_of g → value ρ g m.node ≡ Some (from_bool c))
        → (v : Bool) × (value ρ g n ≡ Some (from_bool v)) × (same_bool m.expected c ≡ same_bool e v)

    condition_value : (k n : ℕ) (e : Bool) → n < count_of g → BoolsBehind g n e → Leads n e (behind g k n e)
    condition_value zero n e l b = λ c h. (c, h l, refl)
    condition_value (suc k) n e l b = go (negated_at g n) refl (λ i. condition_value k i (not e))
      where
        go : (o : Option ℕ) → negated_at g n ≡ o
            → ((i : ℕ) → i < count_of g → BoolsBehind g i (not e) → Leads i (not e) (behind g k i (not e)))
            → Leads n e (given o (λ i. behind g k i (not e)) (record { node = n; expected = e }))
        go None d ih c h = (c, h l, refl)
        go (Some i) d ih c h =
            let u = negated_at_lem g n i d in
            let s : start (node.unary un.BoolNot i) ≤ n = rw u at (start_le f n l) in
            let (v, p, r) = ih i (omega arith) (λ j. rw d at (b (suc j))) c h in
            let m = value_step ρ g n (start_le f n l) ∙ (λ j. operation_means ρ (b 0 j) (u j) (operand ρ g)) in
            (not v, m ∙ ap (unary_means ty.Bool un.BoolNot) p ∙ not-means v, r ∙ turned e v)

-- ---- guards

-- without BoolsBehind it is false: a constant 5, Equal of it with itself stored as Bits(0), which is 0, and a BoolNot over that
pub guard_decides : (ρ : Env) (g : List ℕ) → is_graph g ≡ true → (n : ℕ) → n < count_of g → (e : Bool) (q : Guard) → guarded g n e ≡ Some q
    → BoolsBehind g n e → (x y : ℕ) → value ρ g q.left ≡ Some x → value ρ g q.right ≡ Some y → InRange g q.left x → InRange g q.right y
    → Decides ρ g n e q x y
unfolding guarded behind_nots comparison_at matched
guard_decides ρ g w n l e q h b x y =
    let m = behind g LIMIT n e in
    let (c, p, s) = mapped_is _ (comparison_at g m.node) h in
    let (o, d) = comparison_is (operation_at g m.node) c p in
    subst
    (λ (r : Guard).
    value ρ g r.left ≡ Some x → value ρ g r.right ≡ Some y → InRange g r.left x → InRange g r.right y → Decides ρ g n e r x y)
    s
    (λ ex ey rx ry.
    let t = told x y c.op o in
    let f = graph_facts g w in
    let (v, u, r) = condition_value ρ g f LIMIT n e l b t.0 (λ k. comparison-value ρ g f m.node k (b LIMIT) c.op c.left c.right d x y ex ey t.0 t.1) in
    record {
      answer = same_bool m.expected t.0;
      matches = ap (mapped (same_bool m.expected)) (compared_is ρ g c m.expected (fit_host g c) refl o x y ex ey rx ry);
      exactly = (λ a. u ∙ (same_truth e v).0 (sym r ∙ a), λ a. r ∙ (same_truth e v).1 (sym u ∙ a));
    })

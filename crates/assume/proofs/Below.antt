-- The nodes that a guard goes to lie below those it comes from: the base of a sum, and both sides of a comparison. Assumes nothing.
use mathlib.Core.Path.{◌≡◌, refl, ap, subst}
use mathlib.Core.Bool.{Bool, not}
use mathlib.Core.List.{List}
use Rattle.std.specs.Prelude.{Option, None, Some}
use Prim.Native.Nat.{ℕ, zero, suc, ◌≤◌, ◌<◌}
use native.Mathlib.Nat.{le_refl}
use native.Mathlib.Omega.{arith}
use lib.Dec.{eqb}
use Rattle.word.specs.Option.{mapped, given}
use Rattle.range.specs.Interval.{Interval}
use Rattle.range.proofs.Answers.{none-some, some_is, provided_is}
use Rattle.evaluate.specs.Operator.{unary_code}
use Rattle.evaluate.specs.declared.Unary.TheVariants as un
use Rattle.evaluate.specs.declared.Binary.{Binary}
use Rattle.graph.specs.Layout.{LIMIT, count_of}
use Rattle.graph.specs.Node as node
use Rattle.graph.specs.Node.{Op, type_at, operation_at}
use Rattle.graph.specs.Insert.{start, literal}
use Rattle.graph.proofs.Grown.{Graph, start_le}
use Rattle.fold.specs.Operator.{comparisons}
use Rattle.fold.specs.Shape.{same_type, is_any, ByConstant, with_constant, by_constant_of, by_constant_at, refined_of, refined_at, down, origin}
use Rattle.guard.specs.Condition.{negated_of, negated_at, behind, behind_nots, Comparison, compared_by, comparison_at}
use Rattle.assume.specs.Refine.{undone, Next, next, base_by, base_of}

module _ {g : List ℕ} (f : Graph g) where
  -- ---- to the base of a sum

  -- a Refine's source
  refined_below : (n p : ℕ) → n < count_of g → refined_at g n ≡ Some p → p < n
  unfolding refined_at
  refined_below n p l e = by (operation_at g n) (start_le f n l) e
    where
      by : (o : Op) → start o ≤ n → refined_of o ≡ Some p → p < n
      by (node.constant c) b q = absurd (none-some q)
      by (node.input i) b q = absurd (none-some q)
      by (node.refine i) b q = let d : i ≡ p = some_is q in omega arith
      by (node.effect i) b q = absurd (none-some q)
      by (node.slice i o w) b q = absurd (none-some q)
      by (node.concat i j w) b q = absurd (none-some q)
      by (node.unary u i) b q = absurd (none-some q)
      by (node.binary o i j) b q = absurd (none-some q)

  -- down a chain of Refines
  down_le : (k n : ℕ) → n < count_of g → down g k n ≤ n
  down_le zero n l = le_refl n
  down_le (suc k) n l = by (refined_at g n) refl (down_le k)
    where
      by : (x : Option ℕ) → refined_at g n ≡ x → ((p : ℕ) → p < count_of g → down g k p ≤ p) → given x (λ p. down g k p) n ≤ n
      by None e rest = le_refl n
      by (Some p) e rest = let d = refined_below n p l e in let r = rest p (omega arith) in omega arith

  -- the left operand of an operation by a constant
  by_constant_below : (n : ℕ) (c : ByConstant) → n < count_of g → by_constant_at g n ≡ Some c → c.base < n
  unfolding by_constant_at
  by_constant_below n c l e = by (operation_at g n) (start_le f n l) e
    where
      on : (o : Binary) (i : ℕ) (v : Option ℕ) → i < n → with_constant o i v ≡ Some c → c.base < n
      on o i None b q = absurd (none-some q)
      on o i (Some v) b q = let d : i ≡ c.base = ap (λ (x : ByConstant). x.base) (some_is q) in omega arith

      by : (o : Op) → start o ≤ n → by_constant_of g o ≡ Some c → c.base < n
      by (node.constant k) b q = absurd (none-some q)
      by (node.input i) b q = absurd (none-some q)
      by (node.refine i) b q = absurd (none-some q)
      by (node.effect i) b q = absurd (none-some q)
      by (node.slice i o w) b q = absurd (none-some q)
      by (node.concat i j w) b q = absurd (none-some q)
      by (node.unary u i) b q = absurd (none-some q)
      by (node.binary o i j) b q = on o i (literal g j) (omega arith) q

  -- the node that follows
  pub base_below : (n : ℕ) (a : Interval) (x : Next) → n < count_of g → base_of g n a ≡ Some x → x.node < n
  unfolding base_of origin
  base_below n a x l e = by (by_constant_at g (origin g n)) refl e
    where
      le : origin g n ≤ n
      le = down_le LIMIT n l

      on : (c : ByConstant) (y : Option Interval) → c.base < n → mapped (next c.base) y ≡ Some x → x.node < n
      on c None b q = absurd (none-some q)
      on c (Some y) b q = let d : c.base ≡ x.node = ap (λ (z : Next). z.node) (some_is q) in omega arith

      by : (y : Option ByConstant) → by_constant_at g (origin g n) ≡ y → given y (base_by g (type_at g n) a) None ≡ Some x → x.node < n
      by None p q = absurd (none-some q)
      by (Some c) p q =
          let b = by_constant_below (origin g n) c (omega (arith, le)) p in
          on c (undone (type_at g n) c.op c.value a) (omega (arith, le)) (provided_is (same_type (type_at g c.base) (type_at g n)) _ q).1

  -- ---- to a comparison

  -- a BoolNot's operand
  negated_below : (n p : ℕ) → n < count_of g → negated_at g n ≡ Some p → p < n
  unfolding negated_at
  negated_below n p l e = by (operation_at g n) (start_le f n l) e
    where
      by : (o : Op) → start o ≤ n → negated_of o ≡ Some p → p < n
      by (node.constant c) b q = absurd (none-some q)
      by (node.input i) b q = absurd (none-some q)
      by (node.refine i) b q = absurd (none-some q)
      by (node.effect i) b q = absurd (none-some q)
      by (node.slice i o w) b q = absurd (none-some q)
      by (node.concat i j w) b q = absurd (none-some q)
      by (node.unary u i) b q =
          let d : i ≡ p = some_is (provided_is (eqb (unary_code u) (unary_code un.BoolNot)) (Some i) q).1 in omega arith
      by (node.binary o i j) b q = absurd (none-some q)

  -- past the BoolNots
  behind-le : (k n : ℕ) (e : Bool) → n < count_of g → (behind g k n e).node ≤ n
  behind-le zero n e l = le_refl n
  behind-le (suc k) n e l = by (negated_at g n) refl (behind-le k)
    where
      by : (x : Option ℕ) → negated_at g n ≡ x → ((p : ℕ) (d : Bool) → p < count_of g → (behind g k p d).node ≤ p)
          → (given x (λ i. behind g k i (not e)) (record { node = n; expected = e })).node ≤ n
      by None q rest = le_refl n
      by (Some p) q rest = let d = negated_below n p l q in let r = rest p (not e) (omega arith) in omega arith

  -- both sides of a comparison
  compared_below : (n : ℕ) (c : Comparison) → n < count_of g → comparison_at g n ≡ Some c → (c.left < n) × (c.right < n)
  unfolding comparison_at
  compared_below n c l e = by (operation_at g n) (start_le f n l) e
    where
      by : (o : Op) → start o ≤ n → compared_by o ≡ Some c → (c.left < n) × (c.right < n)
      by (node.constant k) b q = absurd (none-some q)
      by (node.input i) b q = absurd (none-some q)
      by (node.refine i) b q = absurd (none-some q)
      by (node.effect i) b q = absurd (none-some q)
      by (node.slice i o w) b q = absurd (none-some q)
      by (node.concat i j w) b q = absurd (none-some q)
      by (node.unary u i) b q = absurd (none-some q)
      by (node.binary o i j) b q =
          subst (λ (x : Comparison). (x.left < n) × (x.right < n)) (some_is (provided_is (is_any comparisons o) _ q).1) (omega arith, omega arith)

  -- the nodes that a guard compares
  pub guard_below : (n : ℕ) (e : Bool) (c : Comparison) → n < count_of g → comparison_at g (behind_nots g n e).node ≡ Some c → (c.left < n) × (c.right < n)
  unfolding behind_nots
  guard_below n e c l q =
      let b = behind-le LIMIT n e l in
      let d = compared_below (behind_nots g n e).node c (omega arith) q in
      (omega arith, omega arith)

-- Assuming a guard (assume.rs 83 to 151), on the words of the region.
use Rattle.std.specs.Prelude.{Bool, cond, List, ℕ}
use Rattle.std.specs.Prelude.{Option, None, Some}
use Rattle.word.specs.Option.{given}
use Rattle.range.specs.Interval.{Interval}
use Rattle.evaluate.specs.declared.Binary.{Binary}
use Rattle.graph.specs.Node.{range_at}
use Rattle.graph.specs.Insert.{resolve}
use Rattle.guard.specs.Condition.{behind_nots, Comparison, comparison_at}
use Rattle.assume.specs.Limits.{Limits, Pair, comparable, limits_by}
use Rattle.assume.specs.Refine.{Outcome, unchanged, narrowed, full, Assumed, assumed, refined}

-- the second node is refined on what the first left, unless that had no room
abbrev pub then_refined : Outcome → List ℕ → ℕ → Limits → Assumed
then_refined unchanged h n l = refined unchanged h n l
then_refined narrowed h n l = refined narrowed h n l
then_refined full h n l = assumed full h

-- the left operand, then the right one
unfoldable pub refined_both : List ℕ → ℕ → ℕ → Pair → Assumed
refined_both g a b p = then_refined (refined unchanged g a p.left).outcome (refined unchanged g a p.left).words b p.right

-- by the ranges that both operands have before the first of them is refined
abbrev pub assumed_by : List ℕ → Bool → Binary → ℕ → ℕ → Option Interval → Option Interval → Assumed
assumed_by g e o a b None s = assumed unchanged g
assumed_by g e o a b (Some x) None = assumed unchanged g
assumed_by g e o a b (Some x) (Some y) = cond (comparable o x y) (refined_both g a b (limits_by o e x y)) (assumed unchanged g)

-- a comparison of two nodes, which are resolved
unfoldable pub assumed_of : List ℕ → Bool → Comparison → Assumed
assumed_of g e c = assumed_by g e c.op (resolve g c.left) (resolve g c.right) (range_at g (resolve g c.left)) (range_at g (resolve g c.right))

-- a condition, which is not resolved: only what is a comparison behind its BoolNots says something
unfoldable pub assumed_guard : List ℕ → ℕ → Bool → Assumed
assumed_guard g n e = given (comparison_at g (behind_nots g n e).node) (assumed_of g (behind_nots g n e).expected) (assumed unchanged g)

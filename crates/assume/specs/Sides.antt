-- What a guard says of both operands of its comparison: the nodes that they are by now, and their limits.
use Rattle.std.specs.Prelude.{Bool, List, ℕ}
use Rattle.std.specs.Prelude.{Option, None, Some}
use Rattle.word.specs.Option.{only, given}
use Rattle.range.specs.Interval.{Interval}
use Rattle.evaluate.specs.declared.Binary.{Binary}
use Rattle.graph.specs.Node.{range_at}
use Rattle.graph.specs.Insert.{resolve}
use Rattle.guard.specs.Condition.{behind_nots, Comparison, comparison_at}
use Rattle.assume.specs.declared.Sides as declared-sides
use Rattle.assume.specs.Limits.{Pair, pair_of, comparable, limits_by}

-- two nodes, and their limits
pub record Sides : Type 0 where
  pub left : ℕ
  pub right : ℕ
  pub limits : Pair

-- two sides by their parts
abbrev pub both : ℕ → ℕ → Pair → Sides
both a b p = record { left = a; right = b; limits = p }

-- what a Sides of the code stands for, if it is there
abbrev pub sides_of : Option declared-sides.Sides → Option Sides
sides_of (Some s) = Some (both s.left.0 s.right.0 (pair_of s.limits))
sides_of None = None

-- by the ranges of both operands; none where they say nothing
abbrev pub sides_by : Bool → Binary → ℕ → ℕ → Option Interval → Option Interval → Option Sides
sides_by e o a b None s = None
sides_by e o a b (Some x) None = None
sides_by e o a b (Some x) (Some y) = only (comparable o x y) (both a b (limits_by o e x y))

-- of a comparison of two nodes, which are resolved
abbrev pub sides_at : List ℕ → Bool → Comparison → Option Sides
sides_at g e c = sides_by e c.op (resolve g c.left) (resolve g c.right) (range_at g (resolve g c.left)) (range_at g (resolve g c.right))

-- of a condition, which is not resolved
unfoldable pub sides : List ℕ → ℕ → Bool → Option Sides
sides g n e = given (comparison_at g (behind_nots g n e).node) (sides_at g (behind_nots g n e).expected) None

-- What a guard narrows: on the words of the region, before it writes one.
use Rattle.std.specs.Prelude.{Bool, false, ◌||◌, List, ℕ}
use Rattle.std.specs.Prelude.{Option, None}
use Rattle.word.specs.Option.{only, given}
use Rattle.graph.specs.Node.{type_at, range_at}
use Rattle.graph.specs.Insert.{resolve}
use Rattle.assume.specs.Limits.{Limits, Pair, meet, narrows}
use Rattle.assume.specs.Sides.{Sides, sides}

-- do limits narrow the node that n is by now?
unfoldable pub narrows_at : List ℕ → ℕ → Limits → Bool
narrows_at g n l = given (range_at g (resolve g n)) (λ old. narrows (type_at g (resolve g n)) old (meet old l)) false

-- the left operand or the right one
unfoldable pub narrows_either : List ℕ → ℕ → ℕ → Pair → Bool
narrows_either g a b p = narrows_at g a p.left || narrows_at g b p.right

-- what a guard refines, if it narrows a node
unfoldable pub narrowing : List ℕ → ℕ → Bool → Option Sides
narrowing g n e = given (sides g n e) (λ s. only (narrows_either g s.left s.right s.limits) s) None

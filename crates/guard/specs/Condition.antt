-- A condition as guards read it: the BoolNots before it taken off, and the comparison that it is.
use Rattle.std.specs.Prelude.{Bool, not, List, ℕ, zero, suc, eqb}
use Rattle.std.specs.Prelude.{Option, None, Some}
use Rattle.word.specs.Option.{only, given}
use Rattle.evaluate.specs.Operator.{unary_code}
use Rattle.evaluate.specs.declared.Unary.TheVariants as un
use Rattle.evaluate.specs.declared.Binary.{Binary}
use Rattle.graph.specs.Layout.{LIMIT}
use Rattle.graph.specs.Node as node
use Rattle.graph.specs.Node.{Op, operation_at}
use Rattle.fold.specs.Operator.{comparisons}
use Rattle.fold.specs.Shape.{is_any}
use Rattle.guard.specs.declared.Condition as declared-condition
use Rattle.guard.specs.declared.Comparison as declared-comparison

-- a node, and what is expected of it
pub record Condition : Type 0 where
  pub node : ℕ
  pub expected : Bool

-- what a Condition of the code stands for
abbrev pub condition_of : declared-condition.Condition → Condition
condition_of c = record { node = c.node.0; expected = c.expected }

-- the operand of a BoolNot
abbrev pub negated_of : Op → Option ℕ
negated_of (node.constant c) = None
negated_of (node.input i) = None
negated_of (node.refine i) = None
negated_of (node.effect i) = None
negated_of (node.slice i o w) = None
negated_of (node.concat i j w) = None
negated_of (node.unary u i) = only (eqb (unary_code u) (unary_code un.BoolNot)) i
negated_of (node.binary o i j) = None

-- the operand of node n, if it is a BoolNot
unfoldable pub negated_at : List ℕ → ℕ → Option ℕ
negated_at g n = negated_of (operation_at g n)

-- at most k BoolNots down, each of which turns what is expected
abbrev pub behind : List ℕ → ℕ → ℕ → Bool → Condition
behind g zero n e = record { node = n; expected = e }
behind g (suc k) n e = given (negated_at g n) (λ i. behind g k i (not e)) (record { node = n; expected = e })

-- a condition with the BoolNots before it taken off (assume.rs 84 to 87, linear.rs 13 to 16)
unfoldable pub behind_nots : List ℕ → ℕ → Bool → Condition
behind_nots g n e = behind g LIMIT n e

-- two nodes compared
pub record Comparison : Type 0 where
  pub op : Binary
  pub left : ℕ
  pub right : ℕ

-- what a Comparison of the code stands for
abbrev pub one_comparison_of : declared-comparison.Comparison → Comparison
one_comparison_of c = record { op = c.op; left = c.left.0; right = c.right.0 }

-- what a Option Comparison stands for
abbrev pub comparison_of : Option declared-comparison.Comparison → Option Comparison
comparison_of (Some c) = Some (one_comparison_of c)
comparison_of None = None

-- an operation that is a comparison
abbrev pub compared_by : Op → Option Comparison
compared_by (node.constant c) = None
compared_by (node.input i) = None
compared_by (node.refine i) = None
compared_by (node.effect i) = None
compared_by (node.slice i o w) = None
compared_by (node.concat i j w) = None
compared_by (node.unary u i) = None
compared_by (node.binary o i j) = only (is_any comparisons o) (record { op = o; left = i; right = j })

-- node n, if it is a comparison
unfoldable pub comparison_at : List ℕ → ℕ → Option Comparison
comparison_at g n = compared_by (operation_at g n)

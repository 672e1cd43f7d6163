-- An environment, and what is taken of it: what is said of values is said where that holds.
use mathlib.Core.List.{List}
use Rattle.std.specs.Prelude.{Option}
use Prim.Native.Nat.{ℕ}
use Rattle.range.specs.declared.ScalarType.{ScalarType}
use Rattle.graph.specs.Node.{Op}
use Rattle.meaning.specs.Value as spec
use Rattle.meaning.specs.Value.{Env, Operand}

-- an environment, and the proposition under which its values are as declared
pub record World : Type 1 where
  pub env : Env
  pub IsSure : Type 0

-- the value of node n
abbrev pub value : World → List ℕ → ℕ → Option ℕ
value ρ g n = spec.value ρ.env g n

-- node n as an operand
abbrev pub operand : World → List ℕ → ℕ → Operand
operand ρ g n = spec.operand ρ.env g n

-- an operation in a node of type t, by what its operands' ids stand for
abbrev pub operation_means : World → ScalarType → Op → (ℕ → Operand) → Option ℕ
operation_means ρ t o look = spec.operation_means ρ.env t o look

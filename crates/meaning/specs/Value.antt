-- What a node means: its value, where each input and each effect has one. Document 01's 'Typing table' paragraph.
use Rattle.std.specs.Prelude.{List, [], ◌∷◌, ◌++◌, ℕ, zero, suc, ◌^◌, ltb, ℤ, pos, get_or}
use Rattle.std.specs.Prelude.{Option, None, Some}
use Rattle.word.specs.Value.{signed}
use Rattle.word.specs.Option.{only}
use Rattle.range.specs.declared.ScalarType.{ScalarType}
use Rattle.range.specs.declared.ScalarType.TheVariants as ty
use Rattle.evaluate.specs.Evaluate.{reduced, unary_value, binary_value, bits_from, concat_value}
use Rattle.evaluate.specs.declared.Unary.{Unary}
use Rattle.evaluate.specs.declared.Binary.{Binary}
use Rattle.graph.specs.Node as node
use Rattle.graph.specs.Node.{Op, type_at, operation_at}

-- a pattern for each input number and each effect number
pub record Env : Type 0 where
  pub input : ℕ → ℕ
  pub effect : ℕ → ℕ

-- the values of a type are the patterns below this: Bool is 0 or 1, Bits(w) below 2 ^ w, Integer any pattern
abbrev pub size : ScalarType → ℕ
size ty.Bool = 2
size (ty.Bits w) = 2 ^ w
size ty.Integer = 2 ^ 128

-- the integer that a value stands for: Integer is read signed, Bits as non-negative
abbrev pub integer_of : ScalarType → ℕ → ℤ
integer_of ty.Bool v = pos v
integer_of (ty.Bits w) v = pos v
integer_of ty.Integer v = signed 128 v

-- a pattern, undefined if it isn't of the type
unfoldable pub of_type : ScalarType → ℕ → Option ℕ
of_type t v = only (ltb v (size t)) v

-- a result as a value of the type, taken modulo 2 ^ w for Bits(w)
abbrev pub valued : ScalarType → ℕ → Option ℕ
valued t v = of_type t (reduced t v)

-- what follows a value, undefined if it is
abbrev pub and_then : Option ℕ → (ℕ → Option ℕ) → Option ℕ
and_then None f = None
and_then (Some v) f = f v

-- ---- the plain operations, on values that may be undefined

-- a unary operator
abbrev pub unary_means : ScalarType → Unary → Option ℕ → Option ℕ
unary_means t o a = and_then a (λ v. and_then (unary_value o v) (valued t))

-- a binary operator; its evaluator reduces to the type
abbrev pub binary_means : ScalarType → Binary → Option ℕ → Option ℕ → Option ℕ
binary_means t o a b = and_then a (λ x. and_then b (λ y. and_then (binary_value o t x y) (of_type t)))

-- Slice keeps the bits from its offset up
abbrev pub slice_means : ScalarType → ℕ → Option ℕ → Option ℕ
slice_means t o a = and_then a (λ v. valued t (bits_from o v))

-- Concat is high × 2 ^ low width + low
abbrev pub concat_means : ScalarType → ℕ → Option ℕ → Option ℕ → Option ℕ
concat_means t v a b = and_then a (λ x. and_then b (λ y. valued t (concat_value v x y)))

-- ---- operands

-- an operand: its type, and its value if it has one
pub record Operand : Type 0 where
  pub type : ScalarType
  pub val : Option ℕ

-- an operation in a node of type t, by what its operands' ids stand for
abbrev pub operation_means : Env → ScalarType → Op → (ℕ → Operand) → Option ℕ
operation_means ρ t (node.constant c) look = valued t c
operation_means ρ t (node.input i) look = of_type t (ρ.input i)
operation_means ρ t (node.refine i) look = and_then (look i).val (of_type t)
operation_means ρ t (node.effect i) look = of_type t (ρ.effect i)
operation_means ρ t (node.slice i o w) look = slice_means t o (look i).val
operation_means ρ t (node.concat i j v) look = concat_means t v (look i).val (look j).val
operation_means ρ t (node.unary u i) look = unary_means t u (look i).val
operation_means ρ t (node.binary b i j) look = binary_means t b (look i).val (look j).val

-- ---- the values of nodes

-- the operand of an id that no node below has
abbrev pub missing : Operand
missing = record { type = ty.Bool; val = None }

-- the first m nodes as operands
unfoldable pub operands : Env → List ℕ → ℕ → List Operand
operands ρ g zero = []
operands ρ g (suc m) =
    operands ρ g m
    ++ (record { type = type_at g m; val = operation_means ρ (type_at g m) (operation_at g m) (λ i. get_or (operands ρ g m) i missing) } ∷ [])

-- the value of node n, by the nodes below it
unfoldable pub value : Env → List ℕ → ℕ → Option ℕ
value ρ g n = operation_means ρ (type_at g n) (operation_at g n) (λ i. get_or (operands ρ g n) i missing)

-- node n as an operand
abbrev pub operand : Env → List ℕ → ℕ → Operand
operand ρ g n = record { type = type_at g n; val = value ρ g n }

-- What the words of a node stand for, and the words of a new node.
use Rattle.std.specs.Prelude.{cond, List, [], ◌∷◌, ◌++◌, ℕ, ◌+◌, ◌*◌, ◌/◌, ◌%◌, ◌^◌, eqb, ltb}
use Rattle.std.specs.Prelude.{Option, None, Some}
use Rattle.word.specs.Value.{val, residue, signed}
use Rattle.range.specs.Interval.{Interval, interval_of}
use Rattle.range.specs.declared.ScalarType.{ScalarType}
use Rattle.range.specs.declared.ScalarType.TheVariants as ty
use Rattle.evaluate.specs.declared.Unary.{Unary}
use Rattle.evaluate.specs.declared.Binary.{Binary}
use Rattle.evaluate.specs.Operator.{BOOL, BITS, INTEGER, BINARY, unary_code, unary_width, unary_of, binary_code, binary_of, type_width}
use Rattle.graph.specs.declared.Node.{Node}
use Rattle.graph.specs.declared.Operation.{Operation}
use Rattle.graph.specs.declared.Operation.TheVariants as operation
use Rattle.graph.specs.Layout.{TYPE, WIDTH, RANGE, MIN, MAX, OPERATION, X, Y, Z, ALIAS, CONSTANT, INPUT, REFINE, EFFECT, SLICE, CONCAT, word_at}

-- an operation, with ids, numbers and patterns as numbers
pub data Op : Type 0 where
  constant : ℕ → Op
  input : ℕ → Op
  refine : ℕ → Op
  effect : ℕ → Op
  slice : ℕ → ℕ → ℕ → Op
  concat : ℕ → ℕ → ℕ → Op
  unary : Unary → ℕ → Op
  binary : Binary → ℕ → ℕ → Op

-- Slice has its source, offset and width; Concat its high part, its low part and the low part's width
abbrev pub op_of : Operation → Op
op_of (operation.Constant w) = constant (val w)
op_of (operation.Input i) = input i.0
op_of (operation.Refine i) = refine i.0
op_of (operation.Effect i) = effect i.0
op_of (operation.Slice i o w) = slice i.0 o w
op_of (operation.Concat i j w) = concat i.0 j.0 w
op_of (operation.Unary u i) = unary u i.0
op_of (operation.Binary b i j) = binary b i.0 j.0

-- ---- reading

-- a width or an offset is a u16
abbrev pub narrow : ℕ → ℕ
narrow n = n % 2 ^ 16

-- the type of a code and a width
abbrev pub type_of : ℕ → ℕ → ScalarType
type_of code width = cond (eqb code BOOL) ty.Bool (cond (eqb code BITS) (ty.Bits (narrow width)) ty.Integer)

-- the type of node n
abbrev pub type_at : List ℕ → ℕ → ScalarType
type_at g n = type_of (word_at g n TYPE) (word_at g n WIDTH)

-- two words, low half first
abbrev pub pair : ℕ → ℕ → ℕ
pair low high = high * 2 ^ 64 + low

-- a range by its flag and the patterns of its ends
abbrev pub range_of : ℕ → ℕ → ℕ → Option Interval
range_of flag low high = cond (eqb flag 0) None (Some (record { low = signed 128 low; high = signed 128 high }))

-- the range of node n
abbrev pub range_at : List ℕ → ℕ → Option Interval
range_at g n = range_of (word_at g n RANGE) (pair (word_at g n MIN) (word_at g n (MIN + 1))) (pair (word_at g n MAX) (word_at g n (MAX + 1)))

-- the operation of a code and its three fields: another code below BINARY is taken for a unary operator, from there on for a binary one
abbrev pub operation_of : ℕ → ℕ → ℕ → ℕ → Op
operation_of code x y z =
    cond (eqb code CONSTANT) (constant (pair x y))
    (cond (eqb code INPUT) (input x)
    (cond (eqb code REFINE) (refine x)
    (cond (eqb code EFFECT) (effect x)
    (cond (eqb code SLICE) (slice x (narrow y) (narrow z))
    (cond (eqb code CONCAT) (concat x y (narrow z))
    (cond (ltb code BINARY) (unary (unary_of code (narrow z)) x)
    (binary (binary_of code) x y)))))))

-- the operation of node n
abbrev pub operation_at : List ℕ → ℕ → Op
operation_at g n = operation_of (word_at g n OPERATION) (word_at g n X) (word_at g n Y) (word_at g n Z)

-- a node but for its alias
pub record Parts : Type 0 where
  pub type : ScalarType
  pub range : Option Interval
  pub operation : Op

-- what a Node stands for
abbrev pub node_of : Node → Parts
node_of n = record { type = n.ty; range = interval_of n.range; operation = op_of n.operation }

-- node n but for its alias
abbrev pub node_at : List ℕ → ℕ → Parts
node_at g n = record { type = type_at g n; range = range_at g n; operation = operation_at g n }

-- the alias plus 1, or 0
abbrev pub alias_at : List ℕ → ℕ → ℕ
alias_at g n = word_at g n ALIAS

-- ---- writing

-- the code of a type
abbrev pub type_code : ScalarType → ℕ
type_code ty.Bool = BOOL
type_code (ty.Bits w) = BITS
type_code ty.Integer = INTEGER

-- is there a range? 0 or 1
abbrev pub range_flag : Option Interval → ℕ
range_flag None = 0
range_flag (Some a) = 1

-- the pattern of the minimum, 0 without a range
abbrev pub range_low : Option Interval → ℕ
range_low None = 0
range_low (Some a) = residue 128 a.low

-- the pattern of the maximum, 0 without a range
abbrev pub range_high : Option Interval → ℕ
range_high None = 0
range_high (Some a) = residue 128 a.high

-- the code of an operation
abbrev pub op_code : Op → ℕ
op_code (constant c) = CONSTANT
op_code (input i) = INPUT
op_code (refine i) = REFINE
op_code (effect i) = EFFECT
op_code (slice i o w) = SLICE
op_code (concat i j w) = CONCAT
op_code (unary u i) = unary_code u
op_code (binary b i j) = binary_code b

-- field X: a constant's low half, a number, or the first operand
abbrev pub op_x : Op → ℕ
op_x (constant c) = c % 2 ^ 64
op_x (input i) = i
op_x (refine i) = i
op_x (effect i) = i
op_x (slice i o w) = i
op_x (concat i j w) = i
op_x (unary u i) = i
op_x (binary b i j) = i

-- field Y: a constant's high half, an offset, or the second operand
abbrev pub op_y : Op → ℕ
op_y (constant c) = c / 2 ^ 64
op_y (input i) = 0
op_y (refine i) = 0
op_y (effect i) = 0
op_y (slice i o w) = o
op_y (concat i j w) = j
op_y (unary u i) = 0
op_y (binary b i j) = j

-- field Z: a width, or a unary operator's parameter
abbrev pub op_z : Op → ℕ
op_z (constant c) = 0
op_z (input i) = 0
op_z (refine i) = 0
op_z (effect i) = 0
op_z (slice i o w) = w
op_z (concat i j w) = w
op_z (unary u i) = unary_width u
op_z (binary b i j) = 0

-- the words of a node's key
abbrev pub key_of : ScalarType → Option Interval → Op → List ℕ
key_of t r o =
    type_code t ∷ type_width t ∷ range_flag r ∷ range_low r % 2 ^ 64 ∷ range_low r / 2 ^ 64 ∷ range_high r % 2 ^ 64 ∷ range_high r / 2 ^ 64
    ∷ op_code o ∷ op_x o ∷ op_y o ∷ op_z o ∷ []

-- the words past the key of a node without an alias
abbrev pub PAST : List ℕ
PAST = 0 ∷ []

-- the words of a node without an alias
unfoldable pub words_of : ScalarType → Option Interval → Op → List ℕ
words_of t r o = key_of t r o ++ PAST

-- What a builder reads off nodes: their types, ranges and constants, and the shapes that a fold looks for.
use Rattle.std.specs.Prelude.{Bool, true, false, ◌||◌, List, [], ◌∷◌, ℕ, zero, suc, min, ◌-◌, ◌^◌, eqb, leb}
use Rattle.std.specs.Prelude.{Option, None, Some}
use Rattle.range.specs.Interval.{Interval, nonnegative, inside_bits}
use Rattle.range.specs.declared.ScalarType.{ScalarType}
use Rattle.range.specs.declared.ScalarType.TheVariants as ty
use Rattle.evaluate.specs.Operator.{binary_code}
use Rattle.evaluate.specs.declared.Binary.{Binary}
use Rattle.graph.specs.Layout.{LIMIT}
use Rattle.graph.specs.Node as node
use Rattle.graph.specs.Node.{Op, operation_at}
use Rattle.graph.specs.Insert.{literal}
use Rattle.word.specs.Value.{val}
use Rattle.word.specs.Option.{mapped, given}
use Rattle.fold.specs.declared.ByConstant as declared
use Rattle.graph.specs.declared.NodeId as declared-id

-- are two types equal?
abbrev pub same_type : ScalarType → ScalarType → Bool
same_type ty.Bool ty.Bool = true
same_type ty.Bool (ty.Bits v) = false
same_type ty.Bool ty.Integer = false
same_type (ty.Bits w) ty.Bool = false
same_type (ty.Bits w) (ty.Bits v) = eqb w v
same_type (ty.Bits w) ty.Integer = false
same_type ty.Integer ty.Bool = false
same_type ty.Integer (ty.Bits v) = false
same_type ty.Integer ty.Integer = true

-- is it Bits of at most that width?
abbrev pub narrow_type : ScalarType → ℕ → Bool
narrow_type ty.Bool w = false
narrow_type (ty.Bits v) w = leb v w
narrow_type ty.Integer w = false

-- is it Integer, or Bits of at least that width?
abbrev pub is_wide : ScalarType → ℕ → Bool
is_wide ty.Bool w = false
is_wide (ty.Bits v) w = leb w v
is_wide ty.Integer w = true

-- are two operators the same?
abbrev pub same_binary : Binary → Binary → Bool
same_binary a b = eqb (binary_code a) (binary_code b)

-- is it one of these operators?
abbrev pub is_any : List Binary → Binary → Bool
is_any [] o = false
is_any (a ∷ rest) o = same_binary o a || is_any rest o

-- is there a range, and is it not negative?
abbrev pub not_negative : Option Interval → Bool
not_negative r = given r nonnegative false

-- is there a range, and does it lie in Bits(w)?
abbrev pub fits : ℕ → Option Interval → Bool
fits w r = given r (inside_bits w) false

-- the largest number of w bits
abbrev pub mask : ℕ → ℕ
mask w = 2 ^ min w 128 - 1

-- a binary operation whose right operand is a constant
pub record ByConstant : Type 0 where
  pub op : Binary
  pub base : ℕ
  pub value : ℕ

-- what a ByConstant of the code stands for
abbrev pub one_by_constant_of : declared.ByConstant → ByConstant
one_by_constant_of c = record { op = c.op; base = c.base.0; value = val c.value }

-- what a Option ByConstant stands for
abbrev pub maybe_by_constant_of : Option declared.ByConstant → Option ByConstant
maybe_by_constant_of (Some c) = Some (one_by_constant_of c)
maybe_by_constant_of None = None

-- the operation with this constant, if there is one
abbrev pub with_constant : Binary → ℕ → Option ℕ → Option ByConstant
with_constant o base = mapped (λ v. record { op = o; base = base; value = v })

-- the operation of that shape
abbrev pub by_constant_of : List ℕ → Op → Option ByConstant
by_constant_of g (node.constant c) = None
by_constant_of g (node.input i) = None
by_constant_of g (node.refine i) = None
by_constant_of g (node.effect i) = None
by_constant_of g (node.slice i o w) = None
by_constant_of g (node.concat i j w) = None
by_constant_of g (node.unary u i) = None
by_constant_of g (node.binary o i j) = with_constant o i (literal g j)

-- node n, if it is of that shape
unfoldable pub by_constant_at : List ℕ → ℕ → Option ByConstant
by_constant_at g n = by_constant_of g (operation_at g n)

-- what a Option NodeId stands for
abbrev pub id_of : Option declared-id.NodeId → Option ℕ
id_of (Some i) = Some i.0
id_of None = None

-- the source of a Refine
abbrev pub refined_of : Op → Option ℕ
refined_of (node.constant c) = None
refined_of (node.input i) = None
refined_of (node.refine i) = Some i
refined_of (node.effect i) = None
refined_of (node.slice i o w) = None
refined_of (node.concat i j w) = None
refined_of (node.unary u i) = None
refined_of (node.binary o i j) = None

-- the source of node n, if it is a Refine
unfoldable pub refined_at : List ℕ → ℕ → Option ℕ
refined_at g n = refined_of (operation_at g n)

-- at most k steps down a chain of Refines
abbrev pub down : List ℕ → ℕ → ℕ → ℕ
down g zero n = n
down g (suc k) n = given (refined_at g n) (λ p. down g k p) n

-- the node that a chain of Refines starts from
unfoldable pub origin : List ℕ → ℕ → ℕ
origin g n = down g LIMIT n

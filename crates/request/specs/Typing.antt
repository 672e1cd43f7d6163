-- Document 01's typing table: which types an operator takes and gives.
use Rattle.std.specs.Prelude.{Bool, true, false, cond, ◌&&◌, ℕ, ◌-◌, leb}
use Rattle.range.specs.declared.ScalarType.{ScalarType}
use Rattle.range.specs.declared.ScalarType.TheVariants as ty
use Rattle.evaluate.specs.declared.Unary.{Unary}
use Rattle.evaluate.specs.declared.Unary.TheVariants as un
use Rattle.evaluate.specs.declared.Binary.{Binary}
use Rattle.fold.specs.Operator.{bitwise, any_shift, comparisons}
use Rattle.fold.specs.Shape.{same_type, is_any}

-- Bits or Integer
abbrev pub is_number : ScalarType → Bool
is_number ty.Bool = false
is_number (ty.Bits w) = true
is_number ty.Integer = true

-- Bits
abbrev pub is_bits : ScalarType → Bool
is_bits ty.Bool = false
is_bits (ty.Bits w) = true
is_bits ty.Integer = false

-- Integer, or Bits(t) with t at least w
abbrev pub is_extension : ScalarType → ℕ → Bool
is_extension ty.Bool w = false
is_extension (ty.Bits t) w = leb w t
is_extension ty.Integer w = true

-- a unary operator from type s to type t
abbrev pub unary_typed : Unary → ScalarType → ScalarType → Bool
unary_typed un.BoolNot s t = same_type s ty.Bool && same_type t ty.Bool
unary_typed un.BitNot s t = is_bits s && same_type t s
unary_typed un.Negate s t = same_type s ty.Integer && same_type t ty.Integer
unary_typed (un.Truncate w) s t = same_type t (ty.Bits w)
unary_typed (un.SignExtend w) s t = same_type s (ty.Bits w) && is_extension t w
unary_typed (un.LeadingZeros w) s t = same_type s (ty.Bits w) && is_number t
unary_typed (un.TrailingZeros w) s t = same_type s (ty.Bits w) && is_number t

-- both operands and the result of one type
abbrev pub same_types : ScalarType → ScalarType → ScalarType → Bool
same_types a b t = same_type a t && same_type b t

-- sums, products and divisions: of one type, Bits or Integer
abbrev pub arithmetic : ScalarType → ScalarType → ScalarType → Bool
arithmetic a b t = is_number t && same_types a b t

-- shifts: left operand and result of one type, Bits or Integer; the amount any of these
abbrev pub shift : ScalarType → ScalarType → ScalarType → Bool
shift a b t = is_number t && (same_type a t && is_number b)

-- comparisons: two operands of one type, to Bool
abbrev pub comparison : ScalarType → ScalarType → ScalarType → Bool
comparison a b t = same_type t ty.Bool && same_type a b

-- a binary operator from types a and b to type t
abbrev pub binary_typed : Binary → ScalarType → ScalarType → ScalarType → Bool
binary_typed o a b t =
    cond (is_any bitwise o) (same_types a b t)
    (cond (is_any any_shift o) (shift a b t) (cond (is_any comparisons o) (comparison a b t) (arithmetic a b t)))

-- a concat of width w: high exactly Bits(w - low width), low exactly Bits(low width)
abbrev pub concat_typed : ScalarType → ScalarType → ℕ → ℕ → Bool
concat_typed h l v w = leb v w && (same_type h (ty.Bits (w - v)) && same_type l (ty.Bits v))

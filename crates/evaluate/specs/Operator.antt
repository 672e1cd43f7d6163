-- The codes and widths of types and operators: the one place that has their numbers.
use Rattle.std.specs.Prelude.{Bool, cond, ◌&&◌, List, [], ◌∷◌, ℕ, ◌+◌, ◌-◌, eqb, ltb, leb, get_or}
use Rattle.std.specs.Prelude.{Option, Some}
use Rattle.word.specs.Option.{only}
use Rattle.range.specs.declared.ScalarType.{ScalarType}
use Rattle.range.specs.declared.ScalarType.TheVariants as ty
use Rattle.evaluate.specs.declared.Unary.{Unary}
use Rattle.evaluate.specs.declared.Unary.TheVariants as un
use Rattle.evaluate.specs.declared.Binary.{Binary}
use Rattle.evaluate.specs.declared.Binary.TheVariants as bi

-- the first unary code
abbrev pub UNARY : ℕ
UNARY = 10

-- the first code of a unary operator with a width
abbrev pub PARAMETER : ℕ
PARAMETER = 13

-- one past the last unary code
abbrev pub UNARY-END : ℕ
UNARY-END = 17

-- the first binary code
abbrev pub BINARY : ℕ
BINARY = 20

-- one past the last binary code
abbrev pub BINARY-END : ℕ
BINARY-END = 39

-- ---- unary

-- from UNARY on, in the source's order
abbrev pub unary_code : Unary → ℕ
unary_code un.BoolNot = UNARY
unary_code un.BitNot = UNARY + 1
unary_code un.Negate = UNARY + 2
unary_code (un.Truncate w) = PARAMETER
unary_code (un.SignExtend w) = PARAMETER + 1
unary_code (un.LeadingZeros w) = PARAMETER + 2
unary_code (un.TrailingZeros w) = PARAMETER + 3

-- the parameter width, or 0
abbrev pub unary_width : Unary → ℕ
unary_width un.BoolNot = 0
unary_width un.BitNot = 0
unary_width un.Negate = 0
unary_width (un.Truncate w) = w
unary_width (un.SignExtend w) = w
unary_width (un.LeadingZeros w) = w
unary_width (un.TrailingZeros w) = w

-- the unary operators in the order of their codes, with the width w
abbrev pub unaries : ℕ → List Unary
unaries w = un.BoolNot ∷ un.BitNot ∷ un.Negate ∷ un.Truncate w ∷ un.SignExtend w ∷ un.LeadingZeros w ∷ un.TrailingZeros w ∷ []

-- the unary operator of a code; BoolNot for a code that is none's
abbrev pub unary_of : ℕ → ℕ → Unary
unary_of code width = get_or (unaries width) (code - UNARY) un.BoolNot

-- is this a unary operator's code, with a parameter that it takes? Below PARAMETER that is 0
abbrev pub is_unary_code : ℕ → ℕ → Bool
is_unary_code code parameter = cond (ltb code PARAMETER) (leb UNARY code && eqb parameter 0) (ltb code UNARY-END)

-- ---- binary

-- from BINARY on, in the source's order
abbrev pub binary_code : Binary → ℕ
binary_code bi.Add = BINARY
binary_code bi.Sub = BINARY + 1
binary_code bi.Mul = BINARY + 2
binary_code bi.And = BINARY + 3
binary_code bi.Or = BINARY + 4
binary_code bi.Xor = BINARY + 5
binary_code bi.ShiftLeft = BINARY + 6
binary_code bi.ShiftRight = BINARY + 7
binary_code bi.ArithmeticShiftRight = BINARY + 8
binary_code bi.Equal = BINARY + 9
binary_code bi.NotEqual = BINARY + 10
binary_code bi.LessSigned = BINARY + 11
binary_code bi.LessUnsigned = BINARY + 12
binary_code bi.LessEqualSigned = BINARY + 13
binary_code bi.LessEqualUnsigned = BINARY + 14
binary_code bi.DivideSigned = BINARY + 15
binary_code bi.RemainderSigned = BINARY + 16
binary_code bi.DivideUnsigned = BINARY + 17
binary_code bi.RemainderUnsigned = BINARY + 18

-- the binary operators in the order of their codes
abbrev pub binaries : List Binary
binaries =
    bi.Add ∷ bi.Sub ∷ bi.Mul ∷ bi.And ∷ bi.Or ∷ bi.Xor ∷ bi.ShiftLeft ∷ bi.ShiftRight ∷ bi.ArithmeticShiftRight
    ∷ bi.Equal ∷ bi.NotEqual ∷ bi.LessSigned ∷ bi.LessUnsigned ∷ bi.LessEqualSigned ∷ bi.LessEqualUnsigned
    ∷ bi.DivideSigned ∷ bi.RemainderSigned ∷ bi.DivideUnsigned ∷ bi.RemainderUnsigned ∷ []

-- the binary operator of a code; Add for a code that is none's
abbrev pub binary_of : ℕ → Binary
binary_of code = get_or binaries (code - BINARY) bi.Add

-- is this a binary operator's code?
abbrev pub is_binary_code : ℕ → Bool
is_binary_code code = leb BINARY code && ltb code BINARY-END

-- ---- types

-- the code of Bool
abbrev pub BOOL : ℕ
BOOL = 0

-- the code of Bits
abbrev pub BITS : ℕ
BITS = 1

-- the code of Integer
abbrev pub INTEGER : ℕ
INTEGER = 2

-- the type of a code, with that width if it is Bits
abbrev pub type_of : ℕ → ℕ → Option ScalarType
type_of code width = cond (eqb code BOOL) (Some ty.Bool) (cond (eqb code BITS) (Some (ty.Bits width)) (only (eqb code INTEGER) ty.Integer))

-- the widest Bits
abbrev pub WIDEST : ℕ
WIDEST = 128

-- one past the widest
abbrev pub WIDTHS : ℕ
WIDTHS = WIDEST + 1

-- one past the largest offset of a slice
abbrev pub OFFSETS : ℕ
OFFSETS = WIDEST

-- the width of Bits, else 0
abbrev pub type_width : ScalarType → ℕ
type_width ty.Bool = 0
type_width (ty.Bits w) = w
type_width ty.Integer = 0

-- The evaluators: what each operator gives on 128-bit patterns, as native.rs composes it from Rust's operations.
use Rattle.std.specs.Prelude.{Bool, true, false, cond, not, ℕ, min, ◌+◌, ◌-◌, ◌*◌, ◌/◌, ◌%◌, ◌^◌, eqb, ltb, leb, ℤ}
use Rattle.std.specs.Prelude.{Option, Some}
use Rattle.std.specs.Int.Bits.{bit_and, bit_or, bit_xor}
use Rattle.std.specs.Int.Signed.{lt_z, le_z}
use Rattle.word.specs.Option.{mapped, or_zero, from_bool}
use Rattle.range.specs.declared.ScalarType.{ScalarType}
use Rattle.range.specs.declared.ScalarType.TheVariants as ty
use Rattle.evaluate.specs.declared.Unary.{Unary}
use Rattle.evaluate.specs.declared.Unary.TheVariants as un
use Rattle.evaluate.specs.declared.Binary.{Binary}
use Rattle.evaluate.specs.declared.Binary.TheVariants as bi
use Rattle.evaluate.specs.U128 as u128
use Rattle.evaluate.specs.I128 as i128

-- ---- unary

-- the low w bits of v as an integer in two's complement: shifted to the top, and back with the sign
abbrev pub extended : ℕ → ℕ → ℤ
extended w v = i128.shr (u128.as_i128 (u128.shl v (128 - w))) (128 - w)

-- SignExtend(w): 0 at width 0
abbrev pub sign_extended : ℕ → ℕ → ℕ
sign_extended w v = cond (eqb w 0) 0 (i128.as_u128 (extended w v))

-- LeadingZeros(w): above the highest set one of the low w bits
abbrev pub leading_in : ℕ → ℕ → ℕ
leading_in w v = u128.leading_zeros (v % 2 ^ w) - (128 - w)

-- TrailingZeros(w): below the lowest set one of the low w bits
abbrev pub trailing_in : ℕ → ℕ → ℕ
trailing_in w v = min (u128.trailing_zeros (v % 2 ^ w)) w

-- what a unary operator gives; `v % 2 ^ w` is Rust's `v & mask(w)`
unfoldable pub unary_value : Unary → ℕ → Option ℕ
unary_value un.BoolNot v = Some (from_bool (eqb v 0))
unary_value un.BitNot v = Some (u128.not v)
unary_value un.Negate v = mapped i128.as_u128 (i128.checked_neg (u128.as_i128 v))
unary_value (un.Truncate w) v = Some (v % 2 ^ w)
unary_value (un.SignExtend w) v = Some (sign_extended w v)
unary_value (un.LeadingZeros w) v = Some (leading_in w v)
unary_value (un.TrailingZeros w) v = Some (trailing_in w v)

-- ---- binary

-- a signed operation on patterns
abbrev pub signedly : (ℤ → ℤ → Option ℤ) → ℕ → ℕ → Option ℕ
signedly f a b = mapped i128.as_u128 (f (u128.as_i128 a) (u128.as_i128 b))

-- is it Integer?
abbrev pub is_integer : ScalarType → Bool
is_integer ty.Bool = false
is_integer (ty.Bits w) = false
is_integer ty.Integer = true

-- one answer for Integer, another for Bool and Bits
abbrev pub by_type : ScalarType → Option ℕ → Option ℕ → Option ℕ
by_type ty.Bool i u = u
by_type (ty.Bits w) i u = u
by_type ty.Integer i u = i

-- a count as a u32, the largest one where it does not fit
abbrev pub to_u32 : ℕ → ℕ
to_u32 n = min n (2 ^ 32 - 1)

-- a.checked_shl(b).unwrap_or(0), b as a u32
abbrev pub shifted_left : ℕ → ℕ → ℕ
shifted_left a b = or_zero (u128.checked_shl a (to_u32 b))

-- a.checked_shr(b).unwrap_or(0), b as a u32
abbrev pub shifted_right : ℕ → ℕ → ℕ
shifted_right a b = or_zero (u128.checked_shr a (to_u32 b))

-- the width at which an arithmetic shift reads its left operand
abbrev pub shift_width : ScalarType → ℕ
shift_width ty.Bool = 128
shift_width (ty.Bits w) = w
shift_width ty.Integer = 128

-- the low w bits of a, in two's complement, shifted right by b, or by w - 1 where b is more
abbrev pub arithmetic_shift : ℕ → ℕ → ℕ → ℕ
arithmetic_shift w a b = cond (eqb w 0) 0 (i128.as_u128 (i128.shr (extended w a) (min b (w - 1))))

-- what a binary operator gives before it is reduced to its type
abbrev pub unreduced : Binary → ScalarType → ℕ → ℕ → Option ℕ
unreduced bi.Add t a b = by_type t (signedly i128.checked_add a b) (Some (u128.wrapping_add a b))
unreduced bi.Sub t a b = by_type t (signedly i128.checked_sub a b) (Some (u128.wrapping_sub a b))
unreduced bi.Mul t a b = by_type t (signedly i128.checked_mul a b) (Some (u128.wrapping_mul a b))
unreduced bi.And t a b = Some (bit_and a b)
unreduced bi.Or t a b = Some (bit_or a b)
unreduced bi.Xor t a b = Some (bit_xor a b)
unreduced bi.ShiftLeft t a b = Some (shifted_left a b)
unreduced bi.ShiftRight t a b = Some (shifted_right a b)
unreduced bi.ArithmeticShiftRight t a b = Some (arithmetic_shift (shift_width t) a b)
unreduced bi.Equal t a b = Some (from_bool (eqb a b))
unreduced bi.NotEqual t a b = Some (from_bool (not (eqb a b)))
unreduced bi.LessSigned t a b = Some (from_bool (lt_z (u128.as_i128 a) (u128.as_i128 b)))
unreduced bi.LessUnsigned t a b = Some (from_bool (ltb a b))
unreduced bi.LessEqualSigned t a b = Some (from_bool (le_z (u128.as_i128 a) (u128.as_i128 b)))
unreduced bi.LessEqualUnsigned t a b = Some (from_bool (leb a b))
unreduced bi.DivideSigned t a b = signedly i128.checked_div a b
unreduced bi.RemainderSigned t a b = signedly i128.checked_rem a b
unreduced bi.DivideUnsigned t a b = u128.checked_div a b
unreduced bi.RemainderUnsigned t a b = u128.checked_rem a b

-- a value as one of its type: modulo 2 ^ w for Bits(w)
abbrev pub reduced : ScalarType → ℕ → ℕ
reduced ty.Bool v = v
reduced (ty.Bits w) v = v % 2 ^ w
reduced ty.Integer v = v

-- what a binary operator gives in a node of type t
unfoldable pub binary_value : Binary → ScalarType → ℕ → ℕ → Option ℕ
binary_value o t a b = mapped (reduced t) (unreduced o t a b)

-- ---- slice and concat

-- the bits from the offset up, zeros above bit 127
abbrev pub bits_from : ℕ → ℕ → ℕ
bits_from offset v = v / 2 ^ offset

-- Slice: width bits from the offset up
abbrev pub slice_value : ℕ → ℕ → ℕ → ℕ
slice_value offset width v = bits_from offset v % 2 ^ width

-- Concat: the low part has that width
abbrev pub concat_value : ℕ → ℕ → ℕ → ℕ
concat_value width high low = high * 2 ^ width + low

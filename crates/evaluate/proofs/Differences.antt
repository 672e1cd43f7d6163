-- The smallest examples of the differences between the evaluators and SMT-LIB: what the one gives, then the other.
-- Assumes nothing.
use mathlib.Core.Path.{◌≡◌, refl}
use mathlib.Core.Bool.{true}
use Rattle.std.specs.Prelude.{None, Some}
use Prim.Native.Nat.{◌-◌, ◌^◌}
use lib.Count.{count_leading_zeros, count_trailing_zeros}
use Rattle.range.specs.declared.ScalarType.TheVariants as ty
use Rattle.word.specs.Value.{residue, signed, fits, quotient, remainder}
use Rattle.evaluate.specs.declared.Unary.TheVariants as un
use Rattle.evaluate.specs.declared.Binary.TheVariants as bi
use Rattle.evaluate.specs.Evaluate.{unary_value, binary_value, slice_value}
use Rattle.evaluate.specs.SmtLib.{zero_extend, bvneg, bvadd, bvsub, bvmul, bvudiv, bvurem, bvsdiv, bvsrem, bvslt, bvsle}
use Rattle.evaluate.proofs.Agreement.{extract_of}

-- ---- signed below width 128: 1 is -1 in width 1, 3 is -1 and 2 is -2 in width 2

pub less_signed : (binary_value bi.LessSigned ty.Bool 1 0 ≡ Some 0) × (bvslt 1 1 0 ≡ true)
unfolding binary_value signed
less_signed = (refl, refl)

pub less_equal_signed : (binary_value bi.LessEqualSigned ty.Bool 1 0 ≡ Some 0) × (bvsle 1 1 0 ≡ true)
unfolding binary_value signed
less_equal_signed = (refl, refl)

pub divide_signed : (binary_value bi.DivideSigned (ty.Bits 2) 1 3 ≡ Some 0) × (bvsdiv 2 1 3 ≡ 3)
unfolding binary_value bvsdiv signed quotient fits residue
divide_signed = (refl, refl)

pub remainder_signed : (binary_value bi.RemainderSigned (ty.Bits 2) 1 3 ≡ Some 1) × (bvsrem 2 1 3 ≡ 0)
unfolding binary_value bvsrem signed remainder fits residue
remainder_signed = (refl, refl)

-- ---- a divisor 0

pub divide_unsigned_zero : (binary_value bi.DivideUnsigned (ty.Bits 1) 0 0 ≡ None) × (bvudiv 1 0 0 ≡ 1)
unfolding binary_value
divide_unsigned_zero = (refl, refl)

pub divide_signed-zero : (binary_value bi.DivideSigned (ty.Bits 1) 0 0 ≡ None) × (bvsdiv 1 0 0 ≡ 1)
unfolding binary_value bvsdiv signed quotient
divide_signed-zero = (refl, refl)

-- where 1 is not all ones
pub divide_negative_zero : (binary_value bi.DivideSigned (ty.Bits 2) 2 0 ≡ None) × (bvsdiv 2 2 0 ≡ 1)
unfolding binary_value bvsdiv signed quotient
divide_negative_zero = (refl, refl)

pub remainder_unsigned_zero : (binary_value bi.RemainderUnsigned (ty.Bits 1) 0 0 ≡ None) × (bvurem 0 0 ≡ 0)
unfolding binary_value
remainder_unsigned_zero = (refl, refl)

pub remainder-signed-zero : (binary_value bi.RemainderSigned (ty.Bits 1) 0 0 ≡ None) × (bvsrem 1 0 0 ≡ 0)
unfolding binary_value bvsrem signed remainder
remainder-signed-zero = (refl, refl)

-- ---- width 128: the least integer by -1, at Bits(128) and Integer, and its opposite

pub divide_least : (binary_value bi.DivideSigned (ty.Bits 128) (2 ^ 127) (2 ^ 128 - 1) ≡ None)
    × (binary_value bi.DivideSigned ty.Integer (2 ^ 127) (2 ^ 128 - 1) ≡ None) × (bvsdiv 128 (2 ^ 127) (2 ^ 128 - 1) ≡ 2 ^ 127)
unfolding binary_value bvsdiv signed quotient fits
divide_least = (refl, refl, refl)

pub remainder_least : (binary_value bi.RemainderSigned (ty.Bits 128) (2 ^ 127) (2 ^ 128 - 1) ≡ None)
    × (binary_value bi.RemainderSigned ty.Integer (2 ^ 127) (2 ^ 128 - 1) ≡ None) × (bvsrem 128 (2 ^ 127) (2 ^ 128 - 1) ≡ 0)
unfolding binary_value bvsrem signed remainder fits
remainder_least = (refl, refl, refl)

pub negate_least : (unary_value un.Negate (2 ^ 127) ≡ None) × (bvneg 128 (2 ^ 127) ≡ 2 ^ 127)
unfolding unary_value signed fits
negate_least = (refl, refl)

-- ---- Integers past 128 bits; 2 ^ 127 is -(2 ^ 127)

pub add_past : (binary_value bi.Add ty.Integer (2 ^ 127 - 1) 1 ≡ None) × (bvadd 128 (2 ^ 127 - 1) 1 ≡ 2 ^ 127)
unfolding binary_value signed fits
add_past = (refl, refl)

pub sub_past : (binary_value bi.Sub ty.Integer (2 ^ 127) 1 ≡ None) × (bvsub 128 (2 ^ 127) 1 ≡ 2 ^ 127 - 1)
unfolding binary_value signed fits
sub_past = (refl, refl)

pub mul_past : (binary_value bi.Mul ty.Integer (2 ^ 126) 2 ≡ None) × (bvmul 128 (2 ^ 126) 2 ≡ 2 ^ 127)
unfolding binary_value signed fits
mul_past = (refl, refl)

-- ---- operands that SMT-LIB's operators do not take

-- 1 of Bits(1), its bit 1
pub slice_zeros : (slice_value 1 1 1 ≡ 0) × (extract_of 1 1 1 1 ≡ None)
slice_zeros = (refl, refl)

-- 1 of Bits(1) to Bits(2)
pub truncate_wider : (unary_value (un.Truncate 2) 1 ≡ Some 1) × (extract_of 1 1 0 1 ≡ None) × (zero_extend 1 1 ≡ 1)
unfolding unary_value
truncate_wider = (refl, refl, refl)

-- 1 of Bits(1) by 2 of Bits(2)
pub shift_wider : (binary_value bi.ShiftLeft (ty.Bits 1) 1 2 ≡ Some 0) × (binary_value bi.ShiftRight (ty.Bits 1) 1 2 ≡ Some 0)
    × (binary_value bi.ArithmeticShiftRight (ty.Bits 1) 1 2 ≡ Some 1)
unfolding binary_value signed residue
shift_wider = (refl, refl, refl)

-- ---- width 0, which SMT-LIB does not have

pub add_none : binary_value bi.Add (ty.Bits 0) 0 0 ≡ Some 0
unfolding binary_value
add_none = refl

pub extend_none : unary_value (un.SignExtend 0) 0 ≡ Some 0
unfolding unary_value
extend_none = refl

-- ---- operators that SMT-LIB does not have

pub count_zeros : (unary_value (un.LeadingZeros 1) 0 ≡ Some 1) × (unary_value (un.TrailingZeros 1) 0 ≡ Some 1)
unfolding unary_value count_leading_zeros count_trailing_zeros
count_zeros = (refl, refl)

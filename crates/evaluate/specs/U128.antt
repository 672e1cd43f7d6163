-- Rust's operations of u128, as the standard library documents them. A u128 is a number below 2 ^ 128.
use Rattle.std.specs.Prelude.{Option}
use Rattle.std.specs.Prelude.{ℕ, ◌+◌, ◌-◌, ◌*◌, ◌/◌, ◌%◌, ◌^◌, ltb, ℤ}
use Rattle.std.specs.Int.Count.{count_leading_zeros, count_trailing_zeros}
use Rattle.word.specs.Value.{signed}
use Rattle.word.specs.Option.{only}

-- "Wrapping (modular) addition. Computes self + rhs, wrapping around at the boundary of the type."
abbrev pub wrapping_add : ℕ → ℕ → ℕ
wrapping_add a b = (a + b) % 2 ^ 128

-- "Wrapping (modular) subtraction. Computes self - rhs, wrapping around at the boundary of the type."
abbrev pub wrapping_sub : ℕ → ℕ → ℕ
wrapping_sub a b = (a + (2 ^ 128 - b)) % 2 ^ 128

-- "Wrapping (modular) multiplication. Computes self * rhs, wrapping around at the boundary of the type."
abbrev pub wrapping_mul : ℕ → ℕ → ℕ
wrapping_mul a b = a * b % 2 ^ 128

-- `!self`: every bit is flipped
abbrev pub not : ℕ → ℕ
not a = 2 ^ 128 - 1 - a

-- `self << rhs`, for rhs below 128: bits shifted past the top are lost
abbrev pub shl : ℕ → ℕ → ℕ
shl a n = a * 2 ^ n % 2 ^ 128

-- "Checked shift left. Computes self << rhs, returning None if rhs is larger than or equal to the number of bits in self."
abbrev pub checked_shl : ℕ → ℕ → Option ℕ
checked_shl a n = only (ltb n 128) (shl a n)

-- "Checked shift right. Computes self >> rhs, returning None if rhs is larger than or equal to the number of bits in self."
abbrev pub checked_shr : ℕ → ℕ → Option ℕ
checked_shr a n = only (ltb n 128) (a / 2 ^ n)

-- "Checked integer division. Computes self / rhs, returning None if rhs == 0."
abbrev pub checked_div : ℕ → ℕ → Option ℕ
checked_div a b = only (ltb 0 b) (a / b)

-- "Checked integer remainder. Computes self % rhs, returning None if rhs == 0."
abbrev pub checked_rem : ℕ → ℕ → Option ℕ
checked_rem a b = only (ltb 0 b) (a % b)

-- "Returns the number of leading zeros in the binary representation of self."
abbrev pub leading_zeros : ℕ → ℕ
leading_zeros a = count_leading_zeros 128 a

-- "Returns the number of trailing zeros in the binary representation of self."
abbrev pub trailing_zeros : ℕ → ℕ
trailing_zeros a = count_trailing_zeros 128 a

-- `self as i128`: "Casting between two integers of the same size is a no-op (Rust uses 2's complement for negative values)"
abbrev pub as_i128 : ℕ → ℤ
as_i128 a = signed 128 a

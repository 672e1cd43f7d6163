-- Rust's operations of i128, as the standard library documents them. An i128 is an integer from -(2 ^ 127) to 2 ^ 127 - 1.
use Rattle.std.specs.Prelude.{Option}
use Rattle.std.specs.Prelude.{ℕ, ◌^◌, ℤ, neg_ℤ, ◌+ℤ◌, ◌-ℤ◌, ◌*ℤ◌}
use Rattle.std.specs.Int.Signed.{shr_z}
use Rattle.word.specs.Value.{fitted, residue, quotient, remainder}

-- "Checked integer addition. Computes self + rhs, returning None if overflow occurred."
abbrev pub checked_add : ℤ → ℤ → Option ℤ
checked_add a b = fitted (a +ℤ b)

-- "Checked integer subtraction. Computes self - rhs, returning None if overflow occurred."
abbrev pub checked_sub : ℤ → ℤ → Option ℤ
checked_sub a b = fitted (a -ℤ b)

-- "Checked integer multiplication. Computes self * rhs, returning None if overflow occurred."
abbrev pub checked_mul : ℤ → ℤ → Option ℤ
checked_mul a b = fitted (a *ℤ b)

-- "Checked negation. Computes -self, returning None if self == MIN."
abbrev pub checked_neg : ℤ → Option ℤ
checked_neg a = fitted (neg_ℤ a)

-- "Checked integer division. Computes self / rhs, returning None if rhs == 0 or the division results in overflow."
abbrev pub checked_div : ℤ → ℤ → Option ℤ
checked_div a b = quotient a b

-- "Checked integer remainder. Computes self % rhs, returning None if rhs == 0 or the division results in overflow."
abbrev pub checked_rem : ℤ → ℤ → Option ℤ
checked_rem a b = remainder a b

-- `self >> rhs`, for rhs below 128: "Arithmetic right shift on signed integer types"
abbrev pub shr : ℤ → ℕ → ℤ
shr a n = shr_z a (2 ^ n)

-- `self as u128`: the same bits
abbrev pub as_u128 : ℤ → ℕ
as_u128 a = residue 128 a

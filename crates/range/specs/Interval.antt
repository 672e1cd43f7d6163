-- Intervals of integers: what a range stands for, the interval of a type, and the range rules of native.rs.
use Rattle.std.specs.Prelude.{Bool, true, not, ◌&&◌, ◌||◌, ℕ, min, ◌-◌, ◌^◌, leb, ltb, ℤ, pos, negsuc, nat_abs, neg_ℤ, ◌+ℤ◌, ◌-ℤ◌, ◌*ℤ◌, ◌≤ℤ◌}
use Rattle.std.specs.Prelude.{Option, None, Some}
use Rattle.std.specs.Int.Signed.{lt_z, le_z, shr_z}
use Rattle.word.specs.Value.{int_of, fitted, min_z, max_z, eq_z, quotient}
use Rattle.word.specs.Option.{only, provided}
use Rattle.range.specs.declared.Range.{Range}
use Rattle.range.specs.declared.ScalarType.{ScalarType}
use Rattle.range.specs.declared.ScalarType.TheVariants as ty

-- the integers from low to high
pub record Interval : Type 0 where
  pub low : ℤ
  pub high : ℤ

-- z lies in an interval
infix 50 ◌∈◌
pub record ◌∈◌ (z : ℤ) (a : Interval) : Type 0 where
  pub above : a.low ≤ℤ z
  pub below : z ≤ℤ a.high

-- what a Range stands for
abbrev pub bounds_of : Range → Interval
bounds_of r = record { low = int_of r.min; high = int_of r.max }

-- what an Option Range stands for
abbrev pub interval_of : Option Range → Option Interval
interval_of (Some r) = Some (bounds_of r)
interval_of None = None

-- z alone
abbrev pub point : ℤ → Interval
point z = record { low = z; high = z }

-- is z in a?
abbrev pub within : Interval → ℤ → Bool
within a z = le_z a.low z && le_z z a.high

-- have a and b the same ends?
abbrev pub same_interval : Interval → Interval → Bool
same_interval a b = eq_z a.low b.low && eq_z a.high b.high

-- is no integer of a below 0?
abbrev pub nonnegative : Interval → Bool
nonnegative a = le_z (pos 0) a.low

-- ---- types

-- Bits(w): 0 to 2 ^ w - 1, which is no range of 128-bit integers at width 128
unfoldable pub bits_interval : ℕ → Option Interval
bits_interval w = only (ltb w 128) (record { low = pos 0; high = pos (2 ^ w - 1) })

-- Bool: 0 to 1; Integer: none
abbrev pub type_interval : ScalarType → Option Interval
type_interval ty.Bool = Some (record { low = pos 0; high = pos 1 })
type_interval (ty.Bits w) = bits_interval w
type_interval ty.Integer = None

-- is a inside Bits(w)? Bits are not negative, and Bits(128) have no other bound
abbrev pub inside_bits : ℕ → Interval → Bool
inside_bits w a = nonnegative a && (leb 128 w || le_z a.high (pos (2 ^ w - 1)))

-- is a inside a type?
abbrev pub inside_type : ScalarType → Interval → Bool
inside_type ty.Bool a = inside_bits 1 a
inside_type (ty.Bits w) a = inside_bits w a
inside_type ty.Integer a = true

-- a as the range of a result in Bits(w), if w is below 128 and a lies inside the type
unfoldable pub filtered : ℕ → Interval → Option Interval
filtered w a = only (ltb w 128 && (nonnegative a && le_z a.high (pos (2 ^ w - 1)))) a

-- the integers of w bits in two's complement
unfoldable pub sign_extended : ℕ → Option Interval
sign_extended w = only (ltb 0 w && ltb w 128) (record { low = neg_ℤ (pos (2 ^ (w - 1))); high = pos (2 ^ (w - 1) - 1) })

-- ---- the rules

-- from one result to the other, if both are there
abbrev pub between : Option ℤ → Option ℤ → Option Interval
between None h = None
between (Some l) None = None
between (Some l) (Some h) = Some (record { low = l; high = h })

-- Add: the sums of the minima and of the maxima
unfoldable pub add_interval : Interval → Interval → Option Interval
add_interval a b = between (fitted (a.low +ℤ b.low)) (fitted (a.high +ℤ b.high))

-- Sub: minimum less maximum, and maximum less minimum
unfoldable pub sub_interval : Interval → Interval → Option Interval
sub_interval a b = between (fitted (a.low -ℤ b.high)) (fitted (a.high -ℤ b.low))

-- Negate: the ends negated, in the other order
unfoldable pub neg_interval : Interval → Option Interval
neg_interval a = between (fitted (neg_ℤ a.high)) (fitted (neg_ℤ a.low))

-- from the least to the greatest of four results, if all are there
abbrev pub corners_of : Option ℤ → Option ℤ → Option ℤ → Option ℤ → Option Interval
corners_of None q r s = None
corners_of (Some p) None r s = None
corners_of (Some p) (Some q) None s = None
corners_of (Some p) (Some q) (Some r) None = None
corners_of (Some p) (Some q) (Some r) (Some s) =
    Some (record { low = min_z (min_z p q) (min_z r s); high = max_z (max_z p q) (max_z r s) })

-- Mul: the products at the four corners
unfoldable pub mul_interval : Interval → Interval → Option Interval
mul_interval a b =
    corners_of (fitted (a.low *ℤ b.low)) (fitted (a.low *ℤ b.high)) (fitted (a.high *ℤ b.low)) (fitted (a.high *ℤ b.high))

-- is 0 no divisor, and no quotient -(2 ^ 127) / -1?
unfoldable pub divisible : Interval → Interval → Bool
divisible a b =
    (lt_z (pos 0) b.low || lt_z b.high (pos 0)) && not (within a (negsuc (2 ^ 127 - 1)) && within b (negsuc 0))

-- DivideSigned: the quotients at the four corners
unfoldable pub quot_interval : Interval → Interval → Option Interval
quot_interval a b =
    provided (divisible a b)
    (corners_of (quotient a.low b.low) (quotient a.low b.high) (quotient a.high b.low) (quotient a.high b.high))

-- the part of a with sizes below m, stretched to 0
abbrev pub cut : Interval → ℤ → Interval
cut a m = record { low = min_z (max_z a.low (pos 1 -ℤ m)) (pos 0); high = max_z (min_z a.high (m -ℤ pos 1)) (pos 0) }

-- a cut to the larger of two sizes, if both are there
abbrev pub cut_to : Interval → Option ℤ → Option ℤ → Option Interval
cut_to a None n = None
cut_to a (Some m) None = None
cut_to a (Some m) (Some n) = Some (cut a (max_z m n))

-- RemainderSigned: below the largest divisor in size
unfoldable pub rem_interval : Interval → Interval → Option Interval
rem_interval a b = provided (divisible a b) (cut_to a (fitted (pos (nat_abs b.low))) (fitted (pos (nat_abs b.high))))

-- And of non-negative ranges: 0 to the lesser maximum
unfoldable pub and_interval : Interval → Interval → Option Interval
and_interval a b = provided (nonnegative a && nonnegative b) (between (Some (pos 0)) (Some (min_z a.high b.high)))

-- DivideUnsigned of a non-negative range by a positive one: 0 to the largest quotient
unfoldable pub udiv_interval : Interval → Interval → Option Interval
udiv_interval a b = provided (nonnegative a && lt_z (pos 0) b.low) (between (Some (pos 0)) (quotient a.high b.low))

-- the lesser of z and an answer
abbrev pub at_most : ℤ → Option ℤ → Option ℤ
at_most z None = None
at_most z (Some m) = Some (min_z z m)

-- RemainderUnsigned of the same: 0 to the lesser of the maximum and the largest divisor less 1
unfoldable pub urem_interval : Interval → Interval → Option Interval
urem_interval a b = provided (nonnegative a && lt_z (pos 0) b.low) (between (Some (pos 0)) (at_most a.high (fitted (b.high -ℤ pos 1))))

-- a shift's amount, at most 128
unfoldable pub clamped : ℤ → ℕ
clamped (pos n) = min n 128
clamped (negsuc n) = 128

-- z * 2 ^ n, if n is below 127 and the product fits
unfoldable pub shifted : ℤ → ℤ → Option ℤ
shifted z n = provided (ltb (clamped n) 127) (fitted (z *ℤ pos (2 ^ clamped n)))

-- ShiftLeft of non-negative ranges: the minimum by the least amount to the maximum by the largest
unfoldable pub shl_interval : Interval → Interval → Option Interval
shl_interval a b = provided (nonnegative a && nonnegative b) (between (shifted a.low b.low) (shifted a.high b.high))

-- ShiftRight of non-negative ranges: the minimum by the largest amount to the maximum by the least
unfoldable pub shr_interval : Interval → Interval → Option Interval
shr_interval a b =
    only (nonnegative a && nonnegative b)
    (record { low = shr_z a.low (2 ^ clamped b.high); high = shr_z a.high (2 ^ clamped b.low) })

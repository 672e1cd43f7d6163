-- Limits of a value: what a comparison of two ranges gives (assume.rs 104 to 150), and the part of a range between limits.
use Rattle.std.specs.Prelude.{Bool, cond, not, ◌&&◌, ◌||◌, ℤ, pos, ◌+ℤ◌, ◌-ℤ◌}
use Rattle.std.specs.Prelude.{Option, None, Some}
use Rattle.std.specs.Int.Signed.{le_z}
use Rattle.word.specs.Value.{value_of, fitted, eq_z, min_z, max_z}
use Rattle.word.specs.Option.{provided}
use Rattle.range.specs.Interval.{Interval, same_interval}
use Rattle.range.specs.declared.ScalarType.{ScalarType}
use Rattle.range.specs.declared.ScalarType.TheVariants as ty
use Rattle.evaluate.specs.declared.Binary.{Binary}
use Rattle.evaluate.specs.declared.Binary.TheVariants as bi
use Rattle.fold.specs.Operator.{strict_orders, unsigned_orders}
use Rattle.fold.specs.Range.{unsigned_too}
use Rattle.fold.specs.Shape.{same_type, same_binary, is_any}
use Rattle.assume.specs.declared.Limits as declared-limits
use Rattle.assume.specs.declared.Pair as declared-pair

-- the least and the largest value, each if there is one
pub record Limits : Type 0 where
  pub lower : Option ℤ
  pub upper : Option ℤ

-- limits by their two ends
abbrev pub limits : Option ℤ → Option ℤ → Limits
limits l u = record { lower = l; upper = u }

-- what a Limits of the code stands for
abbrev pub limits_of : declared-limits.Limits → Limits
limits_of l = limits (value_of l.lower) (value_of l.upper)

-- no limits
abbrev pub unlimited : Limits
unlimited = limits None None

-- the ends of a range
abbrev pub limited_to : Interval → Limits
limited_to a = limits (Some a.low) (Some a.high)

-- ---- the part of a range between limits

-- the limit, or the end where there is none
abbrev pub or_end : Option ℤ → ℤ → ℤ
or_end None z = z
or_end (Some l) z = l

-- a range met with limits (assume.rs 31 to 34)
unfoldable pub meet : Interval → Limits → Interval
meet a l = record { low = max_z a.low (or_end l.lower a.low); high = min_z a.high (or_end l.upper a.high) }

-- is there something to narrow? Not if the range stays, if nothing is left of it, or on Bool (35 to 37)
unfoldable pub narrows : ScalarType → Interval → Interval → Bool
narrows t old met = not (same_interval met old) && (le_z met.low met.high && not (same_type t ty.Bool))

-- ---- the limits of both operands

-- the left operand's and the right one's
pub record Pair : Type 0 where
  pub left : Limits
  pub right : Limits

-- two limits side by side
abbrev pub pair : Limits → Limits → Pair
pair l r = record { left = l; right = r }

-- what a Pair of the code stands for
abbrev pub pair_of : declared-pair.Pair → Pair
pair_of p = pair (limits_of p.left) (limits_of p.right)

-- one more, if it is an integer of 128 bits
abbrev pub one_more : ℤ → Option ℤ
one_more z = fitted (z +ℤ pos 1)

-- one less, if it is
abbrev pub one_less : ℤ → Option ℤ
one_less z = fitted (z -ℤ pos 1)

-- a value of a is less than one of b (105 to 108)
abbrev pub less_limits : Interval → Interval → Pair
less_limits a b = pair (limits None (one_less b.high)) (limits (one_more a.low) None)

-- it is not less (109 to 112)
abbrev pub not_less_limits : Interval → Interval → Pair
not_less_limits a b = pair (limits (Some b.low) None) (limits None (Some a.high))

-- it is at most that of b (113 to 116)
abbrev pub less_equal_limits : Interval → Interval → Pair
less_equal_limits a b = pair (limits None (Some b.high)) (limits (Some a.low) None)

-- it is larger (117 to 120)
abbrev pub greater_limits : Interval → Interval → Pair
greater_limits a b = pair (limits (one_more b.low) None) (limits None (one_less a.high))

-- both are equal (121 to 124)
abbrev pub equal_limits : Interval → Interval → Pair
equal_limits a b = pair (limited_to b) (limited_to a)

-- a value of a is not the one value of b: an end of a that is that value goes (126 to 147)
abbrev pub besides : Interval → Interval → Limits
besides a b =
    cond (eq_z b.low b.high)
    (limits (provided (eq_z a.low b.low) (one_more a.low)) (provided (eq_z a.high b.high) (one_less a.high)))
    unlimited

-- they are not equal (125 to 148)
abbrev pub apart_limits : Interval → Interval → Pair
apart_limits a b = pair (besides a b) (besides b a)

-- do ranges say something of a comparison? Of an unsigned one only where no value is negative (95 to 99)
abbrev pub comparable : Binary → Interval → Interval → Bool
comparable o a b = not (is_any unsigned_orders o) || unsigned_too a b

-- the limits of two operands whose comparison is as expected; NotEqual is Equal with what is expected turned (100 to 104)
unfoldable pub limits_by : Binary → Bool → Interval → Interval → Pair
limits_by o e a b =
    cond (is_any strict_orders o) (cond e (less_limits a b) (not_less_limits a b))
    (cond (same_binary o bi.Equal) (cond e (equal_limits a b) (apart_limits a b))
    (cond (same_binary o bi.NotEqual) (cond e (apart_limits a b) (equal_limits a b))
    (cond e (less_equal_limits a b) (greater_limits a b))))

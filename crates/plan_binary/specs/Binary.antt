-- The plan of binary: its decisions in the order of native.rs 323 to 611.
use Rattle.std.specs.Prelude.{Bool, cond, not, ◌&&◌, ◌||◌, List, ℕ, ◌+◌, ◌-◌, eqb, ltb, leb}
use Rattle.std.specs.Prelude.{Option, None, Some}
use Rattle.std.specs.Int.Bits.{bit_and}
use Rattle.word.specs.Value.{is_power_of_two}
use Rattle.word.specs.Option.{only, provided, mapped, from_bool, given, is_some, both_given, or_else}
use Rattle.range.specs.Interval.{Interval}
use Rattle.range.specs.declared.ScalarType.{ScalarType}
use Rattle.range.specs.declared.ScalarType.TheVariants as ty
use Rattle.evaluate.specs.Evaluate.{binary_value}
use Rattle.evaluate.specs.U128 as u128
use Rattle.evaluate.specs.declared.Binary.{Binary}
use Rattle.evaluate.specs.declared.Binary.TheVariants as bi
use Rattle.graph.specs.Node as node
use Rattle.graph.specs.Node.{type_at, range_at}
use Rattle.graph.specs.Insert.{literal}
use Rattle.fold.specs.Operator.{commutative, shifts, equalities, zero_keeps, zero_makes_zero, bitwise, kept_twice, zero_twice, true_twice, false_twice}
use Rattle.fold.specs.Shape.{same_type, narrow_type, same_binary, is_any, fits, mask, ByConstant, by_constant_at, origin}
use Rattle.fold.specs.Range.{ranged_at, stored_range, comparison}
use Rattle.bitfield.specs.Bitfield.{fold_masked_comparison}
use Rattle.plan.specs.Plan as plan
use Rattle.plan.specs.Plan.{Plan, First, does, tries, binary_rest, constant_or}

-- ---- constants (332 to 349)

-- a constant on the left alone goes to the right
abbrev pub is_swapped : Binary → Option ℕ → Option ℕ → Bool
is_swapped o a b = is_some a && (not (is_some b) && is_any commutative o)

-- two constants are evaluated
abbrev pub evaluated : ScalarType → Binary → Option ℕ → Option ℕ → Option Plan
evaluated t o a b = both_given a b (λ x y. Some (constant_or t (binary_value o t x y)))

-- ---- shifts by a constant (350 to 387)

-- is the result 0? A shift right by the width is, if the operand has no bits from there on
abbrev pub is_shifted_out : Binary → ℕ → ℕ → Bool → Bool
is_shifted_out o w count narrow = leb 128 count || (leb w count && (same_binary o bi.ShiftLeft || narrow))

-- right after left: the bits that stay, or these shifted left by the rest
abbrev pub back_shift : ℕ → ℕ → ByConstant → Plan
back_shift w count c =
    cond (leb c.value count) (plan.slice_identity c.base (count - c.value) (w - count) (ty.Bits w))
    (plan.slice_shift c.base (w - c.value) (ty.Bits w) (c.value - count))

-- a shift of a shift, both below the width
abbrev pub shift_of_shift : Binary → ℕ → ℕ → ByConstant → Option Plan
shift_of_shift o w count c =
    provided (ltb c.value w && (ltb count w && same_binary c.op bi.ShiftLeft))
    (Some (cond (same_binary o bi.ShiftRight) (back_shift w count c)
    (plan.constant_binary ty.Integer (c.value + count) (ty.Bits w) o c.base)))

-- a shift in Bits(w) by a constant
abbrev pub shift_by : List ℕ → Binary → ℕ → ℕ → ℕ → Option Plan
shift_by g o w left count =
    cond (is_shifted_out o w count (narrow_type (type_at g left) w || fits w (range_at g left))) (Some (plan.constant (ty.Bits w) 0))
    (provided (same_type (type_at g (origin g left)) (ty.Bits w)) (given (by_constant_at g (origin g left)) (shift_of_shift o w count) None))

-- what a shift by a constant comes to
abbrev pub shift_plan : List ℕ → ScalarType → Binary → ℕ → Option ℕ → Option Plan
shift_plan g ty.Bool o left b = None
shift_plan g (ty.Bits w) o left b = provided (is_any shifts o) (given b (shift_by g o w left) None)
shift_plan g ty.Integer o left b = None

-- ---- the first plan

-- ---- comparisons through an offset (393 to 407)

-- the constant that the base is compared with
abbrev pub offset_target : Binary → ℕ → ℕ → Option ℕ
offset_target o target offset =
    cond (same_binary o bi.Sub) (Some (u128.wrapping_add target offset))
    (only (same_binary o bi.Add) (u128.wrapping_sub target offset))

-- base + offset or base - offset compared with a constant of the width
abbrev pub offset_compared : ScalarType → Binary → ℕ → ℕ → ByConstant → Option Plan
offset_compared t o w target c =
    given (offset_target c.op target c.value) (λ v. Some (plan.constant_binary (ty.Bits w) v t o c.base)) None

-- by the left operand's type
abbrev pub offset_typed : List ℕ → ScalarType → Binary → ℕ → ℕ → ScalarType → Option Plan
offset_typed g t o left target ty.Bool = None
offset_typed g t o left target (ty.Bits w) = provided (leb target (mask w)) (given (by_constant_at g left) (offset_compared t o w target) None)
offset_typed g t o left target ty.Integer = None

-- a comparison of a sum with a constant is one of its base
abbrev pub offset_plan : List ℕ → ScalarType → Binary → ℕ → Option ℕ → Option Plan
offset_plan g t o left b =
    provided (is_any equalities o) (given b (λ target. offset_typed g t o left target (type_at g left)) None)

-- ---- comparisons that the ranges decide (408 to 441)

-- true or false as a constant
abbrev pub truth_plan : Option Bool → Option Plan
truth_plan = mapped (λ b. plan.constant ty.Bool (from_bool b))

-- both operands have a range
abbrev pub compared_plan : Binary → Option Interval → Option Interval → Option Plan
compared_plan o r s = truth_plan (both_given r s (comparison o))

-- ---- one node twice (442 to 454)

-- x with itself
abbrev pub with_itself : ScalarType → Binary → ℕ → Option Plan
with_itself t o x =
    cond (is_any kept_twice o) (Some (plan.identity t x))
    (cond (is_any zero_twice o) (Some (plan.constant t 0))
    (cond (is_any true_twice o) (Some (plan.constant ty.Bool 1)) (only (is_any false_twice o) (plan.constant ty.Bool 0))))

-- ---- a constant on the right (455 to 491)

-- 0 on the right
abbrev pub zero_plan : ScalarType → Binary → ℕ → Option Plan
zero_plan t o left = cond (is_any zero_keeps o) (Some (plan.identity t left)) (only (is_any zero_makes_zero o) (plan.constant t 0))

-- all ones of the type on the right: And keeps, Or gives them
abbrev pub ones_plan : ScalarType → Binary → ℕ → ℕ → ℕ → Option Plan
ones_plan ty.Bool o left right b =
    provided (eqb b 1) (cond (same_binary o bi.And) (Some (plan.give left)) (only (same_binary o bi.Or) (plan.give right)))
ones_plan (ty.Bits w) o left right b =
    provided (eqb b (mask w))
    (cond (same_binary o bi.And) (Some (plan.identity (ty.Bits w) left)) (only (same_binary o bi.Or) (plan.constant (ty.Bits w) (mask w))))
ones_plan ty.Integer o left right b = None

-- a constant on the right
abbrev pub right_plan : ScalarType → Binary → ℕ → ℕ → ℕ → Option Plan
right_plan t o left right b = or_else (provided (eqb b 0) (zero_plan t o left)) (ones_plan t o left right b)

-- ---- masks of masks (492 to 506)

-- one operation by the constant of two
abbrev pub merged_plan : ScalarType → Binary → ℕ → Option ℕ → Plan
merged_plan t o base None = plan.stop
merged_plan t o base (Some v) = plan.constant_binary t v t o base

-- an operation by a constant of an operation by a constant
abbrev pub mask_of_mask : ScalarType → Binary → ℕ → ℕ → ByConstant → Option Plan
mask_of_mask t o right b c =
    cond (same_binary c.op o && is_any bitwise o) (Some (merged_plan t o c.base (binary_value o t c.value b)))
    (only (same_binary c.op bi.Or && same_binary o bi.And) (plan.and_or t c.base right (bit_and c.value b)))

-- on Bits alone
abbrev pub mask_plan : List ℕ → ScalarType → Binary → ℕ → ℕ → ℕ → Option Plan
mask_plan g ty.Bool o left right b = None
mask_plan g (ty.Bits w) o left right b = given (by_constant_at g left) (mask_of_mask (ty.Bits w) o right b) None
mask_plan g ty.Integer o left right b = None

-- ---- a node, or what comes after its range is known (507 to 610)

-- the remainder by a power of two is an And
abbrev pub remainder_plan : ScalarType → Binary → ℕ → ℕ → Option Plan
remainder_plan t o left b =
    only (same_binary o bi.RemainderUnsigned && is_power_of_two b) (plan.constant_binary t (b - 1) t bi.And left)

-- Sub of Sub, if the sum of both constants is there
abbrev pub sub_of_sub : ScalarType → ℕ → Option ℕ → Option Plan
sub_of_sub t base = mapped (λ v. plan.constant_binary t v t bi.Sub base)

-- Add of Add, and Sub of Sub, by the sum of their constants
abbrev pub sum_of_sum : ScalarType → Binary → ℕ → ByConstant → Option Plan
sum_of_sum t o b c =
    cond (same_binary o bi.Add && same_binary c.op bi.Add)
    (Some (merged_plan t bi.Add c.base (binary_value bi.Add t c.value b)))
    (provided (same_binary o bi.Sub && same_binary c.op bi.Sub) (sub_of_sub t c.base (binary_value bi.Add t c.value b)))

-- a remainder or a sum by a constant
abbrev pub sum_plan : List ℕ → ScalarType → Binary → ℕ → ℕ → Option Plan
sum_plan g t o left b = or_else (remainder_plan t o left b) (given (by_constant_at g left) (sum_of_sum t o b) None)

-- a node of this range, or None without one
abbrev pub store_plan : ScalarType → Binary → ℕ → ℕ → Option Plan → Option (Option Interval) → Plan
store_plan t o left right p None = plan.stop
store_plan t o left right p (Some r) = given p (λ q. q) (plan.add t r (node.binary o left right))

-- ---- binary after the masked comparison

-- what a constant on the right decides before the range is known
abbrev pub literal_plan : List ℕ → ScalarType → Binary → ℕ → ℕ → Option ℕ → Option Plan
literal_plan g t o left right b = given b (λ v. or_else (right_plan t o left right v) (mask_plan g t o left right v)) None

-- the decisions before the range of the node is known
abbrev pub decided_plan : List ℕ → ScalarType → Binary → ℕ → ℕ → Option Plan
decided_plan g t o left right =
    or_else (offset_plan g t o left (literal g right))
    (or_else (compared_plan o (range_at g left) (range_at g right))
    (or_else (provided (eqb left right) (with_itself t o left)) (literal_plan g t o left right (literal g right))))

-- the plan after the masked comparison
unfoldable pub binary_plan : List ℕ → ScalarType → Binary → ℕ → ℕ → Plan
binary_plan g t o left right =
    given (decided_plan g t o left right) (λ p. p)
    (store_plan t o left right (given (literal g right) (sum_plan g t o left) None) (stored_range t (node.binary o left right) (ranged_at g)))

-- ---- binary whole

-- Equal and NotEqual try the masked comparison first (388 to 392)
abbrev pub equality_first : List ℕ → ScalarType → Binary → ℕ → ℕ → First
equality_first g t o left right =
    given (provided (is_any equalities o) (fold_masked_comparison g o left right)) (λ m. tries (plan.masked m) (binary_rest t o left right))
    (does (binary_plan g t o left right))

-- constants, shifts by a constant, then the others
abbrev pub open_first : List ℕ → ScalarType → Binary → ℕ → ℕ → First
open_first g t o left right =
    given (or_else (evaluated t o (literal g left) (literal g right)) (shift_plan g t o left (literal g right))) does
    (equality_first g t o left right)

-- the first plan of binary
unfoldable pub binary_first : List ℕ → ScalarType → Binary → ℕ → ℕ → First
binary_first g t o left right =
    cond (is_swapped o (literal g left) (literal g right)) (does (plan.binary t o right left)) (open_first g t o left right)

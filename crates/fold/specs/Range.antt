-- The range of a new node by its operands' ranges, and comparisons that ranges decide.
use Rattle.std.specs.Prelude.{Bool, true, false, cond, not, ◌&&◌, ◌||◌, List, ℕ}
use Rattle.std.specs.Prelude.{Option, None, Some}
use Rattle.std.specs.Int.Signed.{lt_z, le_z}
use Rattle.word.specs.Value.{eq_z}
use Rattle.word.specs.Option.{provided, mapped, given, both_given, or_else}
use Rattle.range.specs.Interval.{Interval, same_interval, nonnegative, type_interval, filtered, sign_extended, add_interval, sub_interval, neg_interval, mul_interval, quot_interval, rem_interval, and_interval, udiv_interval, urem_interval, shl_interval, shr_interval}
use Rattle.range.specs.declared.ScalarType.{ScalarType}
use Rattle.range.specs.declared.ScalarType.TheVariants as ty
use Rattle.evaluate.specs.declared.Unary.{Unary}
use Rattle.evaluate.specs.declared.Unary.TheVariants as un
use Rattle.evaluate.specs.declared.Binary.{Binary}
use Rattle.evaluate.specs.declared.Binary.TheVariants as bi
use Rattle.graph.specs.Node as node
use Rattle.graph.specs.Node.{Op, type_at, range_at}
use Rattle.graph.specs.Insert.{constant_interval}
use Rattle.fold.specs.Shape.{same_binary}
use Rattle.range.specs.declared.Range.{Range}
use Rattle.range.specs.Interval.{interval_of}

-- the range of a new node, which may have none; no answer where the builder answers None
abbrev pub derived_of : Option (Option Range) → Option (Option Interval)
derived_of (Some r) = Some (interval_of r)
derived_of None = None

-- ---- unary nodes

-- sign-extended to Integer; else the type's range (native.rs 312 to 318)
abbrev pub extended_range : ScalarType → ℕ → Option Interval
extended_range ty.Bool w = type_interval ty.Bool
extended_range (ty.Bits v) w = type_interval (ty.Bits v)
extended_range ty.Integer w = sign_extended w

-- the operand's range negated, if it and that are there (native.rs 305 to 311)
abbrev pub negated_range : Option Interval → Option (Option Interval)
negated_range r = given r (λ a. mapped Some (neg_interval a)) None

-- the range of a new unary node; Negate needs its operand's (native.rs 304 to 319)
unfoldable pub unary_range : ScalarType → Unary → Option Interval → Option (Option Interval)
unary_range t un.BoolNot r = Some (type_interval t)
unary_range t un.BitNot r = Some (type_interval t)
unary_range t un.Negate r = negated_range r
unary_range t (un.Truncate w) r = Some (type_interval t)
unary_range t (un.SignExtend w) r = Some (extended_range t w)
unary_range t (un.LeadingZeros w) r = Some (type_interval t)
unary_range t (un.TrailingZeros w) r = Some (type_interval t)

-- ---- binary nodes

-- the rules that Integer and Bits have both
abbrev pub shared_rule : Binary → Interval → Interval → Option Interval
shared_rule o a b =
    cond (same_binary o bi.Add) (add_interval a b)
    (cond (same_binary o bi.Sub) (sub_interval a b)
    (cond (same_binary o bi.Mul) (mul_interval a b)
    (cond (same_binary o bi.And) (and_interval a b) None)))

-- the rules on Integer (native.rs 510 to 548)
unfoldable pub integer_rule : Binary → Interval → Interval → Option Interval
integer_rule o a b =
    cond (same_binary o bi.Add) (add_interval a b)
    (cond (same_binary o bi.Sub) (sub_interval a b)
    (cond (same_binary o bi.Mul) (mul_interval a b)
    (cond (same_binary o bi.And) (and_interval a b)
    (cond (same_binary o bi.DivideSigned) (quot_interval a b)
    (cond (same_binary o bi.RemainderSigned) (rem_interval a b)
    (cond (same_binary o bi.DivideUnsigned) (udiv_interval a b)
    (cond (same_binary o bi.RemainderUnsigned) (urem_interval a b) None)))))))

-- the rules on Bits, before the result is held to its type (native.rs 554 to 580)
unfoldable pub bits_rule : Binary → Interval → Interval → Option Interval
bits_rule o a b =
    cond (same_binary o bi.Add) (add_interval a b)
    (cond (same_binary o bi.Sub) (sub_interval a b)
    (cond (same_binary o bi.Mul) (mul_interval a b)
    (cond (same_binary o bi.And) (and_interval a b)
    (cond (same_binary o bi.ShiftLeft) (shl_interval a b)
    (cond (same_binary o bi.ShiftRight) (shr_interval a b) None)))))

-- a range, if there is one, as that of a result in Bits(w)
abbrev pub held_to : ℕ → Option Interval → Option Interval
held_to w None = None
held_to w (Some a) = filtered w a

-- the rule's range on Bits, or the type's (native.rs 550 to 582)
abbrev pub bits_range : ℕ → Binary → Option Interval → Option Interval → Option Interval
bits_range w o r s = or_else (held_to w (both_given r s (bits_rule o))) (type_interval (ty.Bits w))

-- the range of a new binary node; on Integer both operands need one, and the operator a rule (native.rs 507 to 585)
unfoldable pub binary_range : ScalarType → Binary → Option Interval → Option Interval → Option (Option Interval)
binary_range ty.Bool o r s = Some (type_interval ty.Bool)
binary_range (ty.Bits w) o r s = Some (bits_range w o r s)
binary_range ty.Integer o r s = mapped Some (both_given r s (integer_rule o))

-- ---- any node

-- what a node's range hangs on of an operand
pub record Ranged : Type 0 where
  pub type : ScalarType
  pub range : Option Interval

-- an operand in the graph
abbrev pub ranged_at : List ℕ → ℕ → Ranged
ranged_at g n = record { type = type_at g n; range = range_at g n }

-- an operand of which nothing is told
abbrev pub untold : ℕ → Ranged
untold n = record { type = ty.Integer; range = None }

-- the range of a stored node, none where the builder answers None; an Input's may be given by its call, a Refine's is its source's or given by an assume
abbrev pub stored_range : ScalarType → Op → (ℕ → Ranged) → Option (Option Interval)
stored_range t (node.constant c) at = Some (constant_interval t c)
stored_range t (node.input i) at = Some (type_interval t)
stored_range t (node.refine i) at = Some (at i).range
stored_range t (node.effect i) at = Some (type_interval t)
stored_range t (node.slice i o w) at = Some (type_interval t)
stored_range t (node.concat i j w) at = Some (type_interval t)
stored_range t (node.unary u i) at = unary_range t u (at i).range
stored_range t (node.binary b i j) at = binary_range t b (at i).range (at j).range

-- ---- comparisons (native.rs 409 to 437)

-- is no number in both?
abbrev pub apart : Interval → Interval → Bool
apart a b = lt_z a.high b.low || lt_z b.high a.low

-- equal where both are one number, different where they are apart
abbrev pub equal_ranges : Interval → Interval → Option Bool
equal_ranges a b =
    cond (eq_z a.low a.high && same_interval a b) (Some true)
    (cond (apart a b) (Some false) None)

-- less where a ends below b, not less where a starts at b's end or above
abbrev pub less_ranges : Interval → Interval → Option Bool
less_ranges a b = cond (lt_z a.high b.low) (Some true) (cond (le_z b.high a.low) (Some false) None)

-- the same for less or equal
abbrev pub less_equal_ranges : Interval → Interval → Option Bool
less_equal_ranges a b = cond (le_z a.high b.low) (Some true) (cond (lt_z b.high a.low) (Some false) None)

-- are both not negative, so that unsigned and signed order are one?
abbrev pub unsigned_too : Interval → Interval → Bool
unsigned_too a b = nonnegative a && nonnegative b

-- what the ranges of its operands say of a comparison
unfoldable pub comparison : Binary → Interval → Interval → Option Bool
comparison o a b =
    cond (same_binary o bi.Equal) (equal_ranges a b)
    (cond (same_binary o bi.NotEqual) (mapped not (equal_ranges a b))
    (cond (same_binary o bi.LessSigned) (less_ranges a b)
    (cond (same_binary o bi.LessUnsigned) (provided (unsigned_too a b) (less_ranges a b))
    (cond (same_binary o bi.LessEqualSigned) (less_equal_ranges a b)
    (cond (same_binary o bi.LessEqualUnsigned) (provided (unsigned_too a b) (less_equal_ranges a b)) None)))))

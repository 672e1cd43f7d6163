-- Single bits of nodes, and the two folds of bitfield.rs.
use Rattle.std.specs.Prelude.{Bool, true, false, cond, not, ◌&&◌, ◌||◌, List, ℕ, zero, suc, ◌+◌, ◌-◌, ◌/◌, ◌%◌, ◌^◌, eqb, ltb, leb}
use Rattle.std.specs.Prelude.{Option, None, Some}
use Rattle.std.specs.Int.Bits.{bit_and, bit_or}
use Rattle.word.specs.Value.{val}
use Rattle.word.specs.Option.{only, provided, given}
use Rattle.range.specs.declared.ScalarType.{ScalarType}
use Rattle.range.specs.declared.ScalarType.TheVariants as ty
use Rattle.evaluate.specs.U128 as u128
use Rattle.evaluate.specs.declared.Unary.{Unary}
use Rattle.evaluate.specs.declared.Unary.TheVariants as un
use Rattle.evaluate.specs.declared.Binary.{Binary}
use Rattle.evaluate.specs.declared.Binary.TheVariants as bi
use Rattle.graph.specs.Node as node
use Rattle.graph.specs.Node.{Op, type_at, range_at, operation_at}
use Rattle.graph.specs.Insert as graph
use Rattle.fold.specs.Shape.{same_type, narrow_type, same_binary, fits, mask, ByConstant, by_constant_at, id_of}
use Rattle.bitfield.specs.declared.Masked as declared-mask
use Rattle.bitfield.specs.declared.Bit as declared
use Rattle.bitfield.specs.declared.Bit.TheVariants as declared-bit
use Rattle.bitfield.specs.declared.BitStep as declared-step
use Rattle.bitfield.specs.declared.BitStep.TheVariants as step
use Rattle.bitfield.specs.declared.Field as declared-field
use Rattle.bitfield.specs.declared.Update as declared-update

-- ---- one bit (bitfield.rs 9 to 66)

-- a bit that is known, or bit i of node n
pub data Bit : Type 0 where
  known : Bool → Bit
  source : ℕ → ℕ → Bit

-- where a bit of a node comes from: this one, a bit of an operand, or that bit turned over
pub data BitStep : Type 0 where
  here : Bit → BitStep
  from : ℕ → ℕ → BitStep
  flipped : ℕ → ℕ → BitStep

-- is bit i of v set?
abbrev pub has_bit : ℕ → ℕ → Bool
has_bit v i = eqb (v / 2 ^ i % 2) 1

-- is bit i above the type's width?
abbrev pub above : ScalarType → ℕ → Bool
above ty.Bool i = false
above (ty.Bits w) i = leb w i
above ty.Integer i = false

-- bit i of an And, Or or Xor with a constant
abbrev pub masked_bit : Binary → ℕ → Bool → ℕ → ℕ → BitStep
masked_bit o n set p i =
    cond (same_binary o bi.And) (cond set (from p i) (here (known false)))
    (cond (same_binary o bi.Or) (cond set (here (known true)) (from p i))
    (cond (same_binary o bi.Xor) (cond set (flipped p i) (from p i)) (here (source n i))))

-- bit i of a unary operation on p: only a truncation hands it on
abbrev pub unary_bit : Unary → ℕ → ℕ → ℕ → BitStep
unary_bit un.BoolNot n p i = here (source n i)
unary_bit un.BitNot n p i = here (source n i)
unary_bit un.Negate n p i = here (source n i)
unary_bit (un.Truncate w) n p i = cond (ltb i w) (from p i) (here (known false))
unary_bit (un.SignExtend w) n p i = here (source n i)
unary_bit (un.LeadingZeros w) n p i = here (source n i)
unary_bit (un.TrailingZeros w) n p i = here (source n i)

-- bit i of an operation of node n
abbrev pub bit_of : List ℕ → ℕ → ℕ → Op → BitStep
bit_of g n i (node.constant c) = here (known (has_bit c i))
bit_of g n i (node.input k) = here (source n i)
bit_of g n i (node.refine p) = from p i
bit_of g n i (node.effect k) = here (source n i)
bit_of g n i (node.slice p o w) = cond (leb w i) (here (known false)) (from p (o + i))
bit_of g n i (node.concat h l w) = cond (ltb i w) (from l i) (from h (i - w))
bit_of g n i (node.unary o p) = unary_bit o n p i
bit_of g n i (node.binary o p q) = given (graph.literal g q) (λ c. masked_bit o n (has_bit c i) p i) (here (source n i))

-- bit i of node n: 0 past bit 127 and past its width
unfoldable pub bit_step : List ℕ → ℕ → ℕ → BitStep
bit_step g n i = cond (leb 128 i || above (type_at g n) i) (here (known false)) (bit_of g n i (operation_at g n))

-- a known bit turned over; what is not known comes to None
abbrev pub negated_bit : Option Bit → Option Bit
negated_bit None = None
negated_bit (Some (known b)) = Some (known (not b))
negated_bit (Some (source n i)) = None

-- a bit by its step, and by what stands for the operands' bits
abbrev pub reached : BitStep → (ℕ → ℕ → Option Bit) → Option Bit
reached (here b) f = Some b
reached (from p i) f = f p i
reached (flipped p i) f = negated_bit (f p i)

-- the most steps
abbrev pub DEPTH : ℕ
DEPTH = 64

-- bit i of node n by at most k steps
unfoldable pub bit_at : List ℕ → ℕ → ℕ → ℕ → Option Bit
bit_at g zero n i = None
bit_at g (suc k) n i = reached (bit_step g n i) (bit_at g k)

-- ---- concats of one node's own bits and of constants (bitfield.rs 68 to 114)

-- the bits so far: the node that some come from, the mask of those, and the ones among the others
pub record Field : Type 0 where
  pub base : Option ℕ
  pub keep : ℕ
  pub literal : ℕ

-- no bits
abbrev pub no_bits : Field
no_bits = record { base = None; keep = 0; literal = 0 }

-- the pattern in which bit i alone is set
abbrev pub power : ℕ → ℕ
power i = 2 ^ i % 2 ^ 128

-- is there no node yet, or this one?
abbrev pub same_base : Option ℕ → ℕ → Bool
same_base None n = true
same_base (Some b) n = eqb b n

-- the bits with bit i: it is known, or the same bit of the one node
abbrev pub with_bit : Field → ℕ → Bit → Option Field
with_bit f i (known b) = Some (record { base = f.base; keep = f.keep; literal = cond b (bit_or f.literal (power i)) f.literal })
with_bit f i (source n s) = only (eqb s i && same_base f.base n) (record { base = Some n; keep = bit_or f.keep (power i); literal = f.literal })

-- bit i of a concat
abbrev pub concat_bit : List ℕ → ℕ → ℕ → ℕ → ℕ → Option Bit
concat_bit g high low v i = cond (ltb i v) (bit_at g DEPTH low i) (bit_at g DEPTH high (i - v))

-- the bits with the k from i on
abbrev pub field_from : List ℕ → ℕ → ℕ → ℕ → ℕ → ℕ → Field → Option Field
field_from g high low v i zero f = Some f
field_from g high low v i (suc k) f =
    given (concat_bit g high low v i) (λ b. given (with_bit f i b) (λ h. field_from g high low v (suc i) k h) None) None

-- has the low part no bits from its width on?
abbrev pub low_fits : List ℕ → ℕ → ℕ → Bool
low_fits g low v = narrow_type (type_at g low) v || fits v (range_at g low)

-- the bits of a concat of width w, if all are known or one node's own
unfoldable pub fold_bitfield_concat : List ℕ → ℕ → ℕ → ℕ → ℕ → Option Field
fold_bitfield_concat g high low v w = provided (low_fits g low v) (field_from g high low v 0 w no_bits)

-- ---- a base compared with itself under a mask (bitfield.rs 116 to 150)

-- And of the base and a mask of its type, then an operation on that and a literal of its type
pub record Mask : Type 0 where
  pub type : ScalarType
  pub base : ℕ
  pub mask : ℕ
  pub result : ScalarType
  pub op : Binary
  pub literal : ℕ

-- what an update of a base keeps of it, and the literal that it sets
pub record Update : Type 0 where
  pub preserved : ℕ
  pub literal : ℕ

-- an Or needs a constant, without which the fold ends
abbrev pub update_of : List ℕ → ℕ → Op → Option Update
update_of g n (node.constant c) = Some (record { preserved = n; literal = 0 })
update_of g n (node.input i) = Some (record { preserved = n; literal = 0 })
update_of g n (node.refine i) = Some (record { preserved = n; literal = 0 })
update_of g n (node.effect i) = Some (record { preserved = n; literal = 0 })
update_of g n (node.slice i o w) = Some (record { preserved = n; literal = 0 })
update_of g n (node.concat i j w) = Some (record { preserved = n; literal = 0 })
update_of g n (node.unary u i) = Some (record { preserved = n; literal = 0 })
update_of g n (node.binary o i j) =
    cond (same_binary o bi.Or) (given (graph.literal g j) (λ c. Some (record { preserved = i; literal = c })) None) (Some (record { preserved = n; literal = 0 }))

-- node n as an update
unfoldable pub update_at : List ℕ → ℕ → Option Update
update_at g n = update_of g n (operation_at g n)

-- one pair of base and update: the other pair is next, the fold ends, or it is found
pub data PairFold : Type 0 where
  next : PairFold
  end : PairFold
  found : Mask → PairFold

-- is it base And keep, with no bit both kept and set?
abbrev pub keeps : ℕ → ℕ → ℕ → ByConstant → Bool
keeps base w v c = same_binary c.op bi.And && (eqb c.base base && (eqb (bit_and v c.value) 0 && leb v (mask w)))

-- the comparison of the bits that are not kept with the literal
abbrev pub changed_bits : Binary → ℕ → ℕ → ℕ → ByConstant → Mask
changed_bits o base w v c =
    record { type = ty.Bits w; base = base; mask = bit_and (u128.not c.value) (mask w); result = ty.Bool; op = o; literal = v }

-- an update of a base of width w
abbrev pub fold_update : List ℕ → Binary → ℕ → ℕ → Update → PairFold
fold_update g o base w u =
    given (by_constant_at g u.preserved) (λ c. cond (keeps base w u.literal c) (found (changed_bits o base w u.literal c)) next) next

-- a base of this type
abbrev pub fold_typed : List ℕ → Binary → ℕ → ℕ → ScalarType → PairFold
fold_typed g o base updated ty.Bool = next
fold_typed g o base updated (ty.Bits w) =
    cond (same_type (type_at g updated) (ty.Bits w)) (given (update_at g updated) (λ u. fold_update g o base w u) end) next
fold_typed g o base updated ty.Integer = next

-- one pair
unfoldable pub fold_pair : List ℕ → Binary → ℕ → ℕ → PairFold
fold_pair g o base updated = fold_typed g o base updated (type_at g base)

-- the mask that was found, if any
abbrev pub found_in : PairFold → Option Mask
found_in next = None
found_in end = None
found_in (found m) = Some m

-- the first pair, or where it says so the second
abbrev pub first_found : PairFold → PairFold → Option Mask
first_found next l = found_in l
first_found end l = None
first_found (found m) l = Some m

-- the masked comparison of two nodes, either being the base
unfoldable pub fold_masked_comparison : List ℕ → Binary → ℕ → ℕ → Option Mask
fold_masked_comparison g o left right = first_found (fold_pair g o left right) (fold_pair g o right left)

-- ---- what the code's answers stand for

-- a Masked
abbrev pub mask_of : declared-mask.Masked → Mask
mask_of m = record { type = m.ty; base = m.base.0; mask = val m.mask; result = m.result; op = m.op; literal = val m.literal }

-- a Bit
abbrev pub one_bit_of : declared.Bit → Bit
one_bit_of (declared-bit.Known b) = known b
one_bit_of (declared-bit.Source n i) = source n.0 i

-- a Bit that may be there
abbrev pub maybe_bit_of : Option declared.Bit → Option Bit
maybe_bit_of (Some b) = Some (one_bit_of b)
maybe_bit_of None = None

-- a BitStep
abbrev pub step_of : declared-step.BitStep → BitStep
step_of (step.Here b) = here (one_bit_of b)
step_of (step.From n i) = from n.0 i
step_of (step.Flipped n i) = flipped n.0 i

-- a Field
abbrev pub field_of : declared-field.Field → Field
field_of f = record { base = id_of f.base; keep = val f.keep; literal = val f.literal }

-- a Field that may be there
abbrev pub maybe_field_of : Option declared-field.Field → Option Field
maybe_field_of (Some f) = Some (field_of f)
maybe_field_of None = None

-- an Update
abbrev pub one_update_of : declared-update.Update → Update
one_update_of u = record { preserved = u.preserved.0; literal = val u.literal }

-- an Update that may be there
abbrev pub maybe_update_of : Option declared-update.Update → Option Update
maybe_update_of (Some u) = Some (one_update_of u)
maybe_update_of None = None

-- a PairFold
abbrev pub pair_fold_of : Option (Option declared-mask.Masked) → PairFold
pair_fold_of None = next
pair_fold_of (Some None) = end
pair_fold_of (Some (Some m)) = found (mask_of m)

-- a Masked that may be there
abbrev pub maybe_mask_of : Option declared-mask.Masked → Option Mask
maybe_mask_of (Some m) = Some (mask_of m)
maybe_mask_of None = None

-- The plans of slice and concat.
use Rattle.std.specs.Prelude.{cond, ◌&&◌, ◌||◌, List, ℕ, ◌+◌, ◌-◌, ◌*◌, ◌/◌, ◌%◌, ◌^◌, eqb, ltb, leb}
use Rattle.std.specs.Prelude.{Option, None, Some}
use Rattle.std.specs.Int.Bits.{bit_or}
use Rattle.word.specs.Value.{residue}
use Rattle.word.specs.Option.{only, provided, given}
use Rattle.range.specs.Interval.{Interval, nonnegative, inside_bits}
use Rattle.range.specs.declared.ScalarType.TheVariants as ty
use Rattle.evaluate.specs.declared.Binary.TheVariants as bi
use Rattle.graph.specs.Node as node
use Rattle.graph.specs.Node.{Op, type_at, range_at, operation_at}
use Rattle.graph.specs.Insert.{literal}
use Rattle.fold.specs.Range.{untold, stored_range}
use Rattle.fold.specs.Shape.{same_type}
use Rattle.bitfield.specs.Bitfield.{above, Field, fold_bitfield_concat}
use Rattle.plan_slice.specs.declared.Cut as declared-cut
use Rattle.plan.specs.Plan as plan
use Rattle.plan.specs.Plan.{Plan, First, does, tries, slice_rest, concat_rest}
use Rattle.plan.specs.OneOperand.{add_or}

-- ---- slice (native.rs 613 to 682)

-- v from the offset up, 0 from offset 128 on
abbrev pub lowered : ℕ → ℕ → ℕ
lowered v o = cond (ltb o 128) (v / 2 ^ o) 0

-- a range that is not negative says that the bits are 0, or at offset 0 that the value fits
abbrev pub bounded_plan : Option Interval → ℕ → ℕ → ℕ → Option Plan
bounded_plan None v o w = None
bounded_plan (Some a) v o w =
    provided (nonnegative a)
    (cond (eqb (lowered (residue 128 a.high) o) 0) (Some (plan.constant (ty.Bits w) 0))
    (only (eqb o 0 && inside_bits w a) (plan.identity (ty.Bits w) v)))

-- a new Slice
abbrev pub new_slice : ℕ → ℕ → ℕ → Plan
new_slice v o w = add_or (ty.Bits w) (stored_range (ty.Bits w) (node.slice v o w) untold) (node.slice v o w)

-- a slice of a concat: of its high part, of its low part, or of both
abbrev pub slice_concat : ℕ → ℕ → ℕ → ℕ → ℕ → Plan
slice_concat high low v o w =
    cond (leb v o) (plan.slice high (o - v) w)
    (cond (leb (o + w) v) (plan.slice low o w) (plan.split_concat low o (v - o) high (w - (v - o)) w))

-- a slice of an operation
abbrev pub slice_operation : Op → ℕ → ℕ → ℕ → Plan
slice_operation (node.constant c) v o w = new_slice v o w
slice_operation (node.input i) v o w = new_slice v o w
slice_operation (node.refine i) v o w = new_slice v o w
slice_operation (node.effect i) v o w = new_slice v o w
slice_operation (node.slice i p u) v o w = cond (leb (o + w) u) (plan.slice i (p + o) w) (new_slice v o w)
slice_operation (node.concat i j u) v o w = slice_concat i j u o w
slice_operation (node.unary u i) v o w = new_slice v o w
slice_operation (node.binary b i j) v o w = new_slice v o w

-- a slice that its range does not decide
abbrev pub slice_part : List ℕ → ℕ → ℕ → ℕ → Plan
slice_part g v o w =
    cond (leb 128 o || above (type_at g v) o) (plan.constant (ty.Bits w) 0)
    (cond (eqb o 0 && same_type (type_at g v) (ty.Bits w)) (plan.give v) (slice_operation (operation_at g v) v o w))

-- slice after modular
unfoldable pub slice_plan : List ℕ → ℕ → ℕ → ℕ → Plan
slice_plan g v o w = given (bounded_plan (range_at g v) v o w) (λ p. p) (slice_part g v o w)

-- a slice of a node that is no constant
abbrev pub slice_open : List ℕ → ℕ → ℕ → ℕ → First
slice_open g v o w = cond (eqb o 0) (tries (plan.modular v w) (slice_rest v o w)) (does (slice_plan g v o w))

-- the first plan of slice
unfoldable pub slice_first : List ℕ → ℕ → ℕ → ℕ → First
slice_first g v o w = given (literal g v) (λ c. does (plan.constant (ty.Bits w) (lowered c o))) (slice_open g v o w)

-- ---- concat (native.rs 684 to 734)

-- a new Concat
unfoldable pub concat_plan : ℕ → ℕ → ℕ → ℕ → Plan
concat_plan high low v w = add_or (ty.Bits w) (stored_range (ty.Bits w) (node.concat high low v) untold) (node.concat high low v)

-- h moved up by v bits, 0 from 128 on
abbrev pub raised : ℕ → ℕ → ℕ
raised h v = cond (ltb v 128) (h * 2 ^ v % 2 ^ 128) 0

-- a concat of constants
abbrev pub joined : ℕ → ℕ → ℕ → ℕ
joined h l v = bit_or (raised h v) l

-- a slice: of which node, from which offset
pub record Cut : Type 0 where
  pub value : ℕ
  pub offset : ℕ

-- an operation that is a slice
abbrev pub cut_of : Op → Option Cut
cut_of (node.constant c) = None
cut_of (node.input i) = None
cut_of (node.refine i) = None
cut_of (node.effect i) = None
cut_of (node.slice i o w) = Some (record { value = i; offset = o })
cut_of (node.concat i j w) = None
cut_of (node.unary u i) = None
cut_of (node.binary b i j) = None

-- what a Cut of the code stands for
abbrev pub one_cut_of : declared-cut.Cut → Cut
one_cut_of c = record { value = c.value.0; offset = c.offset }

-- what a Option Cut stands for
abbrev pub maybe_cut_of : Option declared-cut.Cut → Option Cut
maybe_cut_of (Some c) = Some (one_cut_of c)
maybe_cut_of None = None

-- two slices side by side of one node are one slice (native.rs 705 to 721)
abbrev pub adjacent : Option Cut → Option Cut → ℕ → ℕ → Option Plan
adjacent None b v w = None
adjacent (Some a) None v w = None
adjacent (Some a) (Some b) v w = only (eqb a.value b.value && eqb a.offset (b.offset + v)) (plan.slice a.value b.offset w)

-- a concat of one node's own bits and of constants: And keeps those, Or sets the others (bitfield.rs 103 to 113)
abbrev pub field_plan : List ℕ → ℕ → ℕ → ℕ → ℕ → Field → First
field_plan g high low v w f =
    given f.base
    (λ b. cond (same_type (type_at g b) (ty.Bits w))
    (tries
    (plan.masked (record { type = ty.Bits w; base = b; mask = f.keep; result = ty.Bits w; op = bi.Or; literal = f.literal }))
    (concat_rest high low v w))
    (does (concat_plan high low v w)))
    (does (plan.constant (ty.Bits w) f.literal))

-- a concat that is no slice
abbrev pub concat_field : List ℕ → ℕ → ℕ → ℕ → ℕ → First
concat_field g high low v w = given (fold_bitfield_concat g high low v w) (field_plan g high low v w) (does (concat_plan high low v w))

-- a concat of parts that are not both constants
abbrev pub concat_open : List ℕ → ℕ → ℕ → ℕ → ℕ → First
concat_open g high low v w =
    given (adjacent (cut_of (operation_at g high)) (cut_of (operation_at g low)) v w) does (concat_field g high low v w)

-- the constant of two constant parts
abbrev pub joined_plan : Option ℕ → Option ℕ → ℕ → ℕ → Option Plan
joined_plan None l v w = None
joined_plan (Some h) None v w = None
joined_plan (Some h) (Some l) v w = Some (plan.constant (ty.Bits w) (joined h l v))

-- the first plan of concat
unfoldable pub concat_first : List ℕ → ℕ → ℕ → ℕ → ℕ → First
concat_first g high low v w =
    cond (eqb w v) (does (plan.slice low 0 w))
    (cond (eqb v 0) (does (plan.slice high 0 w))
    (given (joined_plan (literal g high) (literal g low) v w) does (concat_open g high low v w)))

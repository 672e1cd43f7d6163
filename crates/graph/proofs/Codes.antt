-- Codes and fields: what is encoded is decoded. Assumes nothing.
use mathlib.Core.Path.{◌≡◌, refl, sym, ap, ◌∙◌}
use mathlib.Core.Bool.{cond}
use Rattle.std.specs.Prelude.{Option, None, Some}
use Prim.Native.Nat.{ℕ, ◌/◌, ◌%◌, ◌^◌, ◌<◌}
use native.Mathlib.Nat.{div-add-mod', mod-eq_of_lt}
use native.Mathlib.Omega.{arith}
use borrow.Author.Tests.{ne_eqb, lt-ltb, le-ltb}
use lib.Dec.{ltb, lit<}
use lib.IntN.{ℤ, pos}
use lib.Pow.{high, low}
use lib.Signed.{mag}
use Rattle.word.specs.declared.Word.{Word}
use Rattle.word.specs.Value.{val}
use Rattle.word.proofs.Integer.{signed-residue}
use Rattle.range.specs.Interval.{Interval}
use Rattle.range.specs.declared.ScalarType.{ScalarType}
use Rattle.range.specs.declared.ScalarType.TheVariants as ty
use Rattle.evaluate.specs.declared.Unary.{Unary}
use Rattle.evaluate.specs.declared.Binary.{Binary}
use Rattle.evaluate.specs.Operator.{BINARY, unary_code, unary_width, unary_of, binary_code, binary_of, type_width}
use Rattle.evaluate.proofs.Codes.{unary_back, binary_back, unary_code_lem, binary_code_lem}
use Rattle.graph.specs.Layout.{CONSTANT, INPUT, REFINE, EFFECT, SLICE, CONCAT}
use Rattle.graph.specs.Node.{Op, constant, input, refine, effect, slice, concat, unary, binary, narrow, pair, type_of, type_code, range_of, range_flag, range_low, range_high, operation_of, op_code, op_x, op_y, op_z}

-- ---- codes

-- past the codes of the other operations a code is an operator's
pub operator : (code x y z : ℕ) → CONCAT < code
    → operation_of code x y z ≡ cond (ltb code BINARY) (unary (unary_of code (narrow z)) x) (binary (binary_of code) x y)
operator code x y z h =
    simp (
      ne_eqb code CONSTANT (λ e. omega arith),
      ne_eqb code INPUT (λ e. omega arith),
      ne_eqb code REFINE (λ e. omega arith),
      ne_eqb code EFFECT (λ e. omega arith),
      ne_eqb code SLICE (λ e. omega arith),
      ne_eqb code CONCAT (λ e. omega arith),
    )

-- ---- fields

-- a number in two words
pub pair_back : (n : ℕ) → pair (n % 2 ^ 64) (n / 2 ^ 64) ≡ n
pair_back n = div-add-mod' n (2 ^ 64)

-- a word and its halves
pub halves : (w : Word) → w.lo < 2 ^ 64 → (w.lo ≡ val w % 2 ^ 64) × (w.hi ≡ val w / 2 ^ 64)
unfolding val
halves w h = (sym (low w.hi 64 h), sym (high w.hi 64 h))

narrow_back : (n : ℕ) → n < 2 ^ 16 → narrow n ≡ n
narrow_back n h = mod-eq_of_lt h

-- the ends of a range, 0 without one
abbrev pub low_end : Option Interval → ℤ
low_end None = pos 0
low_end (Some a) = a.low

abbrev pub high_end : Option Interval → ℤ
high_end None = pos 0
high_end (Some a) = a.high

-- the offset of a slice, else 0
abbrev pub op_offset : Op → ℕ
op_offset (constant c) = 0
op_offset (input i) = 0
op_offset (refine i) = 0
op_offset (effect i) = 0
op_offset (slice i o w) = o
op_offset (concat i j w) = 0
op_offset (unary u i) = 0
op_offset (binary b i j) = 0

-- a type, a range and an operation that words hold: widths and offsets of 16 bits, ends of 128
pub record Stored (t : ScalarType) (r : Option Interval) (o : Op) : Type 0 where
  pub width : type_width t < 2 ^ 16
  pub low : mag (low_end r) < 2 ^ 127
  pub high : mag (high_end r) < 2 ^ 127
  pub offset : op_offset o < 2 ^ 16
  pub parameter : op_z o < 2 ^ 16

pub type_back : (t : ScalarType) → type_width t < 2 ^ 16 → type_of (type_code t) (type_width t) ≡ t
type_back ty.Bool h = refl
type_back (ty.Bits w) h = ap ty.Bits (narrow_back w h)
type_back ty.Integer h = refl

pub range_back : (r : Option Interval) → mag (low_end r) < 2 ^ 127 → mag (high_end r) < 2 ^ 127
    → range_of (range_flag r) (range_low r) (range_high r) ≡ r
range_back None h l = refl
range_back (Some a) h l =
    λ i. Some (record { low = signed-residue 128 a.low (lit< tt) h i; high = signed-residue 128 a.high (lit< tt) l i })

pub operation_back : (o : Op) → op_offset o < 2 ^ 16 → op_z o < 2 ^ 16 → operation_of (op_code o) (op_x o) (op_y o) (op_z o) ≡ o
operation_back (constant c) h l = ap constant (pair_back c)
operation_back (input i) h l = refl
operation_back (refine i) h l = refl
operation_back (effect i) h l = refl
operation_back (slice i o w) h l = λ k. slice i (narrow_back o h k) (narrow_back w l k)
operation_back (concat i j w) h l = ap (concat i j) (narrow_back w l)
operation_back (unary u i) h l =
    let c = unary_code_lem u in
    rw (operator (unary_code u) i 0 (unary_width u) (omega arith), lt-ltb (unary_code u) BINARY (omega arith))
    (ap (λ (v : Unary). unary v i) (ap (unary_of (unary_code u)) (narrow_back (unary_width u) l) ∙ unary_back u))
operation_back (binary b i j) h l =
    let c = binary_code_lem b in
    rw (operator (binary_code b) i j 0 (omega arith), le-ltb (binary_code b) BINARY c.0) (ap (λ (d : Binary). binary d i j) (binary_back b))

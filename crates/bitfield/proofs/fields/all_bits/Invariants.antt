-- The fold is that of the bits left on the base, mask and literal so far.
use mathlib.Core.Path.{◌≡◌}
use Prim.Native.Nat.{◌-◌}
use Rattle.word.specs.Value.{val}
use Rattle.fold.specs.Shape.{id_of}
use Rattle.bitfield.specs.Bitfield.{no_bits, field_from}
use Rattle.bitfield.proofs.fields.all_bits.Given as goal

abbrev pub invariant-loop-index : goal.invariant-loop-index
invariant-loop-index l =
    field_from l.g l.concat.high.0 l.concat.low.0 l.concat.low_width 0 l.concat.width no_bits
    ≡ field_from l.g l.concat.high.0 l.concat.low.0 l.concat.low_width l.index (l.concat.width - l.index) (record { base = id_of l.base; keep = val l.keep; literal = val l.literal })

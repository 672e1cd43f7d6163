-- The bit is that of the node reached by the steps left, after the turns so far.
use mathlib.Core.Path.{◌≡◌}
use Prim.Native.Nat.{◌-◌}
use Rattle.bitfield.specs.Bitfield.{bit_at}
use Rattle.bitfield.specs.Turns.{turned_by}
use Rattle.bitfield.proofs.bits.bit.Given as goal

abbrev pub invariant-loop : goal.invariant-loop
invariant-loop l =
    bit_at l.g l.left l.initial.node.0 l.index ≡ turned_by l.turns (bit_at l.g (l.left - l.counter) l.node.0 l.place)

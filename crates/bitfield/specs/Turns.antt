-- How often a bit is turned over on the way to the node that it comes from.
use Rattle.std.specs.Prelude.{Option}
use Rattle.bitfield.specs.declared.Turns.{Turns}
use Rattle.bitfield.specs.declared.Turns.TheVariants as turns
use Rattle.bitfield.specs.Bitfield.{Bit, negated_bit}

-- one turn more
abbrev pub once_more : Turns → Turns
once_more turns.Never = turns.Odd
once_more turns.Odd = turns.Even
once_more turns.Even = turns.Odd

-- a bit after these turns
abbrev pub turned_by : Turns → Option Bit → Option Bit
turned_by turns.Never b = b
turned_by turns.Odd b = negated_bit b
turned_by turns.Even b = negated_bit (negated_bit b)

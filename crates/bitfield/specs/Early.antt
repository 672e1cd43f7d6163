-- The early test of the bitfield fold: one bit of a concat that rules it out.
use Rattle.std.specs.Prelude.{Bool, true, false, not, cond, List, ℕ, eqb, ltb}
use Rattle.std.specs.Prelude.{Option, None, Some}
use Rattle.bitfield.specs.Bitfield.{Bit, known, source, concat_bit}

-- is it neither known nor a bit of a node at the same place?
abbrev pub misplaced : Option Bit → ℕ → Bool
misplaced None i = true
misplaced (Some (known b)) i = false
misplaced (Some (source n s)) i = not (eqb s i)

-- does the high part's first bit rule the fold out?
abbrev pub ruled_out : List ℕ → ℕ → ℕ → ℕ → ℕ → Bool
ruled_out g high low v w = cond (ltb v w) (misplaced (concat_bit g high low v v) v) false

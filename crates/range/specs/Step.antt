-- What the inner functions of the range rules answer.
use Rattle.std.specs.Prelude.{List, ℕ, ℤ, pos, get_or}
use Rattle.word.specs.Value.{int_of, min_z, max_z}
use Rattle.word.specs.declared.Signed.{Signed}
use Rattle.range.specs.Interval.{Interval}

-- the integer at an index of a list of signed words
abbrev pub at : List Signed → ℕ → ℤ
at l i = int_of (get_or l i (record { lo = 0; hi = pos 0 }))

-- from the least to the greatest of the first four
abbrev pub span_of : List Signed → Interval
span_of l = record { low = min_z (min_z (at l 0) (at l 1)) (min_z (at l 2) (at l 3)); high = max_z (max_z (at l 0) (at l 1)) (max_z (at l 2) (at l 3)) }

-- The invariant of `record_vectors::put_lines`: `at` lies within `out`. The measure is what is left of the stream. Assumes nothing.
use Rattle.std.proofs.Common.{◌≤◌, ◌≡◌, length}
use Rattle.record_vectors.proofs.put_lines.Given as goal

abbrev pub invariant-loop-rest : goal.invariant-loop-rest
invariant-loop-rest l = (l.at ≤ length l.out) × (length l.out ≡ length l.initial.out)

abbrev pub decreases-loop-rest : goal.decreases-loop-rest
decreases-loop-rest l = length l.rest

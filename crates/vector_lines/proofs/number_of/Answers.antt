-- `vector_lines::number_of` is safe: a number of fewer than 16 digits has room for one more (`room`).
use native.Mathlib.Omega.{arith}
use Rattle.vector_lines.proofs.Spelling.{room}
use Rattle.vector_lines.proofs.number_of.Goals as goal

pub overflow_mul-n : goal.overflow_mul-n
overflow_mul-n c = omega (arith, room c.loop-b.invariant.0 (omega arith))

pub overflow_add-n : goal.overflow_add-n
overflow_add-n c = omega (arith, room c.loop-b.invariant.0 (omega arith), c.in_ok-n.ensures.bound)

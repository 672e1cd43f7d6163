-- The invariant of `vector_lines::number_of`: what is left, read after `n`, gives what the whole text gives, and `n` has at most as many
-- digits as were read.
use Prim.Native.Nat.{◌<◌, ◌^◌}
use mathlib.Core.Path.{◌≡◌}
use lib.ListN.{drop}
use Rattle.vector_lines.specs.Text.{spelled_after, spelled}
use Rattle.vector_lines.proofs.number_of.Given as goal

abbrev pub invariant-loop-b : goal.invariant-loop-b
invariant-loop-b l = (l.n < 16 ^ l.b-index) × (spelled_after l.n (drop l.b-index l.text) ≡ spelled l.text)

-- `are_marks` meets its contract. The invariant: the marks below `mark` decide, of which the last may have `limit` nodes. Assumes nothing.
use mathlib.Core.Path.{◌≡◌}
use Prim.Native.Nat.{◌≤◌}
use Rattle.graph.specs.Layout.{LIMIT}
use Rattle.mark.specs.Layout.{MOST}
use Rattle.mark.specs.WellFormed.{are_first, are_marks}
use Rattle.mark.proofs.well_formed.are_marks.Given as goal

abbrev pub invariant-loop-mark : goal.invariant-loop-mark
invariant-loop-mark l = (l.mark ≤ MOST) × (l.limit ≤ LIMIT) × (are_marks l.nodes l.m ≡ are_first l.limit l.m l.mark)

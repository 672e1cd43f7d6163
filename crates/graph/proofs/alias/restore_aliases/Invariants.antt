use mathlib.Core.Path.{◌≡◌}
use Rattle.graph.specs.Alias.{restored_up_to}
use Rattle.graph.proofs.alias.restore_aliases.Given as goal

abbrev pub invariant-loop-n : goal.invariant-loop-n
invariant-loop-n l = l.g ≡ restored_up_to l.n l.words l.initial.g

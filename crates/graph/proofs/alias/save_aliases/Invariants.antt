use mathlib.Core.Path.{◌≡◌}
use Rattle.graph.specs.Alias.{saved_up_to}
use Rattle.graph.proofs.alias.save_aliases.Given as goal

abbrev pub invariant-loop-n : goal.invariant-loop-n
invariant-loop-n l = l.words ≡ saved_up_to l.n l.g l.initial.words

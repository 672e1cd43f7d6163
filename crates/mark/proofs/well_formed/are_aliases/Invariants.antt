-- The loop's invariant: the alias words of the first nodes pass.
use mathlib.Core.Path.{◌≡◌}
use mathlib.Core.Bool.{true}
use lib.ListN.{length, get_or}
use Rattle.graph.specs.WellFormed.{is_alias, all_pass}
use Rattle.mark.proofs.well_formed.are_aliases.Given as goal

abbrev pub invariant-loop-n : goal.invariant-loop-n
invariant-loop-n l = all_pass (λ i. is_alias i (length l.words) (get_or l.words i 0)) l.n ≡ true

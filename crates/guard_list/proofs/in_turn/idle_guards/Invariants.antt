-- The loop's invariant: the guards that are left give what the list gives.
use Rattle.std.proofs.Common.{◌≡◌, drop}
use Rattle.guard_list.specs.GuardList.{guards_of, in_turn}
use Rattle.guard_list.proofs.in_turn.idle_guards.Given as goal

abbrev pub invariant-loop-n : goal.invariant-loop-n
invariant-loop-n l = in_turn l.g (guards_of l.conditions l.answers) ≡ in_turn l.g (guards_of (drop l.n l.conditions) (drop l.n l.answers))

-- The loop's invariant: the guards that are left give what the list gives, on a graph that has the first one's keys.
use Rattle.std.proofs.Common.{true, ◌≡◌, length, drop}
use Rattle.graph.specs.Alias.{Same}
use Rattle.graph.specs.Layout.{count_of}
use Rattle.graph.specs.WellFormed.{is_graph}
use Rattle.graph.proofs.Words.{Words}
use Rattle.guard_list.specs.GuardList.{guards_of, in_turn}
use Rattle.guard_list.proofs.in_turn.assume_in_turn.Given as goal

abbrev pub invariant-loop-condition : goal.invariant-loop-condition
invariant-loop-condition l =
    (in_turn l.initial.g (guards_of l.guards.conditions.now l.guards.answers.now) ≡ in_turn l.g (guards_of (drop (length l.yielded) l.guards.conditions.now) (drop (length l.yielded) l.guards.answers.now)))
    × (is_graph l.g ≡ true) × Words l.g × Same (count_of l.initial.g) l.initial.g l.g

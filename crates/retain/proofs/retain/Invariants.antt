-- The loop's invariant: the first nodes are done.
use Rattle.retain.proofs.Moving.{Moving}
use Rattle.retain.proofs.retain.Given as goal

abbrev pub invariant-loop-node : goal.invariant-loop-node
invariant-loop-node l = Moving l.initial.g l.keep l.g l.mapping l.next l.node

-- `insert::store` meets its contract: after k turns the first k words are pasted.
use mathlib.Core.Path.{◌≡◌}
use lib.Seq.{paste}
use Rattle.graph.proofs.insert.store.Given as goal

abbrev pub invariant-loop-k : goal.invariant-loop-k
invariant-loop-k l = l.g ≡ paste l.initial.g l.at l.words l.k

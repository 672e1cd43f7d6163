-- The loop's invariant: the first k words are the node's, the others 0.
use mathlib.Core.Path.{◌≡◌}
use mathlib.Core.List.{◌++◌}
use Prim.Native.Nat.{◌-◌}
use lib.ListN.{replicate}
use Rattle.graph.specs.Layout.{WORDS, words_from}
use Rattle.retain.proofs.moved_words.Given as goal

abbrev pub invariant-loop-k : goal.invariant-loop-k
invariant-loop-k l = l.words ≡ words_from l.g l.node 0 l.k ++ replicate (WORDS - l.k) 0

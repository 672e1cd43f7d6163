-- `insert::find` meets its contract: what is left to search, from `node` to the end, gives the answer of the whole.
use mathlib.Core.Path.{◌≡◌}
use Prim.Native.Nat.{min, ◌-◌, ◌≤◌}
use Rattle.graph.specs.Layout.{LIMIT, count_of}
use Rattle.graph.specs.Insert.{same_key, lowest}
use Rattle.graph.proofs.insert.find.Given as goal

abbrev pub invariant-loop-node : goal.invariant-loop-node
invariant-loop-node l =
    (l.end ≡ min (count_of l.g) LIMIT) × (l.end ≤ LIMIT) × (lowest (same_key l.g l.words) l.from (l.end - l.from) ≡ lowest (same_key l.g l.words) l.node (l.end - l.node))

abbrev pub decreases-loop-node : goal.decreases-loop-node
decreases-loop-node l = l.end - l.node

-- `insert::pass_over` meets its contract: what is left to search, from `node` to the end, gives the answer of the whole. The measure is `last - node`.
use mathlib.Core.Path.{◌≡◌}
use Prim.Native.Nat.{◌-◌, ◌≤◌}
use Rattle.graph.specs.Layout.{LIMIT}
use Rattle.graph.specs.Insert.{same_key, lowest}
use Rattle.graph.proofs.insert.pass_over.Given as goal

abbrev pub invariant-loop-node : goal.invariant-loop-node
invariant-loop-node l =
    (l.from ≤ l.node) × (l.last ≤ LIMIT - 15) × (lowest (same_key l.g l.words) l.node (l.end - l.node) ≡ lowest (same_key l.g l.words) l.from (l.end - l.from))

abbrev pub decreases-loop-node : goal.decreases-loop-node
decreases-loop-node l = l.last - l.node

-- `insert::apart` meets its contract: the nodes passed have each another first field.
use mathlib.Core.Path.{◌≡◌}
use mathlib.Core.Bool.{true}
use Rattle.graph.specs.Insert.{are_apart}
use Rattle.graph.proofs.insert.apart.Given as goal

abbrev pub invariant-loop-k : goal.invariant-loop-k
invariant-loop-k l = are_apart l.g l.first l.at l.k ≡ true

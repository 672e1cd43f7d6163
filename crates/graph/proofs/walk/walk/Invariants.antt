-- Where what is left of the chain ends, the whole chain ends.
use Rattle.std.proofs.Common.{◌-◌}
use Rattle.graph.specs.Layout.{LIMIT}
use Rattle.graph.specs.Chains.{Ends}
use Rattle.graph.proofs.walk.walk.Given as goal

abbrev pub invariant-loop : goal.invariant-loop
invariant-loop g l =
    (z : _) → Ends (λ x r. goal.F-post g l.step x r) (LIMIT - l.counter) l.at z → Ends (λ x r. goal.F-post g l.step x r) LIMIT l.fn.from z

-- `walk` meets its contract: each turn is one step of the chain.
use Rattle.std.proofs.Common.{arith}
use Rattle.graph.specs.Layout.{LIMIT}
use Rattle.graph.specs.Chains.{Walked}
use Rattle.graph.proofs.Chains.{ends_here, ends_on, ends_last}
use Rattle.graph.proofs.walk.walk.Goals as goal

pub returns-in_default : goal.returns-in_default
unfolding Walked
returns-in_default g c =
    let l = c.loop in
    l.invariant l.at (ends_here (λ x r. goal.F-post g c.args.step x r) LIMIT l.counter l.at (omega arith) (rw c.in_default.is at c.step.ensures))

pub loop-preserved : goal.loop-preserved
loop-preserved g c =
    let l = c.loop in
    λ z w. l.invariant z (ends_on (λ x r. goal.F-post g c.args.step x r) LIMIT l.counter l.at c.in-Some.next z (omega arith) (rw c.in-Some.is at c.step.ensures) w)

pub returns : goal.returns
unfolding Walked
returns g c = let l = c.loop in l.invariant l.at (ends_last (λ x r. goal.F-post g c.args.step x r) LIMIT l.counter l.at (omega arith))

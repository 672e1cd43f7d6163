-- `behind_nots` meets its contract: a step of the walk is one BoolNot.
use Rattle.std.proofs.Common.{◌≡◌, not, rules, refl, None, Some}
use Rattle.graph.proofs.Chains.{walked_as}
use Rattle.guard.specs.Condition.{condition_of, negated_at, behind, behind_nots}
use Rattle.guard.proofs.reading.behind_nots.Goals as goal

pub returns : goal.returns
unfolding behind_nots
returns c =
    let g = c.args.g.now in
    walked_as _ condition_of (λ k a. behind g k a.node.0 a.expected) (λ a. refl)
    (λ k a p. let e : negated_at g a.node.0 ≡ None = search rules in rw e)
    (λ k a b p.
    let e : negated_at g a.node.0 ≡ Some b.node.0 = search rules in
    let d : not a.expected ≡ b.expected = search rules in
    rw (e, d))
    _ _ c.walk.ensures

-- `resolve` meets its contract: a step of the walk is one along the aliases.
use Rattle.std.proofs.Common.{◌≡◌, ◌∙◌, ◌-◌, ℕ, ap, rules, refl}
use Rattle.graph.specs.Node.{alias_at}
use Rattle.graph.specs.Insert.{follow, resolve}
use Rattle.graph.proofs.Chains.{walked_as}
use Rattle.graph.proofs.Nodes.{follow_on}
use Rattle.graph.proofs.read.resolve.Goals as goal

pub returns : goal.returns
unfolding resolve
returns c =
    let g = c.args.g.now in
    walked_as _ (λ a. a.0) (λ k a. follow g k a.0) (λ a. refl)
    (λ k a p. let e : alias_at g a.0 ≡ 0 = search rules in rw e)
    (λ k a b p.
    let h : alias_at g a.0 ≡ 0 → ⊥ = λ e. search rules in
    let e : alias_at g a.0 - 1 ≡ b.0 = search rules in
    follow_on g a.0 k h ∙ ap (λ (n : ℕ). follow g k n) e)
    _ _ c.walk.ensures

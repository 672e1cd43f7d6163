-- `origin` meets its contract: a step of the walk is one down the chain of Refines.
use Rattle.std.proofs.Common.{◌≡◌, rules, refl, None, Some}
use Rattle.graph.proofs.Chains.{walked_as}
use Rattle.fold.specs.Shape.{refined_at, down, origin}
use Rattle.fold.proofs.shape.origin.Goals as goal

pub returns : goal.returns
unfolding origin
returns c =
    let g = c.args.g.now in
    walked_as _ (λ a. a.0) (λ k a. down g k a.0) (λ a. refl)
    (λ k a p. let e : refined_at g a.0 ≡ None = search rules in rw e)
    (λ k a b p. let e : refined_at g a.0 ≡ Some b.0 = search rules in rw e)
    _ _ c.walk.ensures

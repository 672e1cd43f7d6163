-- `view_at` meets its contract: a step of the walk is one down the chain of Refines, or to the first source of the type.
use Rattle.std.proofs.Common.{rules}
use Rattle.graph.proofs.Chains.{walked_as}
use Rattle.plan.specs.OneOperand.{view_of, view_at}
use Rattle.plan.proofs.Laws.{onward, onward_none}
use Rattle.plan.proofs.one_operand.view_at.Goals as goal

pub returns : goal.returns
unfolding view_at
returns c =
    let g = c.args.g.now in
    walked_as _ view_of (onward g c.args.ty) (onward_none g c.args.ty)
    (λ k a p. search rules)
    (λ k a b p. search rules)
    _ _ c.walk.ensures

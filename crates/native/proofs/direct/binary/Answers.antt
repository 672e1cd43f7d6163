-- `direct::binary` meets its contract.
use Rattle.plan.specs.Plan.{plan_of}
use Rattle.native.proofs.Adding.{binary_at}
use mathlib.Core.Path.{sym, ap, ◌∙◌}
use Rattle.native.specs.Perform.{leaf_out}
use Rattle.native.proofs.direct.binary.Goals as goal

pub returns-in-Add : goal.returns-in-Add
returns-in-Add c = rw c.settle.ensures (ap (leaf_out c.args.full) c.insert.ensures ∙ sym (binary_at _ _ _ _ _ _ _ _ _ c.resolve-a.result.0 c.resolve-b.result.0 c.resolve-a.ensures c.resolve-b.ensures (sym c.is_binary_open.ensures ∙ c.if-is_binary_open.true) (sym c.binary_plan-plan.ensures ∙ ap plan_of c.in-Add.is)))

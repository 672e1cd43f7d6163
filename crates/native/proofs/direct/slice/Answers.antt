-- `direct::slice` meets its contract.
use Rattle.plan.specs.Plan.{plan_of}
use Rattle.native.proofs.Adding.{slice_at}
use mathlib.Core.Path.{sym, ap, ◌∙◌}
use Rattle.native.specs.Perform.{leaf_out}
use Rattle.native.proofs.direct.slice.Goals as goal

pub returns-in-Add : goal.returns-in-Add
returns-in-Add c = rw c.settle.ensures (ap (leaf_out c.args.full) c.insert.ensures ∙ sym (slice_at _ _ _ _ _ _ _ _ c.resolve-id.result.0 c.resolve-id.ensures (sym c.is_slice_open.ensures ∙ c.if-is_slice_open.true) (sym c.slice_plan-plan.ensures ∙ ap plan_of c.in-Add.is)))

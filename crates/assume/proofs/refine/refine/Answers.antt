-- `refine` meets its contract: one step is one of the steps that are left. Assumes nothing.
use mathlib.Core.Path.{refl, sym, ap, ◌∙◌}
use Prim.Native.Nat.{◌+◌, ◌-◌}
use native.Mathlib.Omega.{arith}
use Rattle.graph.specs.Layout.{LIMIT}
use Rattle.assume.specs.Refine.{narrowed, refine_up_to, refined}
use Rattle.assume.proofs.Laws.{steps_on}
use Rattle.assume.proofs.refine.refine.Goals as goal

pub loop-init : goal.loop-init
unfolding refined
loop-init c = refl

pub loop-preserved : goal.loop-preserved
loop-preserved c =
    let k = LIMIT - (c.loop.counter + 1) in
    let e = rw (c.in_ok-next.was, c.in-Narrowed.is, c.in-Some.is) at c.refine_step.ensures in
    c.loop.invariant
    ∙ steps_on k (LIMIT - c.loop.counter) _ _ _ _ _ _ (omega arith) c.resolve-target.ensures _ _ e
    ∙ ap (refine_up_to k narrowed _ _) (sym c.limited_to-wanted.ensures)

-- `step::after_constant` meets its contract: the constant is the first node of the program. Assumes nothing.
use Rattle.build.proofs.Laws.{constant-inserted, on_id-stop}
use Rattle.build.proofs.step.after_constant.Goals as goal

pub returns-in-Ok : goal.returns-in-Ok
returns-in-Ok c u = rw (constant-inserted, ← c.constant.ensures, c.in-Ok.is)

pub returns-in_default : goal.returns-in_default
returns-in_default c u = rw (constant-inserted, ← c.constant.ensures, on_id-stop _ _ _ _ c.in_default.not-Ok)

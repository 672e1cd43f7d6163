-- `step::begin` meets its contract: a constant is a node that is inserted. Assumes nothing.
use Rattle.build.proofs.Laws.{constant-inserted, on_id-tail}
use Rattle.build.proofs.step.begin.Goals as goal

pub returns-in-Constant : goal.returns-in-Constant
returns-in-Constant c u = rw (c.in-Constant.is, constant-inserted, ← c.constant.ensures, on_id-tail)

-- `step::begin_masked` meets its contract: the mask is the first node of the program. Assumes nothing.
use Rattle.word.specs.Value.{val}
use Rattle.build.proofs.Laws.{constant-inserted}
use Rattle.build.proofs.Some.{constant_answers, masked-stop}
use Rattle.build.proofs.step.begin_masked.Goals as goal

pub returns-in-Ok : goal.returns-in-Ok
returns-in-Ok c u = rw (constant-inserted, ← c.constant.ensures, c.in-Ok.is)

pub returns-in_default : goal.returns-in_default
returns-in_default c u =
    let a = c.args in
    rw (constant-inserted, ← c.constant.ensures, masked-stop _ _ _ _ _ c.in_default.not-Ok (rw (← c.constant.ensures) at (constant_answers a.g.now a.fold.ty (val a.fold.mask))))

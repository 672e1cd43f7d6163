-- `record_vectors::tell` meets its contract: a step's line fits the slice lent for it (`went_on`, `ended`). Assumes nothing.
use Rattle.record.specs.Perform.{effect_call, record_call}
use Rattle.record.proofs.Within.{went_on, ended}
use Rattle.record_vectors.proofs.tell.Goals as goal

pub returns-in-Some-Line : goal.returns-in-Some-Line
unfolding record_call
returns-in-Some-Line c =
    let call = c.perform in
    (went_on c.args.g.now c.args.mapping.now c.args.line.now call.new.g call.new.mapping call.new.line
    (effect_call c.args.g.now c.args.mapping.now c.args.bytes.now) call.auto.line
    c.in-Some-Line.len (rw c.in-Some-Line.field-0-is at c.in-Some-Line.ensures)).within

pub returns-in-Some-Last : goal.returns-in-Some-Last
unfolding record_call
returns-in-Some-Last c =
    let call = c.perform in
    (ended c.args.g.now c.args.mapping.now c.args.line.now call.new.g call.new.mapping call.new.line
    (effect_call c.args.g.now c.args.mapping.now c.args.bytes.now) call.auto.line
    c.in-Some-Last.len (rw c.in-Some-Last.field-0-is at c.in-Some-Last.ensures)).within

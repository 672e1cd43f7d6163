-- `record::perform::perform_body` meets its contract: a retain, a request or a bad record, each with its line. Assumes nothing.
use borrow.Author.Tests.{eq-eqb, ne_eqb}
use Rattle.record.specs.Perform.{done_by}
use Rattle.record.proofs.Steps.{answered_step, kept_step, bad_step}
use Rattle.record.proofs.perform.perform_body.Goals as goal

pub returns-then-tag-eq-RETAIN : goal.returns-then-tag-eq-RETAIN
unfolding done_by
returns-then-tag-eq-RETAIN c = rw (eq-eqb _ _ c.if-tag-eq-RETAIN.true) (kept_step c.args.line.now _ c.retain_listed-retained.ensures c.put_retained.ensures)

pub returns-in_default : goal.returns-in_default
unfolding done_by
returns-in_default c =
    rw (ne_eqb _ _ c.if-tag-eq-RETAIN.false, ← c.request_in.ensures, c.in_default.is)
    (bad_step c.args.line.now c.args.g.now c.args.mapping.now c.put_bad.ensures)

pub returns : goal.returns
unfolding done_by
returns c =
    rw (ne_eqb _ _ c.if-tag-eq-RETAIN.false, ← c.request_in.ensures, c.in-Some.is)
    (answered_step c.args.line.now c.args.mapping.now _ c.call_in_graph-answer.ensures c.put_answer.ensures)

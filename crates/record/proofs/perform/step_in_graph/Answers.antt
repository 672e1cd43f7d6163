-- `record::perform::step_in_graph` meets its contract: the tag and its body. Assumes nothing.
use Rattle.record.specs.Record.{asked}
use Rattle.record.specs.Perform.{done_by, effect_in_graph}
use Rattle.record.proofs.Parts.{part_from}
use Rattle.record.proofs.Steps.{bad_step}
use Rattle.record.proofs.perform.step_in_graph.Goals as goal

pub returns-in-Some : goal.returns-in-Some
unfolding effect_in_graph asked
returns-in-Some c = rw (← c.tag_in.ensures, c.in-Some.is) (rw part_from at c.perform_body.ensures)

pub returns-in-None : goal.returns-in-None
unfolding effect_in_graph asked done_by
returns-in-None c =
    rw (← c.tag_in.ensures, c.in-None.is)
    (bad_step c.args.line.now c.args.g.now c.args.mapping.now c.put_bad.ensures)

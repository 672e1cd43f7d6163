-- `record::perform::perform_in_graph` meets its contract: room for a line, and then the record. Assumes nothing.
use borrow.Author.Tests.{le-leb, lt-leb}
use Rattle.record.specs.Line.{LINE}
use Rattle.record.specs.Perform.{record_in_graph}
use Rattle.record.proofs.Within.{written-front}
use Rattle.record.proofs.perform.perform_in_graph.Goals as goal

pub returns-in_err-line : goal.returns-in_err-line
unfolding record_in_graph
returns-in_err-line c = rw (c.from_residual.ensures, lt-leb _ _ c.in_err-line.ensures.cases)

pub returns : goal.returns
unfolding record_in_graph
returns c =
    let cut = c.in_ok-line.ensures.cases in
    rw (le-leb _ _ cut.enough)
    (written-front LINE c.args.line.now c.in_ok-line.line.now c.step_in_graph.new.line _ _ _ _ cut.same c.step_in_graph.ensures)

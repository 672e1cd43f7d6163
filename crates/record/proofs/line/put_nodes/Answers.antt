-- `record::line::put_nodes` meets its contract: what is put at the start of the first bytes is put at the start of the slice. Assumes nothing.
use Rattle.std.proofs.Common.{length}
use borrow.Author.Tests.{le-leb}
use Rattle.record.specs.Line.{LINE, nodes_line}
use Rattle.record.proofs.Within.{placed-front}
use Rattle.record.proofs.line.put_nodes.Goals as goal

pub returns-in-Some : goal.returns-in-Some
returns-in-Some c =
    let line = c.args.line.now in
    let cut = c.in-Some.ensures.cases in
    let put = c.put_numbered.ensures in
    let room = le-leb LINE (length line) cut.enough in
    record {
      value = rw room put.len;
      line_after = rw room (placed-front LINE line (nodes_line c.args.nodes) c.put_numbered.new.line (rw cut.same at put.fits) (rw cut.same at put.slice));
    }

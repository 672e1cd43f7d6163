-- `vector_lines::word_of` meets its contract: the two halves that are read are the whole's (`parts_read`). Assumes nothing.
use Rattle.word.specs.Value.{val}
use Rattle.vector_lines.proofs.Spelling.{parts_read}
use Rattle.vector_lines.proofs.word_of.Goals as goal

pub returns-in_err-lo : goal.returns-in_err-lo
returns-in_err-lo c =
    rw c.from_residual-in_err-lo.ensures
    (rw (c.in_ok-hi.was, c.in_err-lo.was) at
    (parts_read c.args.text.now c.if-text-ne32.false c.number_of.result c.number_of-2.result c.number_of.ensures c.number_of-2.ensures))

pub returns : goal.returns
unfolding val
returns c =
    rw (c.in_ok-hi.was, c.in_ok-lo.was) at
    (parts_read c.args.text.now c.if-text-ne32.false c.number_of.result c.number_of-2.result c.number_of.ensures c.number_of-2.ensures)

-- `shift_right` meets its contract.
use Rattle.std.proofs.Common.{rules}
use Rattle.word.specs.Value.{val}
use Rattle.word.proofs.Halves.{val-lt}
use Rattle.evaluate.proofs.Shifts.{unbounded_right}
use mathlib.Core.Path.{◌∙◌}
use Rattle.evaluate.proofs.two_operands.shift_right.Goals as goal

pub returns : goal.returns
returns c = rw (← c.to_u32.ensures)
    (c.unbounded_shr.ensures ∙ unbounded_right (val c.args.a) c.to_u32.result (val-lt c.args.a (search rules) (search rules)))

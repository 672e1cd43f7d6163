-- `shift_left` meets its contract.
use Rattle.word.specs.Value.{val}
use Rattle.evaluate.proofs.Shifts.{unbounded_left}
use mathlib.Core.Path.{◌∙◌}
use Rattle.evaluate.proofs.two_operands.shift_left.Goals as goal

pub returns : goal.returns
returns c = rw (← c.to_u32.ensures) (c.unbounded_shl.ensures ∙ unbounded_left (val c.args.a) c.to_u32.result)

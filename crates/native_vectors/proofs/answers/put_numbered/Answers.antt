-- `answers::put_numbered` meets its contract: a number of 64 bits has at most 20 digits (`decimal_digits`). Assumes nothing.
use Rattle.std.proofs.Common.{◌≤◌, arith, length}
use Rattle.text.specs.Text.{decimal}
use Rattle.text.proofs.Decimal.{decimal_digits}
use Rattle.text.proofs.Placing.{fitting_short}
use Rattle.native_vectors.proofs.answers.put_numbered.Goals as goal

pub returns : goal.returns
returns c =
    let n = length (decimal c.args.number) in
    let short : n ≤ 20 = decimal_digits 19 c.args.number (omega (arith, c.ranges.number.fits)) in
    omega (arith, short, c.put_text_in_room-end.ensures.value, fitting_short n _ _ c.put_decimal.ensures.value)

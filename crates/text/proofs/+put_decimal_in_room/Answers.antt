-- `text::put_decimal_in_room` meets its contract: the last digit is stored behind those of the number's tenth. Assumes nothing.
use Rattle.std.proofs.Common.{[], arith}
use Rattle.text.specs.Text.{placed}
use Rattle.text.proofs.Decimal.{decimal_small, decimal_large, length_small, length_large}
use Rattle.text.proofs.Placing.{set-placed}
use Rattle.text.proofs.+put_decimal_in_room.Goals as goal

pub returns-then-n-lt10-clause-out_after : goal.returns-then-n-lt10-clause-out_after
unfolding placed
returns-then-n-lt10-clause-out_after t c =
    let small = c.if-n-lt10.true in
    rw (decimal_small c.args.n small) (set-placed c.args.out.now [] _ (omega (arith, length_small c.args.n small)))

pub returns-clause-out_after : goal.returns-clause-out_after
returns-clause-out_after t c =
    let call = c.put_decimal_in_room-end in
    let large = c.if-n-lt10.false in
    rw (call.ensures.out_after, call.ensures.value, decimal_large c.args.n large) (set-placed c.args.out.now _ _ (omega (arith, length_large c.args.n large)))

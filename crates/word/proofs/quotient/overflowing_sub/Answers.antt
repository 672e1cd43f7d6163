-- `overflowing_sub` meets its contract: a borrow out of the low halves is taken from the high ones. Assumes nothing.
use Rattle.std.proofs.Common.{◌+◌, ◌-◌, ◌%◌, ◌^◌, nat_lt, arith, rules}
use Rattle.word.specs.Option.{from_bool}
use Rattle.word.specs.Value.{val}
use Rattle.word.proofs.Quotients.{difference_of_halves}
use Rattle.word.proofs.quotient.overflowing_sub.Goals as goal

pub returns : goal.returns
unfolding val
returns c =
    let g = c.args in
    let low = c.below-low in
    let l = (g.a.lo + (2 ^ 64 - g.b.lo)) % 2 ^ 64 in
    let d = (g.a.hi + (2 ^ 64 - g.b.hi)) % 2 ^ 64 in
    let h = (d + (2 ^ 64 - from_bool (nat_lt g.a.lo g.b.lo))) % 2 ^ 64 in
    rw (c.below.ensures, c.below-2.ensures, low.ensures)
    (difference_of_halves g.a.hi g.a.lo g.b.hi g.b.lo l d h
    (search rules) (search rules) (omega arith) (omega arith) (omega arith)
    (omega arith) (omega arith) (rw (← low.ensures) (omega arith)))

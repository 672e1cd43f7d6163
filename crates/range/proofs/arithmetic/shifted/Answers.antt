-- `shifted` meets its contract: below 127 the power is an integer of 128 bits.
use Rattle.range.proofs.Rules.{power-signed}
use Rattle.range.specs.Interval.{shifted}
use Rattle.word.specs.Value.{val}
use borrow.Author.Tests.{lt-ltb, le-ltb}
use Rattle.range.proofs.arithmetic.shifted.Goals as goal

pub returns-then-bits-lt127 : goal.returns-then-bits-lt127
unfolding shifted val
returns-then-bits-lt127 c = let h = c.if-bits-lt127.true in
    rw (c.checked_mul.ensures, c.as_signed.ensures, c.unbounded_shl.ensures, power-signed _ h, ← c.clamped_amount-bits.ensures, lt-ltb _ _ h)

pub returns-else-bits-lt127 : goal.returns-else-bits-lt127
unfolding shifted
returns-else-bits-lt127 c = rw (← c.clamped_amount-bits.ensures, le-ltb _ _ c.if-bits-lt127.false)

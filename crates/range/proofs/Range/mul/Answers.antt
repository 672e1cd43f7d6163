-- `Range::mul` meets its contract: the products at the corners, three of which are 0 where both ranges start there.
use mathlib.Core.Path.{sym, ◌∙◌}
use Rattle.word.specs.Value.{int_of}
use Rattle.range.specs.Interval.{mul_interval}
use Rattle.range.proofs.Rules.{from_zero}
use Rattle.range.proofs.Range.mul.Goals as goal

pub returns-then-is_from_zero-2 : goal.returns-then-is_from_zero-2
unfolding mul_interval
returns-then-is_from_zero-2 c =
    let a = c.args in
    rw (c.up_to.ensures, c.checked_mul.ensures)
    (sym (from_zero (int_of a.self.min) (int_of a.self.max) (int_of a.other.min) (int_of a.other.max) (sym c.is_from_zero.ensures ∙ c.if-is_from_zero.true) (sym c.is_from_zero-then-is_from_zero.ensures ∙ c.if-is_from_zero-2.true)))

pub returns : goal.returns
unfolding mul_interval
returns c = rw (c.span_of.ensures, c.checked_mul-2.ensures, c.checked_mul-3.ensures, c.checked_mul-4.ensures, c.checked_mul-5.ensures)

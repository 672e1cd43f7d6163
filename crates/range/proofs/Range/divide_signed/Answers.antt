-- `Range::divide_signed` meets its contract: the quotients at the corners, of which two decide between rising ranges.
use mathlib.Core.Path.{sym, ◌∙◌}
use Rattle.word.specs.Value.{int_of}
use Rattle.word.proofs.Compared.{eq_signed_z}
use Rattle.word.proofs.Orders.{same_is}
use Rattle.range.specs.Interval.{quot_interval}
use Rattle.range.proofs.Rules.{rising_quotients}
use Rattle.range.proofs.Range.divide_signed.Goals as goal

pub returns-then-not-is_divisible : goal.returns-then-not-is_divisible
unfolding quot_interval
returns-then-not-is_divisible c = let d = c.is_divisible in rw (← d.ensures, c.if-not-is_divisible.true)

pub returns-then-is_rising-2 : goal.returns-then-is_rising-2
unfolding quot_interval
returns-then-is_rising-2 c =
    let d = c.is_divisible in
    let a = c.args in
    rw (c.between.ensures, c.checked_div.ensures, c.checked_div-then-is_rising-2.ensures, ← d.ensures, c.if-not-is_divisible.false)
    (sym (rising_quotients (int_of a.self.min) (int_of a.self.max) (int_of a.other.min) (int_of a.other.max)
    (sym c.is_rising.ensures ∙ c.if-is_rising.true) (sym c.is_rising-then-is_rising.ensures ∙ c.if-is_rising-2.true)))

pub returns-then-eq : goal.returns-then-eq
unfolding quot_interval
returns-then-eq c =
    let d = c.is_divisible in
    let a = c.args in
    let first = c.checked_div-first in
    let second = c.checked_div-second in
    rw (
      c.span_of.ensures,
      first.ensures,
      second.ensures,
      ← d.ensures,
      c.if-not-is_divisible.false,
      ← same_is (int_of a.other.min) (int_of a.other.max) (sym (c.eq.ensures ∙ eq_signed_z a.other.min a.other.max) ∙ c.if-eq.true),
    )

pub returns : goal.returns
unfolding quot_interval
returns c =
    let d = c.is_divisible in
    let first = c.checked_div-first in
    let second = c.checked_div-second in
    rw (c.span_of-2.ensures, first.ensures, c.checked_div-2.ensures, second.ensures, c.checked_div-3.ensures, ← d.ensures, c.if-not-is_divisible.false)

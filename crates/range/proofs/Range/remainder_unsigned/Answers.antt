-- `Range::remainder_unsigned` meets its contract: the lesser of the maximum and the largest divisor less 1.
use mathlib.Core.Path.{sym, ap, ◌∙◌}
use Rattle.word.specs.Value.{int_of, value_of}
use Rattle.word.proofs.Compared.{lt_signed, min_signed}
use Rattle.word.specs.declared.Signed.{Signed}
use lib.IntN.{pos}
use Rattle.range.specs.Interval.{urem_interval}
use Rattle.range.proofs.Range.remainder_unsigned.Goals as goal

abbrev zero : Signed
zero = record { lo = 0; hi = pos 0 }

pub returns-in_ok-most : goal.returns-in_ok-most
unfolding urem_interval int_of
returns-in_ok-most c =
    let a = c.args in
    rw (
      c.up_to.ensures,
      ap int_of c.min.ensures ∙ min_signed a.self.max c.in_ok-most.most,
      ← c.is_nonnegative.ensures,
      c.if-is_nonnegative.true,
      ← c.lt.ensures ∙ lt_signed zero a.other.min,
      c.if-lt.true,
      sym c.checked_sub.ensures ∙ ap value_of c.in_ok-most.was,
    )

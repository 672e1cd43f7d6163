-- `Range::is_in_bits` meets its contract, by the mask read signed.
use Rattle.range.proofs.Types.{mask_signed}
use Rattle.word.proofs.Compared.{le_signed}
use mathlib.Core.Path.{◌∙◌}
use borrow.Author.Tests.{lt-leb}
use Rattle.range.proofs.Range.is_in_bits.Goals as goal

pub returns-else-width-ge128 : goal.returns-else-width-ge128
returns-else-width-ge128 c = let g = c.args in
    c.le.ensures ∙ le_signed g.self.max c.as_signed.result
    ∙ rw (c.as_signed.ensures, mask_signed g.width c.if-width-ge128.false c.mask.ensures, ← c.is_nonnegative.ensures, c.if-is_nonnegative.true, lt-leb _ _ c.if-width-ge128.false)

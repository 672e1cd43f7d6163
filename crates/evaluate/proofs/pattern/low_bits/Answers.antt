-- `low_bits` meets its contract: the mask keeps the low bits.
use Rattle.evaluate.proofs.Patterns.{masked}
use Rattle.word.proofs.Halves.{val-lt}
use Rattle.word.specs.Value.{val}
use lib.Bits.{bit_and}
use mathlib.Core.Path.{ap, ◌∙◌}
use borrow.Author.Rules.{rules}
use Rattle.evaluate.proofs.pattern.low_bits.Goals as goal

pub returns : goal.returns
returns c = let g = c.args in
    c.bitand.ensures ∙ ap (bit_and (val g.value)) c.mask.ensures
    ∙ masked 128 g.width (val g.value) (val-lt g.value (search rules) (search rules))

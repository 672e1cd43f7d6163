-- `signed_of` meets its contract: a magnitude of 2^127 fits below 0 only.
use Rattle.word.proofs.Magnitudes.{magnitude_past, positive_past, positive_fits, negative_fits}
use Rattle.word.proofs.Compared.{lt_word}
use Rattle.word.specs.declared.Word.{Word}
use Rattle.word.specs.Step.{with_sign}
use Rattle.word.specs.Value.{val, fitted, signed}
use Rattle.std.proofs.Common.{◌^◌, Bool, sym, ap, ◌∙◌, ltb-false, ltb-true}
use Rattle.std.specs.Prelude.{Some}
use Rattle.word.proofs.product.signed_of.Goals as goal

abbrev limit : Word
limit = record { lo = 0; hi = 2 ^ 63 }

pub returns-then-lt : goal.returns-then-lt
unfolding val
returns-then-lt c =
    let g = c.args in
    magnitude_past g.negative (val g.magnitude) (ltb-true _ _ (sym (c.lt.ensures ∙ lt_word limit g.magnitude) ∙ c.if-lt.true))

pub returns-else-lt : goal.returns-else-lt
unfolding val
returns-else-lt c =
    let g = c.args in
    ap Some (c.as_signed.ensures ∙ ap (signed 128) c.wrapping_neg.ensures)
    ∙ negative_fits (val g.magnitude) (ltb-false _ _ (sym (c.lt.ensures ∙ lt_word limit g.magnitude) ∙ c.if-lt.false))
    ∙ ap (λ (t : Bool). fitted (with_sign t (val g.magnitude))) (sym c.if-negative.true)

pub returns-then-lt-2 : goal.returns-then-lt-2
unfolding val
returns-then-lt-2 c =
    let g = c.args in
    ap Some c.as_signed-then-lt-2.ensures
    ∙ positive_fits (val g.magnitude) (ltb-true _ _ (sym (c.lt-else-negative.ensures ∙ lt_word g.magnitude limit) ∙ c.if-lt-2.true))
    ∙ ap (λ (t : Bool). fitted (with_sign t (val g.magnitude))) (sym c.if-negative.false)

pub returns-else-lt-2 : goal.returns-else-lt-2
unfolding val
returns-else-lt-2 c =
    let g = c.args in
    positive_past (val g.magnitude) (ltb-false _ _ (sym (c.lt-else-negative.ensures ∙ lt_word g.magnitude limit) ∙ c.if-lt-2.false))
    ∙ ap (λ (t : Bool). fitted (with_sign t (val g.magnitude))) (sym c.if-negative.false)

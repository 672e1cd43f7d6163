-- `Signed::wrapping_add` meets its contract, by the patterns' sum.
use Rattle.word.proofs.Integer.{residue-add}
use Rattle.word.specs.Value.{int_of, signed, wrapped}
use Rattle.std.proofs.Common.{◌+◌, ◌%◌, ◌^◌, ap, ◌∙◌}
use Rattle.word.proofs.Signed.wrapping_add.Goals as goal

pub returns : goal.returns
unfolding wrapped
returns c =
    let g = c.args in
    c.as_signed.ensures
    ∙ ap (signed 128)
    (c.wrapping_add.ensures ∙ (λ i. (c.as_word.ensures i + c.as_word-2.ensures i) % 2 ^ 128)
    ∙ residue-add 128 (int_of g.self) (int_of g.rhs))

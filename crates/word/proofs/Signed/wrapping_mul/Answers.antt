-- `Signed::wrapping_mul` meets its contract, by the patterns' product.
use Rattle.word.proofs.Integer.{residue-mul}
use Rattle.word.specs.Value.{int_of, signed, wrapped}
use Rattle.std.proofs.Common.{◌*◌, ◌%◌, ◌^◌, ap, ◌∙◌}
use Rattle.word.proofs.Signed.wrapping_mul.Goals as goal

pub returns : goal.returns
unfolding wrapped
returns c =
    let g = c.args in
    c.as_signed.ensures
    ∙ ap (signed 128)
    (c.wrapping_mul.ensures ∙ (λ i. c.as_word.ensures i * c.as_word-2.ensures i % 2 ^ 128)
    ∙ residue-mul 128 (int_of g.self) (int_of g.rhs))

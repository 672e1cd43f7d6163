-- `Signed::wrapping_sub` meets its contract, by the patterns' difference.
use Rattle.word.proofs.Integer.{residue-sub}
use Rattle.word.specs.Value.{int_of, signed, wrapped}
use Rattle.std.proofs.Common.{◌+◌, ◌-◌, ◌%◌, ◌^◌, ap, ◌∙◌}
use Rattle.word.proofs.Signed.wrapping_sub.Goals as goal

pub returns : goal.returns
unfolding wrapped
returns c =
    let g = c.args in
    c.as_signed.ensures
    ∙ ap (signed 128)
    (c.wrapping_sub.ensures ∙ (λ i. (c.as_word.ensures i + (2 ^ 128 - c.as_word-2.ensures i)) % 2 ^ 128)
    ∙ residue-sub 128 (int_of g.self) (int_of g.rhs))

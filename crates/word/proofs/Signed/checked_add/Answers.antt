-- `Signed::checked_add` meets its contract: by the signs, the sum modulo 2^128 is the sum or it does not fit.
use Rattle.word.proofs.Sums.{checked_add}
use Rattle.word.proofs.SignedHalves.{int_mag}
use Rattle.word.specs.Step.{unless_wrapped}
use Rattle.word.specs.Value.{int_of}
use Rattle.std.proofs.Common.{◌∙◌, rules}
use Rattle.word.proofs.Signed.checked_add.Goals as goal

pub returns : goal.returns
returns c = let g = c.args in
    c.unless_wrapped.ensures
    ∙ (λ i. unless_wrapped (c.is_negative.ensures i) (c.is_negative-2.ensures i) (c.wrapping_add.ensures i))
    ∙ checked_add (int_of g.self) (int_of g.rhs) (int_mag g.self (record { half = search rules; low = search rules }))
    (int_mag g.rhs (record { half = search rules; low = search rules }))

-- `Signed::checked_sub` meets its contract: by the signs, the difference modulo 2^128 is the difference or it does not fit.
use Rattle.word.proofs.Sums.{checked_sub}
use Rattle.word.proofs.SignedHalves.{int_mag}
use Rattle.word.specs.Step.{unless_wrapped}
use Rattle.word.specs.Value.{int_of}
use Rattle.std.proofs.Common.{not, ◌∙◌, rules}
use Rattle.word.proofs.Signed.checked_sub.Goals as goal

pub returns : goal.returns
returns c = let g = c.args in
    c.unless_wrapped.ensures
    ∙ (λ i. unless_wrapped (c.is_negative.ensures i) (not (c.is_negative-2.ensures i)) (c.wrapping_sub.ensures i))
    ∙ checked_sub (int_of g.self) (int_of g.rhs) (int_mag g.self (record { half = search rules; low = search rules }))
    (int_mag g.rhs (record { half = search rules; low = search rules }))

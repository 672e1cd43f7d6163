-- `division_step` meets its contract: the divisor is taken off where that does not borrow. Assumes nothing.
use Rattle.std.proofs.Common.{◌≡◌, ◌+◌, ◌*◌, ◌^◌, refl, ◌∙◌, mod-eq_of_lt, arith, rules}
use Rattle.word.specs.Value.{val}
use Rattle.word.proofs.Halves.{val-lt}
use Rattle.word.proofs.Quotients.{step_less, step_more}
use Rattle.word.proofs.quotient.division_step.Goals.{then-borrow-eq1, else-borrow-eq1}
use Rattle.word.proofs.quotient.division_step.Goals as goal

pub returns : goal.returns
returns c =
    let g = c.args in
    let b = val g.divisor in
    let doubled = c.double_add-doubled in
    let less = c.overflowing_sub-less in
    let v = val less.result.value in
    let w = less.result.borrow in
    let brought : val doubled.result ≡ 2 * val g.part.remainder + g.bit = doubled.ensures ∙ mod-eq_of_lt c.requires.2 in
    let law = step_less (2 ^ 128) g.part.quotient (val g.part.remainder) b g.bit (val doubled.result) v w c.requires.0 c.requires.1 brought less.ensures.0 in
    let more = step_more (2 ^ 128) g.part.quotient (val g.part.remainder) b g.bit (val doubled.result) v w c.requires.0 c.requires.1 brought less.ensures.0 in
    elim c.if-borrow-eq1.branch [
      | then-borrow-eq1 d ↦ let r = law (val-lt less.result.value (search rules) (search rules)) d.if-borrow-eq1.true in rw d.result-is (r.0, r.1, refl)
      | else-borrow-eq1 d ↦ let r = more (omega (arith, less.ensures.1, d.if-borrow-eq1.false)) in rw d.result-is (r.0, r.1, refl)
    ]

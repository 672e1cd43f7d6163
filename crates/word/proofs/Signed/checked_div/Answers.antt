-- `Signed::checked_div` meets its contract: the quotient of the magnitudes, with its sign.
use Rattle.word.proofs.Quotients.{division_given}
use Rattle.word.proofs.Magnitudes.{quotient_sign, by_zero-none, quotient_by, unanswered}
use Rattle.word.specs.Step.{with_sign}
use Rattle.word.specs.Value.{val, int_of, fitted, value_of}
use Rattle.word.specs.Division.{divided_of, divided, division_of}
use Rattle.std.proofs.Common.{◌/◌, ltb, sym, ap, ◌∙◌}
use Rattle.word.proofs.Signed.checked_div.Goals as goal

pub returns : goal.returns
returns c =
    let g = c.args in
    let a = c.unsigned_abs in
    let b = c.unsigned_abs-2 in
    let e = division_given _ (val a.result) (val b.result) (divided_of c.in_ok-d.d) (ap division_of (sym c.in_ok-d.was) ∙ c.divide.ensures) in
    c.signed_of.ensures
    ∙ (λ i. fitted (with_sign (c.signs_differ.ensures i) ((e.1 ∙ (λ j. a.ensures j / b.ensures j)) i)))
    ∙ ap fitted (quotient_sign (int_of g.self) (int_of g.rhs))
    ∙ quotient_by (int_of g.self) (int_of g.rhs) (ap (ltb 0) (sym b.ensures) ∙ e.0)

pub returns-in_err-d : goal.returns-in_err-d
returns-in_err-d c =
    let g = c.args in
    let b = c.unsigned_abs-2 in
    ap value_of c.from_residual.ensures ∙ (by_zero-none (int_of g.self) (int_of g.rhs)
    (ap (ltb 0) (sym b.ensures) ∙ unanswered _ (divided (val c.unsigned_abs.result) (val b.result)) (ap division_of (sym c.in_err-d.was) ∙ c.divide.ensures))
    ).0

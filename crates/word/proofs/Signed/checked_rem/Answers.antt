-- `Signed::checked_rem` meets its contract: the remainder of the magnitudes, with the dividend's sign, where the quotient fits.
use Rattle.word.proofs.Quotients.{division_given}
use Rattle.word.proofs.Magnitudes.{quotient_sign, remainder_sign, by_zero-none, remainder_by, remainder-none, answered_test, unanswered}
use Rattle.word.proofs.SignedHalves.{int_mag}
use Rattle.word.specs.Step.{with_sign}
use Rattle.word.specs.Value.{val, int_of, fits, fitted, value_of}
use Rattle.word.specs.Division.{divided_of, divided, division_of}
use lib.Signed.{quot_z}
use Rattle.std.proofs.Common.{◌≡◌, ◌/◌, ◌%◌, true, ltb, nat_abs, sym, ap, ◌∙◌, rules}
use Rattle.word.proofs.Signed.checked_rem.Goals as goal

pub returns-in_err-d : goal.returns-in_err-d
returns-in_err-d c =
    let g = c.args in
    let b = c.unsigned_abs-2 in
    ap value_of c.from_residual.ensures ∙ (by_zero-none (int_of g.self) (int_of g.rhs)
    (ap (ltb 0) (sym b.ensures) ∙ unanswered _ (divided (val c.unsigned_abs.result) (val b.result)) (ap division_of (sym c.in_err-d.was) ∙ c.divide.ensures))
    ).1

pub returns : goal.returns
returns c =
    let x = int_of c.args.self in
    let y = int_of c.args.rhs in
    let a = c.unsigned_abs in
    let b = c.unsigned_abs-2 in
    let e = division_given _ (val a.result) (val b.result) (divided_of c.in_ok-d.d) (ap division_of (sym c.in_ok-d.was) ∙ c.divide.ensures) in
    let z : ltb 0 (nat_abs y) ≡ true = ap (ltb 0) (sym b.ensures) ∙ e.0 in
    let whole : fits (quot_z x y) ≡ true = answered_test (fits (quot_z x y)) _ (quot_z x y)
    (ap value_of (sym c.in_ok-signed_of.was) ∙ c.signed_of.ensures
    ∙ (λ i. fitted (with_sign (c.signs_differ.ensures i) ((e.1 ∙ (λ j. a.ensures j / b.ensures j)) i)))
    ∙ ap fitted (quotient_sign x y)) in
    c.signed_of-2.ensures
    ∙ (λ i. fitted (with_sign (c.is_negative.ensures i) ((e.2 ∙ (λ j. a.ensures j % b.ensures j)) i)))
    ∙ ap fitted (remainder_sign x y)
    ∙ remainder_by x y z (int_mag c.args.self (record { half = search rules; low = search rules })) whole

pub returns-in_err-signed_of : goal.returns-in_err-signed_of
returns-in_err-signed_of c =
    let x = int_of c.args.self in
    let y = int_of c.args.rhs in
    let a = c.unsigned_abs in
    let b = c.unsigned_abs-2 in
    let e = division_given _ (val a.result) (val b.result) (divided_of c.in_ok-d.d) (ap division_of (sym c.in_ok-d.was) ∙ c.divide.ensures) in
    ap value_of c.from_residual-in_err-signed_of.ensures ∙ remainder-none x y (ap (ltb 0) (sym b.ensures) ∙ e.0)
    (unanswered (fits (quot_z x y)) (quot_z x y)
    (ap value_of (sym c.in_err-signed_of.was) ∙ c.signed_of.ensures
    ∙ (λ i. fitted (with_sign (c.signs_differ.ensures i) ((e.1 ∙ (λ j. a.ensures j / b.ensures j)) i)))
    ∙ ap fitted (quotient_sign x y)))

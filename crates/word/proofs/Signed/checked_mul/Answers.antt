-- `Signed::checked_mul` meets its contract: the product of the magnitudes, with its sign.
use Rattle.word.proofs.Magnitudes.{answered, product_sign, product_past}
use Rattle.word.specs.Step.{with_sign, differ}
use Rattle.word.specs.Value.{val, int_of, fitted, is_neg, number_of, value_of}
use Rattle.std.proofs.Common.{◌≡◌, ◌*◌, ◌^◌, ltb, nat_abs, sym, ap, ◌∙◌}
use Rattle.word.specs.Option.{only}
use Rattle.word.proofs.Signed.checked_mul.Goals as goal

pub returns-in_err-magnitude : goal.returns-in_err-magnitude
returns-in_err-magnitude c = let x = int_of c.args.self in
    let y = int_of c.args.rhs in
    ap value_of c.from_residual.ensures
    ∙ product_past (differ (is_neg x) (is_neg y)) (nat_abs x * nat_abs y)
    (ap number_of (sym c.in_err-magnitude.was) ∙ c.checked_mul.ensures
    ∙ (λ i. only (ltb (c.unsigned_abs.ensures i * c.unsigned_abs-2.ensures i) (2 ^ 128)) (c.unsigned_abs.ensures i * c.unsigned_abs-2.ensures i)))
    ∙ ap fitted (product_sign x y)

pub returns : goal.returns
returns c = let x = int_of c.args.self in
    let y = int_of c.args.rhs in
    let m = val c.in_ok-magnitude.magnitude in
    let n = nat_abs x * nat_abs y in
    let e : m ≡ n = answered (ltb n (2 ^ 128)) m n
    (ap number_of (sym c.in_ok-magnitude.was) ∙ c.checked_mul.ensures
    ∙ (λ i. only (ltb (c.unsigned_abs.ensures i * c.unsigned_abs-2.ensures i) (2 ^ 128)) (c.unsigned_abs.ensures i * c.unsigned_abs-2.ensures i))) in
    c.signed_of.ensures ∙ (λ i. fitted (with_sign (c.signs_differ.ensures i) (e i))) ∙ ap fitted (product_sign x y)

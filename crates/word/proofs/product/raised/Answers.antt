-- `raised` meets its contract: the sum fits where `high` has a low half only and the high halves' sum does not wrap. Assumes nothing.
use Rattle.std.proofs.Common.{◌≡◌, ◌+◌, ◌*◌, ◌^◌, arith, rules, le-ltb, lt-ltb}
use Rattle.word.specs.Value.{val}
use Rattle.word.specs.declared.Word.{Word}
use Rattle.word.proofs.Halves.{val-lt}
use Rattle.word.proofs.Products.{raise, past_raise, low_only, high_set}
use Rattle.word.proofs.product.raised.Goals as goal

pub returns-then-high-ne0 : goal.returns-then-high-ne0
unfolding val
returns-then-high-ne0 c =
    let g = c.args in
    rw (le-ltb _ _ (past_raise 64 (val g.high) g.low.hi g.low.lo (omega (arith, high_set g.high c.if-high-ne0.true))))

pub returns-in_err-hi : goal.returns-in_err-hi
unfolding val
returns-in_err-hi c =
    let g = c.args in
    rw (c.from_residual.ensures, le-ltb _ _ (past_raise 64 (val g.high) g.low.hi g.low.lo (omega (arith, c.in_err-hi.ensures))))

pub returns : goal.returns
unfolding val
returns c =
    let g = c.args in
    let sum : Word = record { lo = g.low.lo; hi = c.in_ok-hi.hi } in
    let h : sum.hi ≡ g.low.hi + g.high.lo = c.in_ok-hi.ensures.1 in
    let e : val g.high * 2 ^ 64 + val g.low ≡ val sum =
    rw (low_only g.high c.if-high-ne0.false, h) (raise (2 ^ 64) g.high.lo g.low.hi g.low.lo) in
    rw (e, lt-ltb _ _ (val-lt sum (omega (arith, c.in_ok-hi.ensures)) (search rules)))

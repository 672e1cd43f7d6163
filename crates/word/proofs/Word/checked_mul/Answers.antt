-- `Word::checked_mul` meets its contract: a product of two words with high halves passes 2 ^ 128, and any other is two products of halves; a product by 0 is 0. Assumes nothing.
use Rattle.std.proofs.Common.{◌∙◌, mul_comm, le-ltb}
use Rattle.word.specs.Value.{val}
use Rattle.word.proofs.Products.{past_both, high_set, one_low, by_none}
use Rattle.word.proofs.Quotients.{by_zero}
use Rattle.word.proofs.Word.checked_mul.Goals as goal

pub returns-then-is_zero : goal.returns-then-is_zero
returns-then-is_zero c =
    let g = c.args in
    by_none (val g.self) (val g.rhs) (by_zero (val g.self) c.is_zero.ensures c.if-is_zero.true)

pub returns-then-is_zero-2 : goal.returns-then-is_zero-2
returns-then-is_zero-2 c =
    let g = c.args in
    rw (mul_comm (val g.self) (val g.rhs))
    (by_none (val g.rhs) (val g.self) (by_zero (val g.rhs) c.is_zero-2.ensures c.if-is_zero-2.true))

pub returns-then-self-eq0 : goal.returns-then-self-eq0
returns-then-self-eq0 c =
    let g = c.args in
    let low = c.product_of_halves-low in
    let high = c.product_of_halves-high in
    rw (← one_low g.self g.rhs high.result low.result c.if-self-eq0.true high.ensures low.ensures) c.raised.ensures

pub returns-then-rhs-eq0 : goal.returns-then-rhs-eq0
returns-then-rhs-eq0 c =
    let g = c.args in
    let low = c.product_of_halves-low in
    let high = c.product_of_halves-high-then-rhs-eq0 in
    rw (
      mul_comm (val g.self) (val g.rhs),
      ← one_low g.rhs g.self high.result low.result c.if-rhs-eq0.true (high.ensures ∙ mul_comm g.self.hi g.rhs.lo) (low.ensures ∙ mul_comm g.self.lo g.rhs.lo),
    )
    c.raised-then-rhs-eq0.ensures

pub returns : goal.returns
returns c =
    let g = c.args in
    rw (le-ltb _ _ (past_both 64 (high_set g.self c.if-self-eq0.false) (high_set g.rhs c.if-rhs-eq0.false)))

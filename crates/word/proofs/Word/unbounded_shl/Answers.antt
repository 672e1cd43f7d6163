-- `Word::unbounded_shl` meets its contract, by whether the amount is 0, below 64, below 128 or past it. Assumes nothing.
use Rattle.std.proofs.Common.{sym, mod-eq_of_lt, mul-one, rules}
use Rattle.word.specs.Value.{val}
use Rattle.word.proofs.Halves.{val-lt}
use Rattle.word.proofs.Shifts.{left, left_half, left_all}
use Rattle.word.proofs.Word.unbounded_shl.Goals as goal

pub returns-then-amount-eq0 : goal.returns-then-amount-eq0
returns-then-amount-eq0 c =
    let w = c.args.self in
    rw (c.if-amount-eq0.true, mul-one (val w)) (sym (mod-eq_of_lt (val-lt w (search rules) (search rules))))

pub returns-then-amount-lt64 : goal.returns-then-amount-lt64
unfolding val
returns-then-amount-lt64 c =
    let g = c.args in
    left 64 g.amount g.self.hi g.self.lo (search rules) (search rules)

pub returns-then-amount-lt128 : goal.returns-then-amount-lt128
unfolding val
returns-then-amount-lt128 c =
    let g = c.args in
    left_half 64 g.amount g.self.hi g.self.lo (search rules)

pub returns : goal.returns
unfolding val
returns c =
    let g = c.args in
    left_all 128 g.amount (val g.self) (search rules)

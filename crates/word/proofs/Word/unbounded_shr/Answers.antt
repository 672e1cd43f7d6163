-- `Word::unbounded_shr` meets its contract, by whether the amount is 0, below 64, below 128 or past it. Assumes nothing.
use Rattle.std.proofs.Common.{sym, div-one, rules}
use Rattle.word.specs.Value.{val}
use Rattle.word.proofs.Halves.{val-lt}
use Rattle.word.proofs.Shifts.{right, right_half, right_all}
use Rattle.word.proofs.Word.unbounded_shr.Goals as goal

pub returns-then-amount-eq0 : goal.returns-then-amount-eq0
returns-then-amount-eq0 c = rw c.if-amount-eq0.true (sym (div-one (val c.args.self)))

pub returns-then-amount-lt64 : goal.returns-then-amount-lt64
unfolding val
returns-then-amount-lt64 c =
    let g = c.args in
    right 64 g.amount g.self.hi g.self.lo (search rules) (search rules)

pub returns-then-amount-lt128 : goal.returns-then-amount-lt128
unfolding val
returns-then-amount-lt128 c =
    let g = c.args in
    right_half 64 g.amount g.self.hi g.self.lo (search rules) (search rules)

pub returns : goal.returns
unfolding val
returns c =
    let g = c.args in
    right_all 128 g.amount (val g.self) (val-lt g.self (search rules) (search rules)) (search rules)

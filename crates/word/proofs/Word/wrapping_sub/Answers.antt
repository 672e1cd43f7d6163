-- `Word::wrapping_sub` meets its contract: added to the subtrahend, the result gives the minuend back, with the borrow as the carry.
use Rattle.word.proofs.Sums.{difference}
use Rattle.word.proofs.Halves.{add_halves, val-lt}
use Rattle.word.specs.Value.{val}
use Rattle.std.proofs.Common.{ℕ, ◌+◌, ◌-◌, ◌*◌, ◌%◌, ◌^◌, ap, ◌∙◌, le_of_lt, arith, rules}
use Rattle.word.proofs.Word.wrapping_sub.Goals as goal

pub returns-then-self-rhs : goal.returns-then-self-rhs
unfolding val
returns-then-self-rhs c =
    let a = c.args.self in
    let b = c.args.rhs in
    let l = (a.lo + (2 ^ 64 - b.lo)) % 2 ^ 64 in
    let h = ((a.hi + (2 ^ 64 - b.hi)) % 2 ^ 64 + (2 ^ 64 - 1)) % 2 ^ 64 in
    difference (2 ^ 128) (h * 2 ^ 64 + l) (val b) (val a) (val-lt (record { lo = l; hi = h }) (omega arith) (omega arith)) (le_of_lt (val-lt b (search rules) (search rules)))
    (add_halves 64 h l b.hi b.lo 1 a.lo (omega arith) (omega arith) ∙ ap (λ (x : ℕ). x * 2 ^ 64 + a.lo) (omega arith))

pub returns-else-self-rhs : goal.returns-else-self-rhs
unfolding val
returns-else-self-rhs c =
    let a = c.args.self in
    let b = c.args.rhs in
    let l = (a.lo + (2 ^ 64 - b.lo)) % 2 ^ 64 in
    let h = (a.hi + (2 ^ 64 - b.hi)) % 2 ^ 64 in
    difference (2 ^ 128) (h * 2 ^ 64 + l) (val b) (val a) (val-lt (record { lo = l; hi = h }) (omega arith) (omega arith)) (le_of_lt (val-lt b (search rules) (search rules)))
    (add_halves 64 h l b.hi b.lo 0 a.lo (omega arith) (omega arith) ∙ ap (λ (x : ℕ). x * 2 ^ 64 + a.lo) (omega arith))

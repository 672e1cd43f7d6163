-- `Word::wrapping_add` meets its contract: the carry is 1 where the low sum is below a summand.
use Rattle.word.proofs.Halves.{add_halves}
use Rattle.word.specs.Value.{val}
use Rattle.std.proofs.Common.{ℕ, ◌+◌, ◌*◌, ◌%◌, ◌^◌, sym, ap, ◌∙◌, arith}
use Rattle.word.proofs.Word.wrapping_add.Goals as goal

pub returns-then-lo-self : goal.returns-then-lo-self
unfolding val
returns-then-lo-self c =
    let a = c.args.self in
    let b = c.args.rhs in
    let l = (a.lo + b.lo) % 2 ^ 64 in
    ap (λ (h : ℕ). h * 2 ^ 64 + l) (omega arith)
    ∙ sym (add_halves 64 a.hi a.lo b.hi b.lo 1 l (omega arith) (omega arith))

pub returns-else-lo-self : goal.returns-else-lo-self
unfolding val
returns-else-lo-self c =
    let a = c.args.self in
    let b = c.args.rhs in
    let l = (a.lo + b.lo) % 2 ^ 64 in
    ap (λ (h : ℕ). h * 2 ^ 64 + l) (omega arith)
    ∙ sym (add_halves 64 a.hi a.lo b.hi b.lo 0 l (omega arith) (omega arith))

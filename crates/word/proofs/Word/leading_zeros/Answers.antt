-- `Word::leading_zeros` meets its contract: the low half counts where the high one is 0.
use Rattle.word.proofs.Counts.{leading_high, leading_low}
use Rattle.word.specs.Value.{val}
use lib.Count.{count_leading_zeros, leading_le}
use Rattle.std.proofs.Common.{ℕ, ◌+◌, ◌*◌, ◌^◌, sym, ap, ◌∙◌, pos_of_ne-zero, zero-add, zero-mul, arith, rules}
use Rattle.word.proofs.Word.leading_zeros.Goals as goal

pub overflow_add-result : goal.overflow_add-result
overflow_add-result c = record { fits = omega (arith, leading_le 64 c.args.self.lo) }

pub returns-then-self-eq0 : goal.returns-then-self-eq0
unfolding val
returns-then-self-eq0 c =
    let w = c.args.self in
    leading_low 64 w.lo (search rules)
    ∙ ap (count_leading_zeros 128) (sym (ap (λ (h : ℕ). h * 2 ^ 64 + w.lo) c.if-self-eq0.true ∙ ap (λ (n : ℕ). n + w.lo) (zero-mul (2 ^ 64)) ∙ zero-add w.lo))

pub returns-else-self-eq0 : goal.returns-else-self-eq0
unfolding val
returns-else-self-eq0 c =
    let w = c.args.self in
    leading_high 64 w.hi w.lo (pos_of_ne-zero c.if-self-eq0.false) (search rules) (search rules)

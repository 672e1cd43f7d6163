-- `Word::trailing_zeros` meets its contract: the high half counts where the low one is 0.
use Rattle.word.proofs.Counts.{trailing_high, trailing_low}
use Rattle.word.specs.Value.{val}
use lib.Count.{count_trailing_zeros, trailing_le}
use Rattle.std.proofs.Common.{ℕ, ◌+◌, ◌*◌, ◌^◌, sym, ap, ◌∙◌, add-zero, pos_of_ne-zero, arith, rules}
use Rattle.word.proofs.Word.trailing_zeros.Goals as goal

pub overflow_add-result : goal.overflow_add-result
overflow_add-result c = record { fits = omega (arith, trailing_le 64 c.args.self.hi) }

pub returns-then-self-eq0 : goal.returns-then-self-eq0
unfolding val
returns-then-self-eq0 c =
    let w = c.args.self in
    trailing_high 64 64 w.hi
    ∙ ap (count_trailing_zeros 128) (sym (ap (λ (l : ℕ). w.hi * 2 ^ 64 + l) c.if-self-eq0.true ∙ add-zero (w.hi * 2 ^ 64)))

pub returns-else-self-eq0 : goal.returns-else-self-eq0
unfolding val
returns-else-self-eq0 c =
    let w = c.args.self in
    trailing_low 64 64 w.hi w.lo (pos_of_ne-zero c.if-self-eq0.false) (search rules)

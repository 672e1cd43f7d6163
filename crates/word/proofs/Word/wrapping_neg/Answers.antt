-- `Word::wrapping_neg` meets its contract: 0 less the word.
use Rattle.word.specs.Value.{val}
use Rattle.std.proofs.Common.{ℕ, ◌-◌, ◌%◌, ◌^◌, ap, ◌∙◌, zero-add}
use Rattle.word.proofs.Word.wrapping_neg.Goals as goal

pub returns : goal.returns
unfolding val
returns c =
    c.wrapping_sub.ensures ∙ ap (λ (n : ℕ). n % 2 ^ 128) (zero-add (2 ^ 128 - val c.args.self))

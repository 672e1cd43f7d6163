-- `not` meets its contract: the pattern's complement stands for -1 less the integer.
use Rattle.word.proofs.Sums.{signed_complement}
use Rattle.word.proofs.SignedHalves.{int_mag}
use Rattle.word.specs.Value.{int_of, signed}
use Rattle.std.proofs.Common.{ℕ, ◌-◌, ◌^◌, ap, ◌∙◌, rules}
use Rattle.word.proofs.bits.SignedNot.not.Goals as goal

pub returns : goal.returns
returns c = let s = c.args.self in
    c.as_signed.ensures ∙ ap (signed 128) (c.not.ensures ∙ ap (λ (n : ℕ). 2 ^ 128 - 1 - n) c.as_word.ensures)
    ∙ signed_complement (int_of s) (int_mag s (record { half = search rules; low = search rules }))

-- `Signed::unbounded_shr` meets its contract: below 0 the complement is shifted.
use Rattle.word.proofs.Magnitudes.{shift_negative, shift_positive}
use Rattle.word.proofs.SignedHalves.{int_mag}
use Rattle.word.specs.Value.{int_of, signed}
use Rattle.std.proofs.Common.{ℕ, ◌-◌, ◌/◌, ◌^◌, sym, ap, ◌∙◌, rules}
use Rattle.word.proofs.Signed.unbounded_shr.Goals as goal

pub returns-then-is_negative : goal.returns-then-is_negative
returns-then-is_negative c = let s = c.args.self in
    let m = 2 ^ c.args.amount in
    c.as_signed.ensures
    ∙ ap (signed 128)
    (c.not-then-is_negative.ensures ∙ ap (λ (n : ℕ). 2 ^ 128 - 1 - n) c.unbounded_shr.ensures
    ∙ ap (λ (n : ℕ). 2 ^ 128 - 1 - n / m) c.not.ensures
    ∙ ap (λ (n : ℕ). 2 ^ 128 - 1 - (2 ^ 128 - 1 - n) / m) c.as_word-pattern.ensures)
    ∙ shift_negative (int_of s) m (sym c.is_negative.ensures ∙ c.if-is_negative.true)
    (int_mag s (record { half = search rules; low = search rules }))

pub returns-else-is_negative : goal.returns-else-is_negative
returns-else-is_negative c = let s = c.args.self in
    let m = 2 ^ c.args.amount in
    c.as_signed-else-is_negative.ensures
    ∙ ap (signed 128) (c.unbounded_shr-else-is_negative.ensures ∙ ap (λ (n : ℕ). n / m) c.as_word-pattern.ensures)
    ∙ shift_positive (int_of s) m (sym c.is_negative.ensures ∙ c.if-is_negative.false)
    (int_mag s (record { half = search rules; low = search rules }))

-- `Signed::unsigned_abs` meets its contract: the pattern, or its negative modulo 2^128.
use Rattle.word.proofs.Sums.{abs_neg, abs-pos}
use Rattle.word.proofs.SignedHalves.{int_mag}
use Rattle.word.proofs.Integer.{residue-neg}
use Rattle.word.specs.Value.{int_of}
use Rattle.std.proofs.Common.{ℕ, ◌-◌, ◌%◌, ◌^◌, sym, ap, ◌∙◌, rules}
use Rattle.word.proofs.Signed.unsigned_abs.Goals as goal

pub returns-then-is_negative : goal.returns-then-is_negative
returns-then-is_negative c = let s = c.args.self in
    c.wrapping_neg.ensures ∙ ap (λ (n : ℕ). (2 ^ 128 - n) % 2 ^ 128) c.as_word.ensures ∙ residue-neg 128 (int_of s)
    ∙ abs_neg (int_of s) (sym c.is_negative.ensures ∙ c.if-is_negative.true) (int_mag s (record { half = search rules; low = search rules }))

pub returns-else-is_negative : goal.returns-else-is_negative
returns-else-is_negative c = let s = c.args.self in
    c.as_word-else-is_negative.ensures
    ∙ abs-pos (int_of s) (sym c.is_negative.ensures ∙ c.if-is_negative.false) (int_mag s (record { half = search rules; low = search rules }))

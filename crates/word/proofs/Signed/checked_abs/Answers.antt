-- `Signed::checked_abs` meets its contract, by the sign.
use Rattle.word.proofs.Sums.{abs_of_neg, abs_of_pos, yes_fitted}
use Rattle.word.proofs.SignedHalves.{int_mag}
use Rattle.word.specs.Value.{int_of, fitted}
use Rattle.std.proofs.Common.{sym, ap, ◌∙◌, rules}
use Rattle.word.proofs.Signed.checked_abs.Goals as goal

pub returns-then-is_negative : goal.returns-then-is_negative
returns-then-is_negative c = c.checked_neg.ensures
    ∙ ap fitted (abs_of_neg (int_of c.args.self) (sym c.is_negative.ensures ∙ c.if-is_negative.true))

pub returns-else-is_negative : goal.returns-else-is_negative
returns-else-is_negative c = let s = c.args.self in
    yes_fitted (int_of s) (int_mag s (record { half = search rules; low = search rules }))
    ∙ ap fitted (abs_of_pos (int_of s) (sym c.is_negative.ensures ∙ c.if-is_negative.false))

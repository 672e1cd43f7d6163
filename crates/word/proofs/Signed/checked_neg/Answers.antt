-- `Signed::checked_neg` meets its contract: 0 less the integer.
use Rattle.word.specs.Value.{int_of, fitted}
use Rattle.std.proofs.Common.{neg_ℤ, ap, ◌∙◌}
use lib.IntN.{+ℤ_idl}
use Rattle.word.proofs.Signed.checked_neg.Goals as goal

pub returns : goal.returns
unfolding int_of
returns c =
    c.checked_sub.ensures ∙ ap fitted (+ℤ_idl (neg_ℤ (int_of c.args.self)))

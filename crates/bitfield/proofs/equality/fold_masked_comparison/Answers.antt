use mathlib.Core.Path.{sym, ◌∙◌}
use Rattle.bitfield.proofs.Unmasked.{unmasked}
use Rattle.bitfield.proofs.equality.fold_masked_comparison.Goals as goal

pub returns-then-is_not_binary-2 : goal.returns-then-is_not_binary-2
returns-then-is_not_binary-2 c = sym (unmasked _ _ _ _ (sym c.is_not_binary.ensures ∙ c.if-is_not_binary.true) (sym c.is_not_binary-then-is_not_binary.ensures ∙ c.if-is_not_binary-2.true))

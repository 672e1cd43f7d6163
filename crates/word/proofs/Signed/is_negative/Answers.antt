-- `Signed::is_negative` meets its contract: the high half carries the sign.
use Rattle.std.proofs.Common.{sym, ◌∙◌, rules, refl}
use Rattle.word.proofs.SignedHalves.{int_neg, sign}
use Rattle.word.proofs.Signed.is_negative.Goals as goal

pub returns : goal.returns
returns c = sym (int_neg c.args.self (search rules) ∙ sign c.args.self.hi (search rules) refl)

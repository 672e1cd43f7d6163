-- `record::perform::refuse` meets its contract: a refusal or a bad record. Assumes nothing.
use mathlib.Core.Path.{sym, ◌∙◌}
use Rattle.record.proofs.Steps.{refused_step, bad_call_step}
use Rattle.record.proofs.perform.refuse.Goals as goal

pub returns-then-is_record : goal.returns-then-is_record
returns-then-is_record c g m e = refused_step g m _ _ e (sym c.is_record.ensures ∙ c.if-is_record.true) c.put_refusal.ensures

pub returns-else-is_record : goal.returns-else-is_record
returns-else-is_record c g m e = bad_call_step g m _ _ (sym c.is_record.ensures ∙ c.if-is_record.false) c.put_bad.ensures

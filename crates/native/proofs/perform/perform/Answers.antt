use Rattle.native.proofs.Builders.{taken_finished}
use Rattle.request.specs.Request.{request_of}
use Rattle.native.specs.Perform.{performed}
use mathlib.Core.Path.{sym, ◌∙◌}
use Rattle.native.proofs.perform.perform.Goals as goal

pub returns : goal.returns
unfolding performed
returns c = rw (sym c.are_widths.ensures ∙ c.if-not-are_widths.false, sym (rw c.count-nodes.ensures at c.are_ids.ensures) ∙ c.if-not-are_ids.false, sym c.is_typed.ensures ∙ c.if-not-is_typed.false, sym c.is_declarable.ensures ∙ c.if-not-is_declarable.false) (taken_finished _ _ _ _ (request_of c.args.request) _ c.requires c.work-answer.ensures (rw c.count-nodes.ensures at c.take_back.ensures))

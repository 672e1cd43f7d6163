-- `assume_next` meets its contract: what is answered is the single guard's answer, and the keys stay. Assumes nothing.
use mathlib.Core.Path.{◌≡◌, sym, ap, ◌∙◌}
use Rattle.std.specs.Prelude.{Err}
use borrow.Author.Rules.{rules}
use Rattle.assume.specs.Refine.{unchanged, full}
use Rattle.assume.specs.Sides.{sides_of}
use Rattle.native.specs.Call.{called}
use Rattle.guard_list.specs.GuardList.{done_of}
use Rattle.native.specs.Perform.{finished}
use Rattle.native.proofs.Restoring.{refined_same}
use Rattle.guard_list.proofs.Turns.{asked_refused, asked_done, narrows_none, narrows_some, room_is}
use Rattle.guard_list.proofs.in_turn.assume_next.Goals as goal

pub returns-in_err-both-clause-answer : goal.returns-in_err-both-clause-answer
returns-in_err-both-clause-answer c =
    let a = c.args in
    let q : c.from_residual.result ≡ Err c.in_err-both.field-0.0 = search rules in
    ap (λ r. finished a.g.now (called (done_of r) a.g.now)) q ∙ asked_refused a.g.now a.condition.0 a.expected _ c.in_err-both.ensures

pub returns-in_default-clause-answer : goal.returns-in_default-clause-answer
returns-in_default-clause-answer c =
    let a = c.args in
    asked_done a.g.now a.condition.0 a.expected unchanged a.g.now c.in_ok-both.ensures.0 (narrows_none a.g.now a.condition.0 a.expected (sym (ap sides_of c.in_default.is) ∙ c.in_ok-both.ensures.1))

pub returns-in-Ok-clause-answer : goal.returns-in-Ok-clause-answer
returns-in-Ok-clause-answer c =
    let a = c.args in
    ap (finished a.g.now) (sym (room_is a.g.now a.condition.0 a.expected c.in-Ok.field-0 c.refine_both.new.g))
    ∙ asked_done a.g.now a.condition.0 a.expected _ c.refine_both.new.g c.in_ok-both.ensures.0 (c.in-Ok.ensures ∙ narrows_some a.g.now a.condition.0 a.expected _ (sym (ap sides_of c.in-Some.is) ∙ c.in_ok-both.ensures.1))

pub returns-in-Ok-clause-keys : goal.returns-in-Ok-clause-keys
returns-in-Ok-clause-keys c = refined_same _ _ _ _ _ _ c.requires c.refine_both.ensures

pub returns-in-Err-clause-answer : goal.returns-in-Err-clause-answer
returns-in-Err-clause-answer c =
    let a = c.args in
    asked_done a.g.now a.condition.0 a.expected full c.refine_both.new.g c.in_ok-both.ensures.0 (c.in-Err.ensures ∙ narrows_some a.g.now a.condition.0 a.expected _ (sym (ap sides_of c.in-Some.is) ∙ c.in_ok-both.ensures.1))

pub returns-in-Err-clause-keys : goal.returns-in-Err-clause-keys
returns-in-Err-clause-keys c = refined_same _ _ _ _ _ _ c.requires c.refine_both.ensures

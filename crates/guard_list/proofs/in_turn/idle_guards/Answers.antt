-- `idle_guards` meets its contract: guards that narrow nothing leave the region. Assumes nothing.
use mathlib.Core.Path.{◌≡◌, refl, ◌∙◌}
use native.Mathlib.Numerals.{add-one}
use lib.Dec.{eqb}
use lib.ListN.{get_or}
use borrow.Author.Rules.{rules}
use Rattle.std.specs.Prelude.{Err}
use Rattle.guard_list.proofs.Turns.{asked_refused, idle_done, turn_refused, turn_on}
use Rattle.guard_list.proofs.in_turn.idle_guards.Goals as goal

pub returns-in_err-narrowed_by : goal.returns-in_err-narrowed_by
returns-in_err-narrowed_by c =
    let a = c.args in
    let x = get_or a.guards.conditions.now c.loop-n.n 0 in
    let y = get_or a.guards.answers.now c.loop-n.n 0 in
    let q : c.from_residual.result ≡ Err c.in_err-narrowed_by.field-0.0 = search rules in
    rw q
    (c.loop-n.invariant
    ∙ turn_refused a.g.now a.guards.conditions.now a.guards.answers.now c.loop-n.n c.args.guards.even c.loop-n-test.true x y refl refl c.in_err-narrowed_by.field-0.0 a.g.now
    (asked_refused a.g.now x (eqb y 1) _ c.in_err-narrowed_by.ensures))

pub loop-n-preserved : goal.loop-n-preserved
loop-n-preserved c =
    let a = c.args in
    let x = get_or a.guards.conditions.now c.loop-n.n 0 in
    let y = get_or a.guards.answers.now c.loop-n.n 0 in
    rw add-one
    (c.loop-n.invariant
    ∙ turn_on a.g.now a.guards.conditions.now a.guards.answers.now c.loop-n.n c.args.guards.even c.loop-n-test.true x y refl refl a.g.now
    (idle_done a.g.now x (eqb y 1) _ c.in_ok-narrowed_by.ensures.0 c.if-is_some.ensures c.in_ok-narrowed_by.ensures.1))

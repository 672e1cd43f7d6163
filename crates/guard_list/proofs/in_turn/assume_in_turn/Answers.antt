-- `assume_in_turn` meets its contract: each guard leaves a graph for the next. Assumes nothing.
use mathlib.Core.Path.{◌≡◌, ap, ◌∙◌}
use mathlib.Core.List.{◌∷◌, [], ◌++◌}
use native.Mathlib.Omega.{arith}
use Prim.Native.Nat.{ℕ, suc}
use lib.Dec.{eqb}
use lib.ListN.{length, drop, length-append}
use borrow.Author.Rules.{rules}
use Rattle.std.proofs.lemmas.Slice.Zip.{zip_turn}
use Rattle.graph.proofs.Earlier.{same_then}
use Rattle.guard_list.specs.GuardList.{guards_of, in_turn}
use Rattle.guard_list.proofs.Turns.{turn_on, next_graph}
use Rattle.guard_list.proofs.in_turn.assume_in_turn.Goals as goal

pub loop-condition-preserved : goal.loop-condition-preserved
loop-condition-preserved c =
    let cs = c.args.guards.conditions.now in
    let es = c.args.guards.answers.now in
    let i = c.loop-condition.invariant in
    let n = length c.loop-condition.yielded in
    let g = c.loop-condition.g in
    let h = c.assume_next.new.g in
    let x = c.in-Some.condition.now in
    let y = c.in-Some.answer.now in
    let t = zip_turn cs es c.loop-condition.yielded c.into_iter-condition-iterator.result c.loop-condition.condition-iterator c.next.new.self c.next.result (search rules) (search rules) c.loop-condition.yielded_by _ c.in-Some.is c.next.ensures.steps in
    let e = c.in_ok-assume_next.ensures.answer in
    let k = next_graph g h x (eqb y 1) i.1 i.2 e in
    let m : suc n ≡ length (c.loop-condition.yielded ++ ((c.in-Some.condition, c.in-Some.answer) ∷ [])) = omega (arith, length-append c.loop-condition.yielded ((c.in-Some.condition, c.in-Some.answer) ∷ [])) in (
      i.0 ∙ turn_on g cs es n c.args.guards.even t.0 x y (t.2 0) (t.3 0) h e ∙ ap (λ (j : ℕ). in_turn h (guards_of (drop j cs) (drop j es))) m,
      k.0,
      k.1,
      same_then i.3 i.3.more c.in_ok-assume_next.ensures.keys,
    )

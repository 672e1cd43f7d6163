use mathlib.Core.Path.{◌≡◌, sym, ◌∙◌}
use mathlib.Core.Bool.{true}
use Prim.Native.Nat.{◌-◌}
use native.Mathlib.Omega.{arith}
use borrow.Author.Rules.{rules}
use Rattle.std.proofs.lemmas.Grind.{common_steps}
use Rattle.word.proofs.Halves.{val-lt}
use Rattle.word.specs.Value.{val, is_power_of_two}
use Rattle.fold.proofs.Laws.{less_one}
use Rattle.plan_binary.proofs.constant_right.remainder_plan.Goals as goal

pub returns-then-is_power_of_two : goal.returns-then-is_power_of_two
returns-then-is_power_of_two c =
    let v = c.args.value in
    let e : is_power_of_two (val v) ≡ true = sym c.is_power_of_two.ensures ∙ c.if-is_power_of_two.true in
    let d : val c.wrapping_sub-bits.result ≡ val v - 1 = c.wrapping_sub-bits.ensures ∙ less_one (val v) e (val-lt v (search rules) (search rules)) in
    rw d (grind (arith, common_steps))

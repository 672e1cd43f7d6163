-- The builders and what they call meet their contracts: one cycle of calls. The measure is eight times the units left, and more where a function calls on before it spends one.
use Rattle.std.proofs.Common.{arith, rules, ◌≡◌, refl, sym, ap, ◌∙◌, Err}
use Rattle.graph.specs.declared.Unbuilt.TheVariants as unbuilt
use Rattle.build.specs.Build.{exec, build}
use Rattle.build.specs.Step.{rest_prog}
use Rattle.build.specs.declared.Budget.{Budget}
use Rattle.build.specs.declared.step.Start.TheVariants as start
use Rattle.build.proofs.Laws.{entered_is, try_none, try_stop, units_fall, none_falls, masked_falls, on_out-tail, on_id-stop, constant-inserted}
use Rattle.build.proofs.+builders.Goals as goal
use Rattle.build.proofs.+builders.Goals.{try_modular-then-has_modular_plan+in-Err-None, try_modular-else-has_modular_plan+in_ok-spend}

pub identity-returns : goal.identity-returns
identity-returns t c = let a = c.args in c.enter.ensures ∙ entered_is _ (start.Identity a.ty a.value) _ _ refl

pub unary-returns : goal.unary-returns
unary-returns t c = let a = c.args in c.enter.ensures ∙ entered_is _ (start.Unary a.ty a.value a.op) _ _ refl

pub modular-returns : goal.modular-returns
modular-returns t c = let a = c.args in c.enter.ensures ∙ entered_is _ (start.Modular a.width a.value) _ _ refl

pub binary-returns : goal.binary-returns
binary-returns t c = let a = c.args in c.enter.ensures ∙ entered_is _ (start.Binary a.ty a.op a.left a.right) _ _ refl

pub slice-returns : goal.slice-returns
slice-returns t c = let a = c.args in c.enter.ensures ∙ entered_is _ (start.Slice a.width a.value a.offset) _ _ refl

pub concat-returns : goal.concat-returns
concat-returns t c = let a = c.args in c.enter.ensures ∙ entered_is _ (start.Concat a.low_width a.width a.high a.low) _ _ refl

pub try_modular-returns-in_err-spend : goal.try_modular-returns-in_err-spend
try_modular-returns-in_err-spend t c =
    let e = c.in_err-spend.ensures in
    let q : c.from_residual.result ≡ Err unbuilt.Units = search rules in
    rw (try_none _ _ _ _ _ e.1, e.2, q)

pub try_modular-go_on-requires : goal.try_modular-go_on-requires
try_modular-go_on-requires t c =
    elim c.if-has_modular_plan.branch [
      | try_modular-then-has_modular_plan+in-Err-None w ↦
          let e : w.modular-tried.result ≡ Err unbuilt.None = search rules in
          omega (arith, none_falls _ _ _ (rw e at w.modular-tried.ensures), ap (λ (b : Budget). b.units) w.budget-is)
      | try_modular-else-has_modular_plan+in_ok-spend w ↦ omega (arith, w.in_ok-spend.ensures, ap (λ (b : Budget). b.units) w.budget-is)
    ]

pub try_modular-returns : goal.try_modular-returns
try_modular-returns t c =
    let a = c.args in
    let r = a.rest in
    elim c.if-has_modular_plan.branch [
      | try_modular-then-has_modular_plan+in-Err-None w ↦
          let e : w.modular-tried.result ≡ Err unbuilt.None = search rules in
          c.go_on.ensures ∙ (λ i. exec build (rest_prog r (w.g-is i)) (w.budget-is i).units (w.g-is i)) ∙ rw (on_out-tail, ← w.modular-tried.ensures, e)
      | try_modular-else-has_modular_plan+in_ok-spend w ↦
          c.go_on.ensures ∙ (λ i. exec build (rest_prog r (w.g-is i)) (w.budget-is i).units (w.g-is i))
          ∙ sym (try_stop a.value.0 a.width _ _ (rest_prog r) a.g.now w.in_ok-spend.ensures (grind arith))
    ]

pub try_masked-go_on-requires : goal.try_masked-go_on-requires
try_masked-go_on-requires t c =
    let e : c.masked_operation-tried.result ≡ Err unbuilt.None = search rules in
    omega (arith, masked_falls _ _ _ (rw e at c.masked_operation-tried.ensures))

pub constant_binary-returns : goal.constant_binary-returns
constant_binary-returns t c = rw (constant-inserted, ← c.constant.ensures, c.in_ok-right.was, on_out-tail) c.binary.ensures

pub constant_binary-returns-in_err-right : goal.constant_binary-returns-in_err-right
constant_binary-returns-in_err-right t c =
    let e = c.in_err-right.was in
    let q : c.from_residual.result ≡ c.constant.result = search rules in
    rw (constant-inserted, ← c.constant.ensures, on_id-stop c.constant.result _ _ _ (λ x q. cc), q)

pub slice_identity-identity-requires : goal.slice_identity-identity-requires
slice_identity-identity-requires t c = omega (arith, units_fall _ _ _ c.slice.ensures)

pub slice_shift-constant_binary-requires : goal.slice_shift-constant_binary-requires
slice_shift-constant_binary-requires t c = omega (arith, units_fall _ _ _ c.slice.ensures)

pub and_or-constant_binary-requires : goal.and_or-constant_binary-requires
and_or-constant_binary-requires t c = omega (arith, units_fall _ _ _ c.binary.ensures)

pub masked_operation-constant_binary-requires : goal.masked_operation-constant_binary-requires
masked_operation-constant_binary-requires t c = omega (arith, units_fall _ _ _ c.binary.ensures)

pub truncated-unary-requires-2 : goal.truncated-unary-requires-2
truncated-unary-requires-2 t c = omega (arith, units_fall _ _ _ c.unary.ensures)

pub truncated-binary-requires : goal.truncated-binary-requires
truncated-binary-requires t c = omega (arith, units_fall _ _ _ c.unary.ensures, units_fall _ _ _ c.unary-2.ensures)

pub split_concat-slice-requires-2 : goal.split_concat-slice-requires-2
split_concat-slice-requires-2 t c = omega (arith, units_fall _ _ _ c.slice.ensures)

pub split_concat-concat-requires : goal.split_concat-concat-requires
split_concat-concat-requires t c = omega (arith, units_fall _ _ _ c.slice.ensures, units_fall _ _ _ c.slice-2.ensures)

-- The way down a chain of Refines to a type, by the steps left, and what the test for None tells.
use mathlib.Core.Path.{◌≡◌, refl}
use mathlib.Core.Bool.{true, false, false≢true}
use mathlib.Core.List.{List}
use Prim.Native.Nat.{ℕ}
use Rattle.range.specs.declared.ScalarType.{ScalarType}
use Rattle.plan.specs.declared.Plan as declared
use Rattle.plan.specs.declared.Plan.TheVariants as plan
use Rattle.plan.specs.Plan as spec
use Rattle.plan.specs.Plan.{Plan, stop, plan_of, is_stop}
use Rattle.plan.specs.declared.View as declared-view
use Rattle.plan.specs.declared.View.TheVariants as view
use Rattle.plan.specs.OneOperand.{View, same, view_from, view_of}

-- what is left of the way down from a View of the code, by the steps left
abbrev pub onward : List ℕ → ScalarType → ℕ → declared-view.View → View
onward g t k (view.Same i) = same i.0
onward g t k (view.Source i) = view_from g t k i.0

pub onward_none : (g : List ℕ) (t : ScalarType) (v : declared-view.View) → onward g t 0 v ≡ view_of v
onward_none g t (view.Same i) = refl
onward_none g t (view.Source i) = refl

-- a plan of the code that is not None
pub no_stop : (p : declared.Plan) → (p ≡ plan.None → ⊥) → is_stop (plan_of p) ≡ false
no_stop (plan.Give n) h = refl
no_stop plan.None h = absurd (h refl)
no_stop (plan.Constant v t) h = refl
no_stop (plan.Add r o t) h = refl
no_stop (plan.Identity n t) h = refl
no_stop (plan.Unary n t o) h = refl
no_stop (plan.Binary l r t o) h = refl
no_stop (plan.Slice n o w) h = refl
no_stop (plan.SliceIdentity n o w t) h = refl
no_stop (plan.SliceShift n v w t) h = refl
no_stop (plan.ConstantBinary v n s t o) h = refl
no_stop (plan.AndOr n m v t) h = refl
no_stop (plan.Truncated l r w o) h = refl
no_stop (plan.SplitConcat l m o v u w) h = refl

-- a plan that the test says is None
pub is_stop_lem : (p : Plan) → is_stop p ≡ true → p ≡ stop
is_stop_lem (spec.give n) e = absurd (false≢true e)
is_stop_lem stop e = refl
is_stop_lem (spec.constant t v) e = absurd (false≢true e)
is_stop_lem (spec.add t r o) e = absurd (false≢true e)
is_stop_lem (spec.identity t n) e = absurd (false≢true e)
is_stop_lem (spec.unary t o n) e = absurd (false≢true e)
is_stop_lem (spec.binary t o l r) e = absurd (false≢true e)
is_stop_lem (spec.slice n o w) e = absurd (false≢true e)
is_stop_lem (spec.slice_identity n o w t) e = absurd (false≢true e)
is_stop_lem (spec.slice_shift n w t v) e = absurd (false≢true e)
is_stop_lem (spec.constant_binary s v t o n) e = absurd (false≢true e)
is_stop_lem (spec.and_or t n m v) e = absurd (false≢true e)
is_stop_lem (spec.truncated w o l r) e = absurd (false≢true e)
is_stop_lem (spec.split_concat l o v m u w) e = absurd (false≢true e)

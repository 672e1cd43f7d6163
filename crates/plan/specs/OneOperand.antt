-- The plans of identity, unary and modular.
use Rattle.std.specs.Prelude.{Bool, false, cond, ◌&&◌, ◌||◌, List, ℕ, zero, suc, ◌-◌, eqb, ltb, leb}
use Rattle.std.specs.Prelude.{Option, None, Some}
use Rattle.word.specs.Option.{given}
use Rattle.range.specs.Interval.{Interval}
use Rattle.range.specs.declared.ScalarType.{ScalarType}
use Rattle.range.specs.declared.ScalarType.TheVariants as ty
use Rattle.evaluate.specs.Evaluate.{unary_value}
use Rattle.evaluate.specs.Operator.{unary_width}
use Rattle.evaluate.specs.declared.Unary.{Unary}
use Rattle.evaluate.specs.declared.Unary.TheVariants as un
use Rattle.graph.specs.Layout.{LIMIT}
use Rattle.graph.specs.Node as node
use Rattle.graph.specs.Node.{Op, type_at, range_at, operation_at}
use Rattle.graph.specs.Insert.{literal, resolve}
use Rattle.fold.specs.Operator.{modular_ops}
use Rattle.fold.specs.Shape.{same_type, is_wide, is_any, not_negative, fits, refined_at}
use Rattle.fold.specs.Range.{ranged_at, stored_range}
use Rattle.plan.specs.Plan as plan
use Rattle.plan.specs.Plan.{Plan, First, does, tries, unary_rest, constant_or}
use Rattle.plan.specs.declared.View as declared
use Rattle.plan.specs.declared.View.TheVariants as view

-- ---- identity (native.rs 247 to 270)

-- a value seen at another type: its range has to lie in it, but to Bits it may be truncated
abbrev pub view_plan : ScalarType → Option Interval → ℕ → Plan
view_plan ty.Bool r v = cond (fits 1 r) (plan.add ty.Bool r (node.refine v)) plan.stop
view_plan (ty.Bits w) r v = cond (fits w r) (plan.add (ty.Bits w) r (node.refine v)) (plan.unary (ty.Bits w) (un.Truncate w) v)
view_plan ty.Integer r v = cond (not_negative r) (plan.add ty.Integer r (node.refine v)) plan.stop

-- the plan of identity
unfoldable pub identity_plan : List ℕ → ScalarType → ℕ → Plan
identity_plan g t v = cond (same_type (type_at g v) t) (plan.give v) (view_plan t (range_at g v) v)

-- ---- unary (native.rs 272 to 321)

-- a truncation to the result's own width, which may be pushed through arithmetic (native.rs 277 to 282)
abbrev pub is_reduction : ScalarType → Unary → Bool
is_reduction ty.Bool o = false
is_reduction ty.Integer o = false
is_reduction (ty.Bits t) un.BoolNot = false
is_reduction (ty.Bits t) un.BitNot = false
is_reduction (ty.Bits t) un.Negate = false
is_reduction (ty.Bits t) (un.Truncate w) = eqb t w
is_reduction (ty.Bits t) (un.SignExtend w) = false
is_reduction (ty.Bits t) (un.LeadingZeros w) = false
is_reduction (ty.Bits t) (un.TrailingZeros w) = false

-- does the operator leave a value of this type and range as it is? (native.rs 283 to 303)
abbrev pub is_view : Unary → ScalarType → Option Interval → Bool
is_view un.BoolNot t r = false
is_view un.BitNot t r = false
is_view un.Negate t r = false
is_view (un.Truncate w) t r = fits w r || same_type t (ty.Bits w)
is_view (un.SignExtend w) t r = ltb 0 w && (leb w 128 && fits (w - 1) r)
is_view (un.LeadingZeros w) t r = false
is_view (un.TrailingZeros w) t r = false

-- a node with its range, or None
abbrev pub add_or : ScalarType → Option (Option Interval) → Op → Plan
add_or t None o = plan.stop
add_or t (Some r) o = plan.add t r o

-- unary after modular: the value itself, or a node
unfoldable pub unary_plan : List ℕ → ScalarType → Unary → ℕ → Plan
unary_plan g t o v =
    cond (is_view o (type_at g v) (range_at g v)) (plan.identity t v) (add_or t (stored_range t (node.unary o v) (ranged_at g)) (node.unary o v))

-- unary of a node that is no constant
abbrev pub unary_open : List ℕ → ScalarType → Unary → ℕ → First
unary_open g t o v = cond (is_reduction t o) (tries (plan.modular v (unary_width o)) (unary_rest t o v)) (does (unary_plan g t o v))

-- the first plan of unary
unfoldable pub unary_first : List ℕ → ScalarType → Unary → ℕ → First
unary_first g t o v = given (literal g v) (λ c. does (constant_or t (unary_value o c))) (unary_open g t o v)

-- ---- modular (modular.rs 6 to 32)

-- down a chain of Refines: the first source of the type, or the node where the chain starts
pub data View : Type 0 where
  same : ℕ → View
  source : ℕ → View

-- at most k steps down
abbrev pub view_from : List ℕ → ScalarType → ℕ → ℕ → View
view_from g t zero n = source n
view_from g t (suc k) n = given (refined_at g n) (λ p. cond (same_type (type_at g p) t) (same p) (view_from g t k p)) (source n)

-- down to where the chain starts
unfoldable pub view_at : List ℕ → ScalarType → ℕ → View
view_at g t n = view_from g t LIMIT n

-- what a View of the code stands for
abbrev pub view_of : declared.View → View
view_of (view.Same i) = same i.0
view_of (view.Source i) = source i.0

-- an operation truncated: its operands are
abbrev pub truncated_plan : ℕ → Op → Plan
truncated_plan w (node.constant c) = plan.stop
truncated_plan w (node.input i) = plan.stop
truncated_plan w (node.refine i) = plan.stop
truncated_plan w (node.effect i) = plan.stop
truncated_plan w (node.slice i o v) = plan.stop
truncated_plan w (node.concat i j v) = plan.stop
truncated_plan w (node.unary u i) = plan.stop
truncated_plan w (node.binary o i j) = cond (is_any modular_ops o) (plan.truncated w o i j) plan.stop

-- a view of that type is resolved, an operation of a wide type truncated: a narrower reduction has to stay visible
abbrev pub modular_of : List ℕ → ℕ → View → Plan
modular_of g w (same p) = plan.give (resolve g p)
modular_of g w (source s) = cond (is_wide (type_at g s) w) (truncated_plan w (operation_at g s)) plan.stop

-- the plan of modular
unfoldable pub modular_plan : List ℕ → ℕ → ℕ → Plan
modular_plan g v w = modular_of g w (view_at g (ty.Bits w) v)

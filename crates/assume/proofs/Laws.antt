-- Laws of the definitions that the code's proofs use. Assumes nothing.
use mathlib.Core.Path.{◌≡◌, refl}
use mathlib.Core.Bool.{Bool, true, false, ◌&&◌}
use mathlib.Core.List.{List}
use Rattle.std.specs.Prelude.{Option, None}
use Prim.Native.Nat.{ℕ, suc}
use lib.Dec.{ltb}
use Rattle.word.specs.Option.{provided}
use Rattle.range.specs.Interval.{Interval}
use Rattle.range.specs.declared.ScalarType.{ScalarType}
use Rattle.range.specs.declared.ScalarType.TheVariants as ty
use Rattle.evaluate.specs.declared.Binary.{Binary}
use Rattle.graph.specs.Insert.{resolve}
use Rattle.fold.specs.Shape.{is_any}
use Rattle.fold.specs.Operator.{sums}
use Rattle.assume.specs.Limits.{Limits}
use Rattle.assume.specs.Refine.{undone, Next, Outcome, narrowed, step, refine_step, go_on, refine_up_to}

-- only sums are undone
pub not_sum : (t : ScalarType) (o : Binary) (c : ℕ) (a : Interval) → is_any sums o ≡ false → undone t o c a ≡ None
unfolding undone
not_sum ty.Bool o c a e = refl
not_sum (ty.Bits w) o c a e = rw e (by (ltb w 128) _)
  where
    by : (b : Bool) (r : Option Interval) → provided (b && false) r ≡ None
    by true r = refl
    by false r = refl
not_sum ty.Integer o c a e = rw e

-- one step more, at the node that n resolves to
pub steps_on : (k left : ℕ) (so : Outcome) (g h : List ℕ) (n t : ℕ) (l : Limits) → left ≡ suc k → t ≡ resolve g n
    → (o : Outcome) (x : Option Next) → step o x h ≡ refine_step g t l → refine_up_to left so g n l ≡ go_on so o x h (refine_up_to k narrowed)
steps_on k left so g h n t l more end o x e = rw (more, ← end, ← e)

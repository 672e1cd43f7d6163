-- What assuming a guard does, by what it says of both operands. Assumes nothing.
use mathlib.Core.Path.{◌≡◌, refl}
use mathlib.Core.Bool.{Bool, true, false, cond}
use mathlib.Core.List.{List}
use Rattle.std.specs.Prelude.{Option, None, Some}
use Prim.Native.Nat.{ℕ}
use Rattle.word.specs.Option.{only, given}
use Rattle.range.specs.Interval.{Interval}
use Rattle.evaluate.specs.declared.Binary.{Binary}
use Rattle.guard.specs.Condition.{behind_nots, Comparison, comparison_at}
use Rattle.assume.specs.Limits.{Pair, comparable, limits_by}
use Rattle.assume.specs.Refine.{unchanged, assumed}
use Rattle.assume.specs.Assume.{refined_both, assumed_by, assumed_of, assumed_guard}
use Rattle.assume.specs.Sides.{Sides, both, sides_by, sides_at, sides}

-- what is done with both sides, if they are there
module _ {A : Type 0} (f : ℕ → ℕ → Pair → A) (z : A) where
  abbrev by_sides : Option Sides → A
  by_sides s = given s (λ t. f t.left t.right t.limits) z

  by_test : (t : Bool) (a b : ℕ) (p : Pair) → cond t (f a b p) z ≡ by_sides (only t (both a b p))
  by_test true a b p = refl
  by_test false a b p = refl

module _ (g : List ℕ) where
  assumed_ranges : (e : Bool) (o : Binary) (a b : ℕ) (x y : Option Interval)
      → assumed_by g e o a b x y ≡ by_sides (refined_both g) (assumed unchanged g) (sides_by e o a b x y)
  assumed_ranges e o a b None y = refl
  assumed_ranges e o a b (Some x) None = refl
  assumed_ranges e o a b (Some x) (Some y) = by_test (refined_both g) (assumed unchanged g) (comparable o x y) a b (limits_by o e x y)

  assumed_compared : (e : Bool) (x : Option Comparison)
      → given x (assumed_of g e) (assumed unchanged g) ≡ by_sides (refined_both g) (assumed unchanged g) (given x (sides_at g e) None)
  unfolding assumed_of
  assumed_compared e None = refl
  assumed_compared e (Some c) = assumed_ranges e c.op _ _ _ _

  pub assumed_sides : (n : ℕ) (e : Bool) → assumed_guard g n e ≡ given (sides g n e) (λ s. refined_both g s.left s.right s.limits) (assumed unchanged g)
  unfolding assumed_guard sides
  assumed_sides n e = assumed_compared (behind_nots g n e).expected (comparison_at g (behind_nots g n e).node)

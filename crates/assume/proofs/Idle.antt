-- A guard refines what it narrows, and does nothing where it narrows nothing. Assumes nothing.
use mathlib.Core.Path.{◌≡◌, refl, sym, ap, ◌∙◌}
use mathlib.Core.Bool.{Bool, true, false, cond, ◌||◌, false≢true}
use mathlib.Core.List.{List}
use Rattle.std.specs.Prelude.{Option, None, Some}
use Prim.Native.Nat.{ℕ, ◌-◌}
use Rattle.word.specs.Option.{only, given}
use Rattle.range.specs.Interval.{Interval}
use Rattle.graph.specs.Layout.{LIMIT}
use Rattle.graph.specs.Node.{type_at, range_at}
use Rattle.graph.specs.Insert.{resolve}
use Rattle.assume.specs.Limits.{Limits, Pair, meet, narrows}
use Rattle.assume.specs.Refine.{Outcome, unchanged, narrowed, Step, step, narrow, refine_step, Assumed, assumed, go_on, refine_up_to, refined}
use Rattle.assume.specs.Assume.{refined_both, assumed_guard}
use Rattle.assume.specs.Narrowing.{narrows_at, narrows_either, narrowing}
use Rattle.assume.specs.Sides.{Sides, sides}
use Rattle.assume.proofs.Both.{assumed_sides}

module _ (g : List ℕ) where
  -- one node: no step is taken
  step_idle : (n : ℕ) (l : Limits) → narrows_at g n l ≡ false → refine_step g (resolve g n) l ≡ step unchanged None g
  unfolding narrows_at refine_step
  step_idle n l = by (range_at g (resolve g n))
    where
      by : (o : Option Interval) → given o (λ old. narrows (type_at g (resolve g n)) old (meet old l)) false ≡ false
          → given o (λ old. cond (narrows (type_at g (resolve g n)) old (meet old l)) (narrow g (resolve g n) (meet old l)) (step unchanged None g)) (step unchanged None g) ≡ step unchanged None g
      by None e = refl
      by (Some old) e = rw e

  refined_idle : (so : Outcome) (n : ℕ) (l : Limits) → narrows_at g n l ≡ false → refined so g n l ≡ assumed so g
  unfolding refined
  refined_idle so n l e = ap (λ (s : Step). go_on so s.outcome s.next s.words (refine_up_to (LIMIT - 1) narrowed)) (step_idle n l e)

  -- neither of two is narrowed
  neither : (s t : Bool) → s || t ≡ false → (s ≡ false) × (t ≡ false)
  neither true t e = absurd (false≢true (sym e))
  neither false t e = (refl, e)

  both_idle : (a b : ℕ) (p : Pair) → narrows_either g a b p ≡ false → refined_both g a b p ≡ assumed unchanged g
  unfolding narrows_either refined_both
  both_idle a b p e =
      let d = neither (narrows_at g a p.left) (narrows_at g b p.right) e in
      rw (refined_idle unchanged a p.left d.0) (refined_idle unchanged b p.right d.1)

  -- what a guard narrows is what it refines
  abbrev refines : Option Sides → Assumed
  refines o = given o (λ s. refined_both g s.left s.right s.limits) (assumed unchanged g)

  narrows_refines : (o : Option Sides) → refines o ≡ refines (given o (λ s. only (narrows_either g s.left s.right s.limits) s) None)
  narrows_refines None = refl
  narrows_refines (Some s) = by (narrows_either g s.left s.right s.limits) refl
    where
      by : (t : Bool) → narrows_either g s.left s.right s.limits ≡ t → refined_both g s.left s.right s.limits ≡ refines (only t s)
      by true e = refl
      by false e = both_idle s.left s.right s.limits e

  pub guard_narrowing : (n : ℕ) (e : Bool) → assumed_guard g n e ≡ given (narrowing g n e) (λ s. refined_both g s.left s.right s.limits) (assumed unchanged g)
  unfolding narrowing
  guard_narrowing n e = assumed_sides g n e ∙ narrows_refines (sides g n e)

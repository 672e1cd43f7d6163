-- Where chains end, one step at a time; and what a walk gives, by what each of its steps does.
use mathlib.Core.Path.{◌≡◌, refl, sym, ap, ◌∙◌}
use mathlib.Core.Logic.{inl, inr}
use Prim.Native.Nat.{ℕ, zero, suc, ◌+◌, ◌-◌, ◌<◌, ◌≤◌}
use native.Mathlib.Omega.{arith}
use Rattle.std.specs.Prelude.{Option, None, Some}
use Rattle.graph.specs.Layout.{LIMIT}
use Rattle.graph.specs.Chains.{Ends, Walked}

module _ {A : Type 0} (next : A → Option A → Type 0) (n k : ℕ) where
  pub ends_here : (a : A) → k < n → next a None → Ends next (n - k) a a
  ends_here a h p = let e : n - k ≡ suc (n - (k + 1)) = omega arith in rw e (inl (p, refl))

  pub ends_on : (a b z : A) → k < n → next a (Some b) → Ends next (n - (k + 1)) b z → Ends next (n - k) a z
  ends_on a b z h p w = let e : n - k ≡ suc (n - (k + 1)) = omega arith in rw e (inr (b, p, w))

  pub ends_last : (a : A) → n ≤ k → Ends next (n - k) a a
  ends_last a h = let e : n - k ≡ 0 = omega arith in rw e refl

module _ {A B : Type 0} (next : A → Option A → Type 0) (view : A → B) (f : ℕ → A → B)
    (none : (a : A) → f zero a ≡ view a)
    (stop : (k : ℕ) (a : A) → next a None → f (suc k) a ≡ view a)
    (on : (k : ℕ) (a b : A) → next a (Some b) → f (suc k) a ≡ f k b) where
  -- by the steps that are left
  ends_as : (k : ℕ) (a z : A) → Ends next k a z → view z ≡ f k a
  ends_as zero a z e = ap view e ∙ sym (none a)
  ends_as (suc k) a z (inl w) = ap view w.1 ∙ sym (stop k a w.0)
  ends_as (suc k) a z (inr w) = ends_as k w.0 z w.2 ∙ sym (on k a w.0 w.1)

  pub walked_as : (a z : A) → Walked next a z → view z ≡ f LIMIT a
  unfolding Walked
  walked_as a z w = ends_as LIMIT a z w

-- What a guard leaves of its region: on every region the keys of the nodes that were there; on a graph, a graph. Assumes nothing.
use mathlib.Core.Path.{◌≡◌, refl}
use mathlib.Core.Bool.{Bool, true, false, cond}
use mathlib.Core.List.{List, [], ◌∷◌}
use Prim.Native.Nat.{ℕ, ◌<◌}
use lib.Dec.{ltb}
use borrow.Author.Tests.{ltb-true}
use Rattle.range.proofs.Sound.{tests}
use Rattle.answer.specs.declared.Refusal.{Refusal}
use Rattle.answer.specs.declared.Refusal.TheVariants as no
use Rattle.graph.specs.Layout.{count_of}
use Rattle.graph.specs.WellFormed.{is_graph}
use Rattle.graph.specs.Alias.{Same}
use Rattle.graph.proofs.Words.{Words}
use Rattle.assume.specs.Refine as refine
use Rattle.assume.specs.Refine.{Outcome}
use Rattle.assume.specs.Assume.{assumed_guard}
use Rattle.assume.proofs.Same.{assumed_same}
use Rattle.assume.proofs.Grows.{assumed-grows}
use Rattle.request.specs.Request.{all_below, typed, guard}
use Rattle.native.specs.Call.{Called, is_refused}
use Rattle.native.specs.Perform.{guard_out, worked, finished, performed, request_in_graph}

-- what holds of the region and of what assuming the condition leaves holds after the call
module _ (P : List ℕ → Type 0) (g : List ℕ) (n : ℕ) (e : Bool) (here : P g) (after : n < count_of g → P (assumed_guard g n e).words) where
  -- whichever answer a question has
  either : (t : Bool) (c d : Called) → (t ≡ true → P c.words) → P d.words → P (cond t c d).words
  either true c d p q = p refl
  either false c d p q = q

  out : (full : Refusal) (o : Outcome) (h : List ℕ) → P h → P (guard_out full g o h).words
  out full refine.unchanged h p = p
  out full refine.narrowed h p = p
  out full refine.full h p = here

  done : (c : Called) → P c.words → P (finished g c).words
  done c p = by (is_refused c.answer)
    where
      by : (t : Bool) → P (cond t g c.words)
      by true = here
      by false = p

  pub guard_leaves : P (request_in_graph g (guard n e)).words
  unfolding request_in_graph performed worked
  guard_leaves =
      either (all_below (count_of g) (n ∷ [])) _ _
      (λ b.
      either (typed g (guard n e)) _ _
      (λ c.
      done (worked no.Room g (guard n e))
      (out no.Room (assumed_guard g n e).outcome (assumed_guard g n e).words (after (ltb-true n (count_of g) (tests (ltb n (count_of g)) _ b).0))))
      here)
      here

-- the keys stay
pub guard_same : {k : ℕ} {g h : List ℕ} → Same k g h → (n : ℕ) (e : Bool) → Same k g (request_in_graph h (guard n e)).words
guard_same {k} {g} {h} s n e = guard_leaves (Same k g) h n e s (λ l. assumed_same s n e)

-- a graph stays a graph
pub guard-graph : (g : List ℕ) (n : ℕ) (e : Bool) → is_graph g ≡ true → Words g
    → (is_graph (request_in_graph g (guard n e)).words ≡ true) × Words (request_in_graph g (guard n e)).words
guard-graph g n e p w =
    guard_leaves (λ h. (is_graph h ≡ true) × Words h) g n e (p, w) (λ l. let a = assumed-grows g p w n l e in (a.graph, a.words))

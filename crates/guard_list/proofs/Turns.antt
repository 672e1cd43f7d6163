-- Guards one after the other: a guard at its turn, and what is left of a list. Assumes nothing.
use mathlib.Core.Path.{◌≡◌, refl, sym, ap, subst, ◌∙◌}
use mathlib.Core.Bool.{Bool, true, false, cond, false≢true}
use mathlib.Core.List.{List}
use Prim.Native.Nat.{ℕ, suc, ◌<◌}
use native.Mathlib.Omega.{arith}
use lib.Dec.{eqb}
use lib.ListN.{length, get_or, drop}
use Rattle.std.specs.Prelude.{Option, None, Some, is_some, Ok}
use lib.Seq.{drop-cons}
use Rattle.answer.specs.declared.Refusal.{Refusal}
use Rattle.answer.specs.declared.Refusal.TheVariants as no
use Rattle.assume.specs.declared.Outcome as declared
use Rattle.assume.specs.declared.Outcome.TheVariants as outcomes
use Rattle.assume.specs.Refine.{Outcome, unchanged, outcome_of, Assumed, assumed}
use Rattle.assume.specs.Assume.{refined_both, assumed_guard}
use Rattle.assume.specs.Narrowing.{narrowing}
use Rattle.assume.specs.declared.Sides as sides
use Rattle.assume.specs.Sides.{Sides, sides_of}
use Rattle.assume.proofs.Idle.{guard_narrowing}
use Rattle.graph.specs.WellFormed.{is_graph}
use Rattle.graph.proofs.Words.{Words}
use Rattle.request.specs.Request.{Request, guard}
use Rattle.native.specs.Call.{Called, called, done, refused, is_refused}
use Rattle.native.specs.Perform.{guard_out, worked, asked, finished, performed, request_in_graph}
use Rattle.guard_list.proofs.Asked.{asked_yes, asked_no}
use Rattle.native.proofs.Guards.{guard-graph}
use Rattle.guard_list.specs.GuardList.{guards_of, in_turn}

-- ---- a guard at its turn

module _ (g : List ℕ) (n : ℕ) (e : Bool) where
  -- a question is answered no
  pub asked_refused : (r : Refusal) → called (refused r) g ≡ asked g (guard n e) (called done g) → called (refused r) g ≡ request_in_graph g (guard n e)
  unfolding request_in_graph performed
  asked_refused r q = sym (asked_no g (finished g (worked no.Room g (guard n e))) (guard n e) r (sym q))

  -- each is answered yes: it does what assuming the condition does
  pub asked_done : (o : Outcome) (h : List ℕ) → called done g ≡ asked g (guard n e) (called done g) → assumed o h ≡ assumed_guard g n e
      → finished g (guard_out no.Room g o h) ≡ request_in_graph g (guard n e)
  unfolding request_in_graph performed worked
  asked_done o h q a =
      ap (λ (x : Assumed). finished g (guard_out no.Room g x.outcome x.words)) a
      ∙ sym (asked_yes g (finished g (worked no.Room g (guard n e))) (guard n e) (sym q))

  -- what it narrows is refined, and nothing is done where it narrows nothing
  pub narrows_none : None ≡ narrowing g n e → assumed unchanged g ≡ assumed_guard g n e
  narrows_none q = sym (guard_narrowing g n e ∙ rw (← q))

  pub narrows_some : (s : Sides) → Some s ≡ narrowing g n e → refined_both g s.left s.right s.limits ≡ assumed_guard g n e
  narrows_some s q = sym (guard_narrowing g n e ∙ rw (← q))

  -- a guard that narrows nothing is done, and leaves the region
  pub idle_done : (o : Option sides.Sides) → called done g ≡ asked g (guard n e) (called done g) → false ≡ is_some o → sides_of o ≡ narrowing g n e
      → called done g ≡ request_in_graph g (guard n e)
  idle_done None q i s = asked_done unchanged g q (narrows_none s)
  idle_done (Some x) q i s = absurd (false≢true i)

  -- with room for its nodes it is done
  pub room_is : (x : declared.Outcome) (h : List ℕ) → guard_out no.Room g (outcome_of (Ok x)) h ≡ called done h
  room_is outcomes.Unchanged h = refl
  room_is outcomes.Narrowed h = refl

-- ---- what is left of a list

-- cs are the conditions, es the answers; the guards from n on are left, on the region h
module _ (h cs es : List ℕ) (n : ℕ) (even : length es ≡ length cs) where
  abbrev rest : ℕ → List ℕ → Called
  rest k w = in_turn w (guards_of (drop k cs) (drop k es))

  -- the next one, a condition x with an answer y
  module _ (l : n < length cs) (x y : ℕ) (left : x ≡ get_or cs n 0) (right : y ≡ get_or es n 0) where
    abbrev next : Request
    next = guard x (eqb y 1)

    one : rest n h ≡ cond (is_refused (request_in_graph h next).answer) (request_in_graph h next) (rest (suc n) (request_in_graph h next).words)
    one =
        rw (left, right)
        (λ i. in_turn h (guards_of (drop-cons cs n 0 l i) (drop-cons es n 0 (omega (arith, l, even)) i)))

    -- it is refused
    pub turn_refused : (r : Refusal) (k : List ℕ) → called (refused r) k ≡ request_in_graph h next → rest n h ≡ called (refused r) k
    turn_refused r k e = one ∙ rw (← e)

    -- it is not
    pub turn_on : (k : List ℕ) → called done k ≡ request_in_graph h next → rest n h ≡ rest (suc n) k
    turn_on k e = one ∙ rw (← e)

-- ---- a guard that is done leaves a graph

pub next_graph : (g h : List ℕ) (n : ℕ) (e : Bool) → is_graph g ≡ true → Words g → called done h ≡ request_in_graph g (guard n e)
    → (is_graph h ≡ true) × Words h
next_graph g h n e p w q =
    subst (λ (x : Called). (is_graph x.words ≡ true) × Words x.words) (sym q) (guard-graph g n e p w)

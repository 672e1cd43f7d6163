-- Demand 3, of every list of calls from the empty graph with no mark standing. Assumes nothing.
use mathlib.Core.Path.{◌≡◌, ap}
use mathlib.Core.Bool.{true}
use mathlib.Core.List.{List}
use Prim.Native.Nat.{ℕ, ◌<◌}
use native.Mathlib.Omega.{arith}
use borrow.Author.Tests.{lt-ltb, le-ltb}
use Rattle.graph.specs.Layout.{count_of}
use Rattle.graph.specs.Node.{node_at}
use Rattle.graph.specs.WellFormed.{is_graph}
use Rattle.guard_list.specs.GuardList.{guards_call}
use Rattle.mark.specs.Layout.{MOST, standing}
use Rattle.mark.specs.WellFormed.{is_marked}
use Rattle.mark.specs.Mark as marking
use Rattle.mark.specs.Mark.{mark_call, mark_in_graph, return_call, return_in_graph}
use Rattle.mark.proofs.Facts.{both_marked, facts_marks}
use Rattle.meaning.specs.Value.{Env}
use Rattle.meaning.specs.Book.{Action, History, play, Unmarked, AllMet, Demand3, Renumbers, Marks, Singly}
use Rattle.meaning.proofs.Builders.{builds}
use Rattle.meaning.proofs.Mapping.{renumbers, kept_value, marked-retain}
use Rattle.meaning.proofs.Play.{Whole, Listed, play_whole, guards_are}
use Rattle.meaning.proofs.Tested.{range_sound}

module _ (ρ : Env) (m : List ℕ) (None : Unmarked m) (calls : List Action) where
  -- what the calls leave
  abbrev end : History
  end = play ρ m calls

  -- the invariant, and every line right where the conditions are met, now and at each mark that stands
  pub whole : Whole ρ (play ρ m calls)
  whole = play_whole builds (λ w. range_sound w (builds w)) ρ m None calls

  -- ---- whatever the values

  -- the graph passes question 1
  pub grown-graph : is_graph (play ρ m calls).now.graph ≡ true
  grown-graph = whole.now.0.graph

  -- and so do its marks
  pub grown-marked : is_marked (play ρ m calls).now.graph (play ρ m calls).marks ≡ true
  grown-marked = both_marked end.now.graph end.marks grown-graph (facts_marks (count_of end.now.graph) end.marks whole.marks)

  -- no two nodes have one type, range and operation
  pub grown_keys : (n k : ℕ) → n < k → k < count_of (play ρ m calls).now.graph
      → node_at (play ρ m calls).now.graph n ≡ node_at (play ρ m calls).now.graph k → ⊥
  grown_keys = whole.now.0.keys

  -- a mark is answered by its number, and a return is refused only if its mark doesn't stand
  pub grown-marks : Marks (play ρ m calls)
  unfolding mark_call mark_in_graph return_call return_in_graph
  grown-marks =
      let e = whole.standing in
      record {
        set = λ l. rw (grown-marked, lt-ltb (standing end.marks) MOST (omega (arith, e))) (ap marking.number e);
        full = λ l. rw (grown-marked, le-ltb (standing end.marks) MOST (omega (arith, e)));
        back = λ k l. rw (grown-marked, lt-ltb k (standing end.marks) (omega (arith, e)));
        gone = λ k l. rw (grown-marked, le-ltb k (standing end.marks) (omega (arith, e)));
      }

  -- a list of guards is answered as its single guards are, and leaves what they leave, or, refused, what it found
  pub grown-guards : Singly ρ (play ρ m calls)
  grown-guards = record {
    answer = λ cs es. (are cs es).0;
    other = λ cs es. (are cs es).1;
    done = λ cs es. (are cs es).2;
    refused = λ cs es. (are cs es).3;
  }
    where
      are : (cs es : List ℕ) → Listed builds (λ w. range_sound w (builds w)) ρ cs es end.now (guards_call end.now.graph cs es)
      are cs es = guards_are builds (λ w. range_sound w (builds w)) ρ cs es end.now whole.now

  -- the mapping of a retain that isn't refused is the book's renumbering
  pub demand3_mappings : Renumbers (play ρ m calls)
  demand3_mappings keep mapping k q =
      let e = marked-retain end.now.graph end.marks keep mapping grown-marked in
      rw e (renumbers keep end.now.graph mapping k (rw e at q))

  -- ---- for all values that meet every condition

  -- lines are right, values lie in their nodes' ranges, and what a retain keeps means what it meant
  pub demand3 : AllMet ρ (play ρ m calls).now.book.conditions → Demand3 ρ (play ρ m calls)
  demand3 met = record {
    lines = whole.now.1 met;
    ranges = λ n l. whole.now.0.ranged n l met;
    retained = λ keep mapping k q n l h.
        let e = marked-retain end.now.graph end.marks keep mapping grown-marked in
        rw e (kept_value keep end.now.graph mapping k (rw e at q) whole.now.0 n l h);
  }

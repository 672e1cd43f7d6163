-- Question 1 of a graph with its marks is kept by mark, by every return and by retain, on all regions that pass it. Assumes nothing.
use mathlib.Core.Path.{◌≡◌, refl, ◌∙◌}
use mathlib.Core.Bool.{Bool, true, false}
use mathlib.Core.List.{List}
use Prim.Native.Nat.{ℕ, ◌+◌}
use borrow.Author.Tests.{ltb-true}
use lib.Dec.{ltb}
use Rattle.graph.specs.Layout.{count_of}
use Rattle.retain.specs.Retain.{is_keep_list, retained}
use Rattle.retain.proofs.Grown.{retained-graph}
use Rattle.retain.proofs.Operands.{keep_list_facts}
use Rattle.native.specs.Retain as unmarking
use Rattle.mark.specs.Layout.{MOST, standing}
use Rattle.mark.specs.WellFormed.{is_marked}
use Rattle.mark.specs.Mark.{standing_only, marked, returned, mark_call, mark_in_graph, return_call, return_in_graph, retain_call, retain_in_graph}
use Rattle.mark.proofs.Facts.{facts_marks, marked_both, both_marked, regions_facts}
use Rattle.mark.proofs.Marks.{standing-length, standing_is}
use Rattle.mark.proofs.Moved.{marked-marks, returned-graph, returned-marks, none-marks}

module _ (g m : List ℕ) (e : is_marked g m ≡ true) where
  pub mark_keeps : is_marked g (mark_call g m).marks ≡ true
  unfolding mark_call mark_in_graph
  mark_keeps = rw e (by (ltb (standing m) MOST) refl)
    where
      by : (t : Bool) → ltb (standing m) MOST ≡ t → is_marked g (mark_in_graph g m).marks ≡ true
      by true q =
          let d = regions_facts g m e in
          rw q (both_marked g (marked g m (standing m)) (marked_both g m e).0
          (facts_marks (count_of g) (marked g m (standing m)) (marked-marks g m d.0 d.1 (ltb-true (standing m) MOST q))))
      by false q = rw q e

  pub return_keeps : (k : ℕ) → is_marked (return_call g m k).words (return_call g m k).marks ≡ true
  unfolding return_call return_in_graph
  return_keeps k = rw e (by (ltb k (standing m)) refl)
    where
      by : (t : Bool) → ltb k (standing m) ≡ t → is_marked (return_in_graph g m k).words (return_in_graph g m k).marks ≡ true
      by true q =
          let d = regions_facts g m e in
          let l = ltb-true k (standing m) q in
          rw q (both_marked (returned g m k) (standing_only (k + 1) m) (returned-graph g m d.0 d.1 k l)
          (facts_marks (count_of (returned g m k)) (standing_only (k + 1) m) (returned-marks g m d.0 d.1 k l)))
      by false q = rw q e

  pub retain_keeps : (keep mapping : List ℕ) → is_marked (retain_call g m keep mapping).retention.words (retain_call g m keep mapping).marks ≡ true
  unfolding retain_call retain_in_graph unmarking.retain_in_graph
  retain_keeps keep mapping = rw e (by (is_keep_list g keep mapping) refl)
    where
      by : (t : Bool) → is_keep_list g keep mapping ≡ t → is_marked (retain_in_graph g m keep mapping).retention.words (retain_in_graph g m keep mapping).marks ≡ true
      by true q =
          let d = regions_facts g m e in
          rw q (both_marked (retained g keep) (standing_only 0 m) (retained-graph d.0 (keep_list_facts g keep mapping q))
          (facts_marks (count_of (retained g keep)) (standing_only 0 m)
          (none-marks (count_of (retained g keep)) (standing_only 0 m) (standing-length 0 m ∙ d.1.length) (standing_is 0 m d.1.length))))
      by false q = rw q e

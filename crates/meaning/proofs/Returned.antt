-- A return to a mark gives back the graph that was marked, every word, whatever calls stand between that leave the mark. Assumes nothing.
use mathlib.Core.Path.{◌≡◌, refl, ◌∙◌, subst}
use mathlib.Core.Bool.{Bool, true, false}
use mathlib.Core.List.{List, [], ◌∷◌}
use Prim.Native.Nat.{ℕ, ◌+◌, ◌<◌, ◌≤◌}
use native.Mathlib.Omega.{arith}
use borrow.Author.Tests.{ltb-true, lt-ltb}
use lib.Dec.{ltb}
use lib.ListN.{get_or}
use Rattle.graph.specs.Layout.{count_of}
use Rattle.graph.specs.Node.{alias_at}
use Rattle.graph.specs.WellFormed.{is_graph}
use Rattle.graph.proofs.Grown.{Graph}
use Rattle.graph.proofs.Restored.{same_self}
use Rattle.graph.specs.Alias.{Same}
use Rattle.graph.proofs.Earlier.{same_then}
use Rattle.native.specs.Call as calls
use Rattle.native.specs.Perform.{request_call}
use Rattle.native.specs.Retain as retaining
use Rattle.native.specs.Retain.{retention, retain_in_graph}
use Rattle.request.specs.Request.{Request}
use Rattle.guard_list.specs.GuardList.{guards_call}
use Rattle.guard_list.proofs.Kept.{guards_same}
use Rattle.mark.specs.Layout.{MOST, standing, count_at, aliases_at}
use Rattle.mark.specs.WellFormed.{is_marked}
use Rattle.mark.specs.Mark as marks
use Rattle.mark.specs.Mark.{Returning, Retaining, standing_only, marked, mark_call, mark_in_graph, return_call, return_in_graph}
use Rattle.mark.proofs.Facts.{regions_facts}
use Rattle.mark.proofs.Marks.{Stands, standing_is, standing_stands, marked-standing, marked-count, marked_alias, marked_stands, returned_is}
use Rattle.mark.proofs.Moved.{returned_same}
use Rattle.mark.proofs.Requests.{request_same}
use Rattle.meaning.specs.Book.{Action, request, retain, mark, return_to, guards, patterned}
use Rattle.meaning.specs.Marks.{Regions, left, left_by, Spares, AllSpare, after}
use Rattle.meaning.proofs.Answers.{by_test}

-- mark n of these regions is of the graph g, whose nodes stand in the graph's region
record Holds (g : List ℕ) (n : ℕ) (r : Regions) : Type 0 where
  same : Same (count_of g) g r.graph
  stands : n < standing r.marks
  count : count_at r.marks n ≡ count_of g
  words : (i : ℕ) → i < count_of g → get_or (aliases_at r.marks n) i 0 ≡ alias_at g i

module _ (g : List ℕ) (f : Graph g) (n : ℕ) (r : Regions) (h : Holds g n r) where
  -- regions in which the mark stands
  moved : (s : Regions) → Same (count_of g) g s.graph → n < standing s.marks → Stands r.marks s.marks n → Holds g n s
  moved s same l k = search arith

  itself : Stands r.marks r.marks n
  itself = record { count = refl; words = λ i l. refl }

  request_holds : (q : Request) → Holds g n (record { graph = (request_call r.graph q).words; marks = r.marks })
  unfolding request_call
  request_holds q = by (is_graph r.graph) refl
    where
      by : (t : Bool) → is_graph r.graph ≡ t → Holds g n (record { graph = (request_call r.graph q).words; marks = r.marks })
      by true e =
          moved (record { graph = (request_call r.graph q).words; marks = r.marks }) (same_then h.same h.same.more (request_same r.graph q e)) h.stands itself
      by false e = rw e h

  guards_holds : (cs es : List ℕ) → Holds g n (left (guards cs es) r)
  unfolding guards_call
  guards_holds cs es = by (is_graph r.graph) refl
    where
      by : (t : Bool) → is_graph r.graph ≡ t → Holds g n (left (guards cs es) r)
      by true e = moved (left (guards cs es) r) (same_then h.same h.same.more (guards_same r.graph cs es e)) h.stands itself
      by false e = rw e h

  -- a mark that was set after it
  set_holds : is_marked r.graph r.marks ≡ true → standing r.marks < MOST
      → Holds g n (record { graph = r.graph; marks = marked r.graph r.marks (standing r.marks) })
  set_holds e l =
      let d = regions_facts r.graph r.marks e in
      let m = r.marks in
      let k = standing m in
      moved (record { graph = r.graph; marks = marked r.graph m k }) h.same
      (omega (arith, marked-standing r.graph m k d.0 d.1.length l, h.stands))
      (marked_stands r.graph m k d.0 d.1.length l n h.stands)

  mark_holds : Holds g n (left mark r)
  unfolding mark_call mark_in_graph
  mark_holds = search (arith, by_test, set_holds, ltb-true)

  -- a return to it or to a later one
  back_holds : (k : ℕ) → is_marked r.graph r.marks ≡ true → k < standing r.marks → n ≤ k
      → Holds g n (record { graph = marks.returned r.graph r.marks k; marks = standing_only (k + 1) r.marks })
  back_holds k e l p =
      let d = regions_facts r.graph r.marks e in
      let q = d.1.first.rising n k p l in
      moved (record { graph = marks.returned r.graph r.marks k; marks = standing_only (k + 1) r.marks })
      (same_then h.same (omega (arith, q, h.count)) (returned_same r.graph r.marks d.0 d.1 k l))
      (omega (arith, standing_is (k + 1) r.marks d.1.length))
      (standing_stands (k + 1) r.marks n)

  return_holds : (k : ℕ) → ((return_call r.graph r.marks k).answer ≡ calls.done → n ≤ k) → Holds g n (left (return_to k) r)
  unfolding return_call return_in_graph
  return_holds k =
      by_test (λ (c : Returning). (c.answer ≡ calls.done → n ≤ k) → Holds g n (record { graph = c.words; marks = c.marks })) (is_marked r.graph r.marks)
      (λ e.
      by_test (λ (c : Returning). (c.answer ≡ calls.done → n ≤ k) → Holds g n (record { graph = c.words; marks = c.marks })) (ltb k (standing r.marks))
      (λ l p. back_holds k e (ltb-true k (standing r.marks) l) (p refl)) (λ l p. h))
      (λ e p. h)

  abbrev Refused : Retaining → Type 0
  Refused c = (k : ℕ) → c.retention.outcome ≡ retaining.kept k → ⊥

  -- a retain that is refused
  retain_holds : (keep mapping : List ℕ)
      → ((k : ℕ) → (marks.retain_call r.graph r.marks keep mapping).retention.outcome ≡ retaining.kept k → ⊥) → Holds g n (left (retain keep mapping) r)
  unfolding marks.retain_call marks.retain_in_graph retain_in_graph
  retain_holds keep mapping = search (arith, by_test)

  left_holds : (a : Action) → Spares n r a → Holds g n (left a r)
  left_holds (request q) s = request_holds (patterned q)
  left_holds (retain keep mapping) s = retain_holds keep mapping s
  left_holds mark s = mark_holds
  left_holds (guards cs es) s = guards_holds cs es
  left_holds (return_to k) s = return_holds k s

-- some calls
all_hold : (g : List ℕ) (f : Graph g) (n : ℕ) (r : Regions) → Holds g n r → (list : List Action) → AllSpare n r list → Holds g n (left_by list r)
all_hold g f n r h [] s = h
all_hold g f n r h (a ∷ before) s = left_holds g f n (left_by before r) (all_hold g f n r h before s.0) a s.1

-- ---- from the mark on

-- the number that a mark was answered with
pub mark-number : (g m : List ℕ) (n : ℕ) → (mark_call g m).answer ≡ marks.number n → (is_marked g m ≡ true) × (standing m < MOST) × (standing m ≡ n)
unfolding mark_call mark_in_graph
mark-number g m n = search (arith, by_test, ltb-true)

-- what it leaves of the marks' region
mark-marks : (g m : List ℕ) → is_marked g m ≡ true → standing m < MOST → (mark_call g m).marks ≡ marked g m (standing m)
unfolding mark_call mark_in_graph
mark-marks g m e l = rw (e, lt-ltb (standing m) MOST l)

-- a mark that was set holds its graph
marked_holds : (g m : List ℕ) (n : ℕ) → (mark_call g m).answer ≡ marks.number n → Graph g × Holds g n (after g m)
marked_holds g m n q =
    let t = mark-number g m n q in
    let d = regions_facts g m t.0 in
    let k = standing m in (
      d.0,
      subst (λ (j : ℕ). Holds g j (after g m)) t.2 (rw (mark-marks g m t.0 t.1) (record {
        same = same_self g d.0;
        stands = omega (arith, marked-standing g m k d.0 d.1.length t.1);
        count = marked-count g m k d.0 d.1.length t.1;
        words = marked_alias g m k d.0 d.1.length t.1;
      })),
    )

-- what a return that isn't refused leaves of the graph's region
done_words : (g m : List ℕ) (n : ℕ) → (return_call g m n).answer ≡ calls.done → (return_call g m n).words ≡ marks.returned g m n
unfolding return_call return_in_graph
done_words g m n = search (arith, by_test)

-- a mark set on any regions that pass question 1, and any calls after it that leave it standing: a return to it that isn't refused gives
-- back the region, word for word
pub returned : (g m : List ℕ) (n : ℕ) → (mark_call g m).answer ≡ marks.number n → (list : List Action) → AllSpare n (after g m) list
    → (return_call (left_by list (after g m)).graph (left_by list (after g m)).marks n).answer ≡ calls.done
    → (return_call (left_by list (after g m)).graph (left_by list (after g m)).marks n).words ≡ g
returned g m n e list s q =
    let d = marked_holds g m n e in
    let r = left_by list (after g m) in
    let h = all_hold g d.0 n (after g m) d.1 list s in
    done_words r.graph r.marks n q ∙ returned_is g r.graph r.marks n d.0 h.same h.count h.words

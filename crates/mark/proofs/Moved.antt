-- The calls on a graph with its marks: each leaves a graph with its marks, and the graph of every mark that stands is what it was. Assumes nothing.
use mathlib.Core.Path.{◌≡◌, refl, ◌∙◌, subst}
use mathlib.Core.Bool.{true}
use mathlib.Core.List.{List}
use mathlib.Core.Logic.{⊎_elim}
use Prim.Native.Nat.{ℕ, suc, ◌+◌, ◌<◌, ◌≤◌}
use native.Mathlib.Nat.{le_refl}
use native.Mathlib.Omega.{arith}
use lib.ListN.{length, get_or}
use Rattle.word.proofs.Integer.{lt-or-ge}
use Rattle.range.proofs.Sound.{tests}
use Rattle.graph.specs.Layout.{TYPE, WIDTH, RANGE, MIN, MAX, LIMIT, word_at, count_of}
use Rattle.graph.specs.Node.{pair, alias_at}
use Rattle.graph.specs.WellFormed.{is_type, is_range, is_alias, is_graph}
use Rattle.graph.proofs.Grown.{Graph}
use Rattle.graph.proofs.Restored.{same_self, restored-count}
use Rattle.graph.specs.Alias.{Same}
use Rattle.graph.proofs.Earlier.{same_fewer, restored_same, restored-is_graph}
use Rattle.mark.specs.Layout.{MOST, MARKS, standing, count_at, aliases_at}
use Rattle.mark.specs.Mark.{standing_only, marked, returned}
use Rattle.mark.proofs.Facts.{First, Marks, marks_more}
use Rattle.mark.proofs.Marks.{first_stands, standing-length, standing_is, standing_stands, marked-length, marked-standing, marked-count, marked_alias, marked_stands, returned_alike, returned_is}

-- ---- a call that keeps the keys of the graph's nodes

module _ (g h m : List ℕ) (f : Graph g) (a : Marks (count_of g) m) (same : Same (count_of g) g h) where
  pub kept_marks : Marks (count_of h) m
  kept_marks = marks_more (count_of h) same.more a

  pub kept_returned : (k : ℕ) → k < standing m → returned h m k ≡ returned g m k
  kept_returned k l =
      let p = a.first.fewer k l in
      returned_alike g h m m k f.length (omega (arith, p, f.count)) (same_fewer (count_at m k) p same) (record { count = refl; words = λ i q. refl })

-- ---- mark

module _ (g m : List ℕ) (f : Graph g) (a : Marks (count_of g) m) (room : standing m < MOST) where
  abbrev s : ℕ
  s = standing m

  abbrev n : List ℕ
  n = marked g m s

  -- the alias words of a graph pass
  passes : (i : ℕ) → i < count_of g → is_alias i (count_of g) (alias_at g i) ≡ true
  passes i l =
      let d = tests (is_type (word_at g i TYPE) (word_at g i WIDTH)) _ (f.node i l) in
      let e = tests (is_range (word_at g i TYPE) (word_at g i WIDTH) (word_at g i RANGE) (pair (word_at g i MIN) (word_at g i (MIN + 1))) (pair (word_at g i MAX) (word_at g i (MAX + 1)))) _ d.1 in
      (tests (is_alias i (count_of g) (alias_at g i)) _ e.1).0

  all : First (count_of g) n (suc s)
  all =
      let b = first_stands m n f.count (λ j l. marked_stands g m s f a.length room j l) a.first in
      let c = marked-count g m s f a.length room in
      record {
        fewer = λ k l. ⊎_elim (b.fewer k) (λ (q : s ≤ k). let e : s ≡ k = omega arith in subst (λ (j : ℕ). count_at n j ≤ count_of g) e (omega (arith, c))) (lt-or-ge k s);
        rising = λ j k p l.
            ⊎_elim (b.rising j k p)
            (λ (q : s ≤ k).
            let e : s ≡ k = omega arith in
            subst (λ (i : ℕ). count_at n j ≤ count_at n i) e
            (⊎_elim (λ (r : j < s). let d = b.fewer j r in omega (arith, c))
            (λ (r : s ≤ j). let d : s ≡ j = omega arith in subst (λ (i : ℕ). count_at n i ≤ count_at n s) d (le_refl (count_at n s))) (lt-or-ge j s)))
            (lt-or-ge k s);
        aliases = λ k l.
            ⊎_elim (b.aliases k)
            (λ (q : s ≤ k).
            let e : s ≡ k = omega arith in
            subst (λ (j : ℕ). (i : ℕ) → i < count_at n j → is_alias i (count_at n j) (get_or (aliases_at n j) i 0) ≡ true) e
            (λ i r. rw (c, marked_alias g m s f a.length room i (omega (arith, c))) (passes i (omega (arith, c)))))
            (lt-or-ge k s);
      }

  pub marked-marks : Marks (count_of g) (marked g m (standing m))
  marked-marks =
      let e : standing n ≡ suc s = marked-standing g m s f a.length room ∙ omega arith in
      record {
        length = marked-length g m s f a.length room;
        most = omega (arith, e, room);
        first = rw e all;
      }

  -- a return to it gives the graph back, in whatever its nodes have become
  pub marked-returned : (h : List ℕ) → Same (count_of g) g h → returned h (marked g m (standing m)) (standing m) ≡ g
  marked-returned h same =
      returned_is g h n s f same (marked-count g m s f a.length room) (marked_alias g m s f a.length room)

  -- a return to an earlier one gives what it gave
  pub marked_earlier : (k : ℕ) → k < standing m → returned g (marked g m (standing m)) k ≡ returned g m k
  marked_earlier k l =
      let p = a.first.fewer k l in
      returned_alike g g m n k f.length (omega (arith, p, f.count)) (same_fewer (count_at m k) p (same_self g f))
      (marked_stands g m s f a.length room k l)

-- ---- return

module _ (g m : List ℕ) (f : Graph g) (a : Marks (count_of g) m) (k : ℕ) (here : k < standing m) where
  few : count_at m k ≤ count_of g
  few = a.first.fewer k here

  most : count_at m k ≤ LIMIT
  most = omega (arith, few, f.count)

  pub returned_same : Same (count_at m k) g (returned g m k)
  unfolding returned
  returned_same = restored_same (count_at m k) (aliases_at m k) g f.length most

  pub returned-count : count_of (returned g m k) ≡ count_at m k
  unfolding returned
  returned-count = restored-count (count_at m k) (aliases_at m k) g (omega (arith, f.length, most))

  pub returned-graph : is_graph (returned g m k) ≡ true
  unfolding returned
  returned-graph = restored-is_graph (count_at m k) (aliases_at m k) g f few (a.first.aliases k here)

  -- the marks that are left are marks of the graph that is left
  pub returned-marks : Marks (count_of (returned g m k)) (standing_only (k + 1) m)
  returned-marks =
      let n = standing_only (k + 1) m in
      let e : standing n ≡ k + 1 = standing_is (k + 1) m a.length in
      let first : First (count_at m k) m (k + 1) = record {
        fewer = λ j l. a.first.rising j k (omega arith) here;
        rising = λ i j p l. a.first.rising i j p (omega (arith, here));
        aliases = λ j l. a.first.aliases j (omega (arith, here));
      } in
      record {
        length = standing-length (k + 1) m ∙ a.length;
        most = omega (arith, e, here, a.most);
        first = rw (e, returned-count) (first_stands m n most (λ j l. standing_stands (k + 1) m j) first);
      }

  -- a return to one of them gives what it gave
  pub returned_earlier : (j : ℕ) → j ≤ k → returned (returned g m k) (standing_only (k + 1) m) j ≡ returned g m j
  returned_earlier j l =
      let p = a.first.rising j k l here in
      returned_alike g (returned g m k) m (standing_only (k + 1) m) j f.length (omega (arith, p, most)) (same_fewer (count_at m j) p returned_same)
      (standing_stands (k + 1) m j)

-- ---- retain

-- no mark stands
pub none-marks : (nodes : ℕ) (m : List ℕ) → length m ≡ MARKS → standing m ≡ 0 → Marks nodes m
none-marks nodes m size e = record {
  length = size;
  most = omega (arith, e);
  first = rw e (record { fewer = λ k l. absurd (omega arith); rising = λ j k p l. absurd (omega arith); aliases = λ k l. absurd (omega arith) });
}

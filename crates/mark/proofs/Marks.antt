-- The words of the marks' region after a mark was set or marks were dropped: the other marks stand as they were. Assumes nothing.
use mathlib.Core.Path.{◌≡◌, refl, sym, ap, ◌∙◌}
use mathlib.Core.List.{List, ◌++◌}
use Prim.Native.Nat.{ℕ, ◌+◌, ◌<◌, ◌≤◌}
use native.Mathlib.Nat.{le_refl}
use native.Mathlib.Omega.{arith}
use lib.ListN.{length, get_or, set, take, drop, length-set, length-append, length-drop, get_or-append}
use lib.Seq.{get_or-set_same, get_or-set_other, get_or-take, get_or-drop, get_or-append-add, length-take-le}
use Rattle.graph.specs.Layout.{LIMIT, REGION, count_of}
use Rattle.graph.specs.Node.{alias_at}
use Rattle.graph.specs.Alias.{saved, restored, Same}
use Rattle.graph.proofs.Grown.{Graph}
use Rattle.graph.proofs.Restored.{saved-words, saved-length, restored_alike, restored_is}
use Rattle.mark.specs.Layout.{MOST, MARKS, mark_start, standing, count_at, aliases_at}
use Rattle.mark.specs.Mark.{standing_only, with_aliases, marked, returned}
use Rattle.mark.proofs.Facts.{First}

-- the alias word of node i at mark k
pub alias_word : (m : List ℕ) (k i : ℕ) → i < LIMIT → get_or (aliases_at m k) i 0 ≡ get_or m (mark_start k + 1 + i) 0
alias_word m k i l = get_or-take LIMIT (drop (mark_start k + 1) m) i 0 l ∙ get_or-drop (mark_start k + 1) m i 0

-- there are as many as there can be nodes
pub aliases_length : (m : List ℕ) (k : ℕ) → length m ≡ MARKS → k < MOST → length (aliases_at m k) ≡ LIMIT
aliases_length m k e l = length-take-le LIMIT (drop (mark_start k + 1) m) (omega (arith, e, length-drop (mark_start k + 1) m))

-- mark k of m stands in n
pub record Stands (m n : List ℕ) (k : ℕ) : Type 0 where
  pub count : count_at n k ≡ count_at m k
  pub words : (i : ℕ) → i < LIMIT → get_or (aliases_at n k) i 0 ≡ get_or (aliases_at m k) i 0

-- it stands if its words do
stands_by : (m n : List ℕ) (k : ℕ) → ((i : ℕ) → mark_start k ≤ i → i < mark_start (k + 1) → get_or n i 0 ≡ get_or m i 0) → Stands m n k
stands_by m n k f = record {
  count = f (mark_start k) (le_refl (mark_start k)) (omega arith);
  words = λ i l. alias_word n k i l ∙ f (mark_start k + 1 + i) (omega arith) (omega arith) ∙ sym (alias_word m k i l);
}

-- the first marks of m that stand in n are marks there
pub first_stands : {limit s : ℕ} (m n : List ℕ) → limit ≤ LIMIT → ((k : ℕ) → k < s → Stands m n k) → First limit m s → First limit n s
first_stands m n most f a = record {
  fewer = λ k l. rw (f k l).count (a.fewer k l);
  rising = λ j k p l. rw ((f k l).count, (f j (omega arith)).count) (a.rising j k p l);
  aliases = λ k l i p.
      let q : i < count_at m k = omega (arith, (f k l).count) in
      rw ((f k l).count, (f k l).words i (let b = a.fewer k l in omega arith)) (a.aliases k l i q);
}

-- ---- marks dropped

pub standing-length : (k : ℕ) (m : List ℕ) → length (standing_only k m) ≡ length m
standing-length k m = length-set m 0 k

pub standing_is : (k : ℕ) (m : List ℕ) → length m ≡ MARKS → standing (standing_only k m) ≡ k
standing_is k m e = get_or-set_same m 0 k 0 (omega (arith, e))

pub standing_stands : (j : ℕ) (m : List ℕ) (k : ℕ) → Stands m (standing_only j m) k
standing_stands j m k = stands_by m (standing_only j m) k (λ i p q. get_or-set_other m 0 i j 0 (λ e. omega arith))

-- ---- a mark set

module _ (m : List ℕ) (k : ℕ) (ws : List ℕ) (size : length m ≡ MARKS) (here : k < MOST) (room : length ws ≡ LIMIT) where
  abbrev at : ℕ
  at = mark_start k + 1

  abbrev rest : List ℕ
  rest = drop LIMIT (drop at m)

  front : length (take at m) ≡ at
  front = length-take-le at m (omega (arith, size))

  with_length : length (with_aliases m k ws) ≡ length m
  with_length =
      length-append (take at m) (ws ++ rest)
      ∙ omega (arith, front, length-append ws rest, room, length-drop LIMIT (drop at m), length-drop at m, size)

  -- words before
  with_before : (i : ℕ) → i < at → get_or (with_aliases m k ws) i 0 ≡ get_or m i 0
  with_before i l = get_or-append (take at m) (ws ++ rest) 0 i (omega (arith, front)) ∙ get_or-take at m i 0 l

  -- the alias words
  with_here : (i : ℕ) → i < LIMIT → get_or (with_aliases m k ws) (at + i) 0 ≡ get_or ws i 0
  with_here i l =
      let e : at + i ≡ length (take at m) + i = omega (arith, front) in
      ap (λ (j : ℕ). get_or (with_aliases m k ws) j 0) e ∙ get_or-append-add (take at m) (ws ++ rest) i 0 ∙ get_or-append ws rest 0 i (omega (arith, room))

module _ (g m : List ℕ) (k : ℕ) (f : Graph g) (size : length m ≡ MARKS) (here : k < MOST) where
  unfoldable begun : List ℕ
  begun = set (standing_only (k + 1) m) (mark_start k) (count_of g)

  unfoldable words : List ℕ
  words = saved g (aliases_at begun k)

  begun_length : length begun ≡ MARKS
  unfolding begun
  begun_length = length-set (standing_only (k + 1) m) (mark_start k) (count_of g) ∙ standing-length (k + 1) m ∙ size

  words-length : length words ≡ LIMIT
  unfolding words
  words-length = saved-length g (aliases_at begun k) ∙ aliases_length begun k begun_length here

  is : marked g m k ≡ with_aliases begun k words
  unfolding marked begun words
  is = refl

  pub marked-length : length (marked g m k) ≡ MARKS
  marked-length = rw is (with_length begun k words begun_length here words-length ∙ begun_length)

  before : (i : ℕ) → i < mark_start k + 1 → get_or (marked g m k) i 0 ≡ get_or begun i 0
  before i l = rw is (with_before begun k words begun_length here words-length i l)

  -- it is the last
  pub marked-standing : standing (marked g m k) ≡ k + 1
  unfolding begun
  marked-standing =
      before 0 (omega arith)
      ∙ get_or-set_other (standing_only (k + 1) m) (mark_start k) 0 (count_of g) 0 (λ e. omega arith)
      ∙ standing_is (k + 1) m size

  pub marked-count : count_at (marked g m k) k ≡ count_of g
  unfolding begun
  marked-count =
      before (mark_start k) (omega arith)
      ∙ get_or-set_same (standing_only (k + 1) m) (mark_start k) (count_of g) 0 (omega (arith, standing-length (k + 1) m, size))

  pub marked_alias : (i : ℕ) → i < count_of g → get_or (aliases_at (marked g m k) k) i 0 ≡ alias_at g i
  unfolding words
  marked_alias i l =
      alias_word (marked g m k) k i (omega (arith, f.count))
      ∙ rw is (with_here begun k words begun_length here words-length i (omega (arith, f.count)))
      ∙ saved-words g (aliases_at begun k) (omega (arith, f.count, aliases_length begun k begun_length here)) i l

  -- the marks before it stand
  pub marked_stands : (j : ℕ) → j < k → Stands m (marked g m k) j
  unfolding begun
  marked_stands j l =
      stands_by m (marked g m k) j
      (λ i p q.
      before i (omega arith)
      ∙ get_or-set_other (standing_only (k + 1) m) (mark_start k) i (count_of g) 0 (λ e. omega arith)
      ∙ get_or-set_other m 0 i (k + 1) 0 (λ e. omega arith))

-- what the loop over the alias words leaves, where it was lent n words from the mark's count on
pub marked_by_lem : (g m : List ℕ) (k n c : ℕ) (ys : List ℕ) → n ≡ LIMIT → c ≡ count_of g
    → ys ≡ saved g (take n (drop (mark_start k + 1) (set (set m 0 (k + 1)) (mark_start k) c)))
    → take (mark_start k + 1) (set (set m 0 (k + 1)) (mark_start k) c) ++ (ys ++ drop n (drop (mark_start k + 1) (set (set m 0 (k + 1)) (mark_start k) c))) ≡ marked g m k
unfolding marked
marked_by_lem g m k n c ys e f h = rw (h, e, f)

-- ---- what a return gives back

-- the same of two regions with the same keys, by marks that stand
pub returned_alike : (g h m n : List ℕ) (k : ℕ) → length g ≡ REGION → count_at m k ≤ LIMIT → Same (count_at m k) g h → Stands m n k
    → returned h n k ≡ returned g m k
unfolding returned
returned_alike g h m n k size most same s =
    ap (λ (c : ℕ). restored c (aliases_at n k) h) s.count
    ∙ restored_alike (count_at m k) (aliases_at m k) (aliases_at n k) g h (omega (arith, size, most)) (same.size ∙ sym size) same.key
    (λ i l. s.words i (omega (arith, most)))

-- a graph, of a mark with its nodes and alias words
pub returned_is : (g h n : List ℕ) (k : ℕ) → Graph g → Same (count_of g) g h → count_at n k ≡ count_of g
    → ((i : ℕ) → i < count_of g → get_or (aliases_at n k) i 0 ≡ alias_at g i) → returned h n k ≡ g
unfolding returned
returned_is g h n k f same count words = ap (λ (c : ℕ). restored c (aliases_at n k) h) count ∙ restored_is g h (aliases_at n k) f same words

-- What an insertion keeps: every word of the nodes that were there.
use mathlib.Core.Path.{◌≡◌, refl, ◌∙◌}
use mathlib.Core.Bool.{Bool, true, false}
use mathlib.Core.List.{List}
use Rattle.std.specs.Prelude.{Option, None, Some}
use Prim.Native.Nat.{ℕ, ◌+◌, ◌<◌, ◌≤◌}
use native.Mathlib.Omega.{arith}
use borrow.Author.Tests.{ltb-true}
use lib.Dec.{ltb}
use lib.ListN.{length, get_or}
use lib.Seq.{paste, get_or-set_other}
use Rattle.range.specs.Interval.{Interval}
use Rattle.range.specs.declared.ScalarType.{ScalarType}
use Rattle.graph.specs.Layout.{WORDS, LIMIT, REGION, node_start, count_of}
use Rattle.graph.specs.Node.{Op, words_of}
use Rattle.graph.specs.Insert.{interned, appended, found_or, inserted}
use Rattle.graph.proofs.Nodes.{length-words, appended_made, appended_full, appended-length, appended-count, paste_below}

-- the words of the first n nodes of g stand in h
pub record Kept (n : ℕ) (g h : List ℕ) : Type 0 where
  pub size : length h ≡ REGION
  pub more : n ≤ count_of h
  pub same : (i : ℕ) → 0 < i → i < node_start n → get_or h i 0 ≡ get_or g i 0

appended_kept : (n : ℕ) (g h ws : List ℕ) → length ws ≡ WORDS → Kept n g h → Kept n g (appended h ws).words
appended_kept n g h ws all k = by (ltb (count_of h) LIMIT) refl
  where
    below : count_of h < LIMIT → (i : ℕ) → 0 < i → i < node_start n → get_or (appended h ws).words i 0 ≡ get_or h i 0
    below l i p q =
        let d : i ≡ 0 → ⊥ = λ e. omega arith in
        let f : i < node_start (count_of h) = omega (arith, q, k.more) in
        rw (appended_made h ws l)
        (get_or-set_other (paste h (node_start (count_of h)) ws WORDS) 0 i (count_of h + 1) 0 d
        ∙ paste_below h (node_start (count_of h)) ws WORDS (omega (arith, l, k.size)) (omega (arith, all)) i f)

    by : (t : Bool) → ltb (count_of h) LIMIT ≡ t → Kept n g (appended h ws).words
    by true e =
        let l : count_of h < LIMIT = ltb-true (count_of h) LIMIT e in
        let c : count_of (appended h ws).words ≡ count_of h + 1 = appended-count h ws k.size all l in
        record {
          size = appended-length h ws k.size all l;
          more = omega (arith, c, k.more);
          same = λ i p q. below l i p q ∙ k.same i p q;
        }
    by false e = rw (appended_full h ws e) k

pub inserted_kept : (n : ℕ) (g h : List ℕ) (t : ScalarType) (r : Option Interval) (o : Op) → Kept n g h → Kept n g (inserted h t r o).words
unfolding inserted
inserted_kept n g h t r o k = by (interned h o (words_of t r o))
  where
    by : (x : Option ℕ) → Kept n g (found_or h x (appended h (words_of t r o))).words
    by None = appended_kept n g h (words_of t r o) (length-words t r o) k
    by (Some m) = k

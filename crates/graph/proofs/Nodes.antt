-- Nodes: what a stored node reads, and that the others stay. Assumes nothing.
use mathlib.Core.Path.{◌≡◌, refl, sym, ap, ◌∙◌}
use mathlib.Core.Bool.{false}
use mathlib.Core.List.{List, ◌++◌}
use mathlib.Core.Logic.{⊎_elim}
use Rattle.std.specs.Prelude.{Option}
use Prim.Native.Nat.{ℕ, suc, ◌+◌, ◌-◌, ◌<◌, ◌≤◌}
use native.Mathlib.Omega.{arith}
use borrow.Author.Tests.{ne_eqb, lt-ltb}
use lib.Dec.{ltb, lit<}
use lib.ListN.{length, get_or, set, take, drop, length-set, get_or-append}
use lib.Seq.{paste, get_or-take, get_or-drop, get_or-append-add, get_or-set_same, get_or-set_other, length-paste, length_paste_head, length-take-le}
use Rattle.word.proofs.Integer.{lt-or-ge}
use Rattle.range.specs.Interval.{Interval}
use Rattle.range.specs.declared.ScalarType.{ScalarType}
use Rattle.graph.specs.Layout.{TYPE, WIDTH, RANGE, MIN, MAX, OPERATION, X, Y, Z, ALIAS, WORDS, KEY, LIMIT, REGION, node_start, word_at, count_of}
use Rattle.graph.specs.Node.{Op, words_of, type_of, type_at, range_of, range_at, operation_of, operation_at, alias_at, range_flag, range_low, range_high, pair, node_at}
use Rattle.graph.specs.Insert as insert
use Rattle.graph.specs.Insert.{id, made, appended, follow}
use Rattle.graph.proofs.Codes.{Stored, pair_back, type_back, range_back, operation_back}

-- ---- the chain of aliases

module _ (g : List ℕ) (n : ℕ) where
  pub follow_on : (k : ℕ) → (alias_at g n ≡ 0 → ⊥) → follow g (suc k) n ≡ follow g k (alias_at g n - 1)
  follow_on k h = rw (ne_eqb (alias_at g n) 0 h)

-- ---- words in the place of others

module _ (d : List ℕ) (at : ℕ) (s : List ℕ) (n : ℕ) (hd : at + n ≤ length d) (hs : n ≤ length s) where
  pub paste_in : (k : ℕ) → k < n → get_or (paste d at s n) (at + k) 0 ≡ get_or s k 0
  paste_in k h =
      let p : length (take at d ++ take n s) ≡ at + n = length_paste_head d at s n (omega arith) hs in
      let q : length (take at d) ≡ at = length-take-le at d (omega arith) in
      get_or-append (take at d ++ take n s) (drop (at + n) d) 0 (at + k) (omega arith)
      ∙ ap (λ (j : ℕ). get_or (take at d ++ take n s) (j + k) 0) (sym q) ∙ get_or-append-add (take at d) (take n s) k 0
      ∙ get_or-take n s k 0 h

  pub paste_below : (i : ℕ) → i < at → get_or (paste d at s n) i 0 ≡ get_or d i 0
  paste_below i h =
      let p : length (take at d ++ take n s) ≡ at + n = length_paste_head d at s n (omega arith) hs in
      let q : length (take at d) ≡ at = length-take-le at d (omega arith) in
      get_or-append (take at d ++ take n s) (drop (at + n) d) 0 i (omega arith)
      ∙ get_or-append (take at d) (take n s) 0 i (omega arith) ∙ get_or-take at d i 0 h

  pub paste_above : (i : ℕ) → at + n ≤ i → get_or (paste d at s n) i 0 ≡ get_or d i 0
  paste_above i h =
      let p : length (take at d ++ take n s) ≡ at + n = length_paste_head d at s n (omega arith) hs in
      let e : i ≡ length (take at d ++ take n s) + (i - (at + n)) = omega arith in
      let f : at + n + (i - (at + n)) ≡ i = omega arith in
      ap (λ (j : ℕ). get_or (paste d at s n) j 0) e ∙ get_or-append-add (take at d ++ take n s) (drop (at + n) d) (i - (at + n)) 0
      ∙ get_or-drop (at + n) d (i - (at + n)) 0 ∙ ap (λ (j : ℕ). get_or d j 0) f

-- ---- a node stored in its place

module _ (g ws : List ℕ) (n : ℕ) (size : length g ≡ REGION) (all : length ws ≡ WORDS) (room : n < LIMIT) where
  inside : node_start n + WORDS ≤ length g
  inside = omega arith

  enough : WORDS ≤ length ws
  enough = omega arith

  pub stored_length : length (paste g (node_start n) ws WORDS) ≡ length g
  stored_length = length-paste g (node_start n) ws WORDS inside enough

  stored_new : (k : ℕ) → k < WORDS → word_at (paste g (node_start n) ws WORDS) n k ≡ get_or ws k 0
  stored_new k h = paste_in g (node_start n) ws WORDS inside enough k h

  pub stored_other : (m k : ℕ) → (m ≡ n → ⊥) → k < WORDS → word_at (paste g (node_start n) ws WORDS) m k ≡ word_at g m k
  stored_other m k d h =
      ⊎_elim (λ (l : m < n). paste_below g (node_start n) ws WORDS inside enough (node_start m + k) (omega arith))
      (λ (l : n ≤ m). paste_above g (node_start n) ws WORDS inside enough (node_start m + k) (omega arith))
      (lt-or-ge m n)

-- ---- a node at the end

-- node n of a region holds a type, a range, an operation and an alias
pub record Holds (g : List ℕ) (n : ℕ) (t : ScalarType) (r : Option Interval) (o : Op) (a : ℕ) : Type 0 where
  pub type : type_at g n ≡ t
  pub range : range_at g n ≡ r
  pub operation : operation_at g n ≡ o
  pub alias : alias_at g n ≡ a

-- a node with the words f holds what they stand for
pub reading : (g : List ℕ) (n : ℕ) (f : ℕ → ℕ) → ((k : ℕ) → k < WORDS → word_at g n k ≡ f k)
    → Holds g n (type_of (f TYPE) (f WIDTH)) (range_of (f RANGE) (pair (f MIN) (f (MIN + 1))) (pair (f MAX) (f (MAX + 1)))) (operation_of (f OPERATION) (f X) (f Y) (f Z)) (f ALIAS)
reading g n f e = record {
  type = λ i. type_of (e TYPE (lit< tt) i) (e WIDTH (lit< tt) i);
  range = λ i. range_of (e RANGE (lit< tt) i) (pair (e MIN (lit< tt) i) (e (MIN + 1) (lit< tt) i)) (pair (e MAX (lit< tt) i) (e (MAX + 1) (lit< tt) i));
  operation = λ i. operation_of (e OPERATION (lit< tt) i) (e X (lit< tt) i) (e Y (lit< tt) i) (e Z (lit< tt) i);
  alias = e ALIAS (lit< tt);
}

-- a node with the key of a type, a range and an operation has them
module _ (g : List ℕ) (n : ℕ) (t : ScalarType) (r : Option Interval) (o : Op) (s : Stored t r o)
    (e : (k : ℕ) → k < KEY → word_at g n k ≡ get_or (words_of t r o) k 0) where
  pub type_read : type_at g n ≡ t
  unfolding words_of
  type_read = (λ i. type_of (e TYPE (lit< tt) i) (e WIDTH (lit< tt) i)) ∙ type_back t s.width

  pub range_read : range_at g n ≡ r
  unfolding words_of
  range_read =
      (λ i. range_of (e RANGE (lit< tt) i) (pair (e MIN (lit< tt) i) (e (MIN + 1) (lit< tt) i)) (pair (e MAX (lit< tt) i) (e (MAX + 1) (lit< tt) i)))
      ∙ (λ i. range_of (range_flag r) (pair_back (range_low r) i) (pair_back (range_high r) i)) ∙ range_back r s.low s.high

  pub operation_read : operation_at g n ≡ o
  unfolding words_of
  operation_read =
      (λ i. operation_of (e OPERATION (lit< tt) i) (e X (lit< tt) i) (e Y (lit< tt) i) (e Z (lit< tt) i)) ∙ operation_back o s.offset s.parameter

-- and with its words it has no alias
words_back : (g : List ℕ) (n : ℕ) (t : ScalarType) (r : Option Interval) (o : Op) → Stored t r o
    → ((k : ℕ) → k < WORDS → word_at g n k ≡ get_or (words_of t r o) k 0) → Holds g n t r o 0
unfolding words_of
words_back g n t r o s e =
    let key : (k : ℕ) → k < KEY → word_at g n k ≡ get_or (words_of t r o) k 0 = λ k h. e k (omega arith) in
    record {
      type = type_read g n t r o s key;
      range = range_read g n t r o s key;
      operation = operation_read g n t r o s key;
      alias = e ALIAS (lit< tt);
    }

-- there are as many words as a node has
pub length-words : (t : ScalarType) (r : Option Interval) (o : Op) → length (words_of t r o) ≡ WORDS
unfolding words_of
length-words t r o = refl

-- with room there is a new node
pub appended_made : (g ws : List ℕ) → count_of g < LIMIT
    → appended g ws ≡ made (id (count_of g)) (set (paste g (node_start (count_of g)) ws WORDS) 0 (count_of g + 1))
unfolding appended
appended_made g ws room = rw (lt-ltb (count_of g) LIMIT room)

-- without room there is none
pub appended_full : (g ws : List ℕ) → ltb (count_of g) LIMIT ≡ false → appended g ws ≡ made insert.room g
unfolding appended
appended_full g ws e = rw e

module _ (g ws : List ℕ) (size : length g ≡ REGION) (all : length ws ≡ WORDS) (room : count_of g < LIMIT) where
  pub appended-length : length (appended g ws).words ≡ REGION
  appended-length =
      rw (appended_made g ws room)
      (length-set (paste g (node_start (count_of g)) ws WORDS) 0 (count_of g + 1) ∙ stored_length g ws (count_of g) size all room ∙ size)

  pub appended-count : count_of (appended g ws).words ≡ count_of g + 1
  appended-count =
      let l : length (paste g (node_start (count_of g)) ws WORDS) ≡ length g = stored_length g ws (count_of g) size all room in
      rw (appended_made g ws room) (get_or-set_same (paste g (node_start (count_of g)) ws WORDS) 0 (count_of g + 1) 0 (omega arith))

  -- the count stands before every node
  past_count : (m k : ℕ) → word_at (appended g ws).words m k ≡ word_at (paste g (node_start (count_of g)) ws WORDS) m k
  past_count m k =
      rw (appended_made g ws room) (get_or-set_other (paste g (node_start (count_of g)) ws WORDS) 0 (node_start m + k) (count_of g + 1) 0 (λ e. omega arith))

  pub appended_word : (k : ℕ) → k < WORDS → word_at (appended g ws).words (count_of g) k ≡ get_or ws k 0
  appended_word k h = past_count (count_of g) k ∙ stored_new g ws (count_of g) size all room k h

  -- the other nodes stay
  pub appended_other : (n : ℕ) → (n ≡ count_of g → ⊥) → Holds (appended g ws).words n (type_at g n) (range_at g n) (operation_at g n) (alias_at g n)
  appended_other n d =
      reading (appended g ws).words n (word_at g n) (λ k h. past_count n k ∙ stored_other g ws (count_of g) size all room n k d h)

-- the new node
pub appended_new : (g : List ℕ) (t : ScalarType) (r : Option Interval) (o : Op) → length g ≡ REGION → count_of g < LIMIT → Stored t r o
    → Holds (appended g (words_of t r o)).words (count_of g) t r o 0
appended_new g t r o size room s =
    words_back (appended g (words_of t r o)).words (count_of g) t r o s (appended_word g (words_of t r o) size (length-words t r o) room)

-- the new node and every other one, whole
pub node_new : (g : List ℕ) (t : ScalarType) (r : Option Interval) (o : Op) → length g ≡ REGION → count_of g < LIMIT → Stored t r o
    → node_at (appended g (words_of t r o)).words (count_of g) ≡ record { type = t; range = r; operation = o }
node_new g t r o size room s = let h = appended_new g t r o size room s in λ i. record { type = h.type i; range = h.range i; operation = h.operation i }

pub node_other : (g ws : List ℕ) → length g ≡ REGION → length ws ≡ WORDS → count_of g < LIMIT → (n : ℕ) → (n ≡ count_of g → ⊥)
    → node_at (appended g ws).words n ≡ node_at g n
node_other g ws size all room n d = let h = appended_other g ws size all room n d in λ i. record { type = h.type i; range = h.range i; operation = h.operation i }

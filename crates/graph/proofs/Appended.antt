-- An appended node keeps question 1; and where interning found no node with its key, no two nodes have one. Assumes nothing.
use mathlib.Core.Path.{◌≡◌, refl, sym, ap, ◌∙◌, subst}
use mathlib.Core.Bool.{Bool, true, false, cond, false≢true, ◌&&◌}
use mathlib.Core.List.{List}
use mathlib.Core.Logic.{inl, inr, ⊎_elim}
use Rattle.std.specs.Prelude.{Option, None, Some}
use Prim.Native.Nat.{ℕ, zero, suc, min, ◌+◌, ◌-◌, ◌*◌, ◌/◌, ◌%◌, ◌^◌, ◌≤◌, ◌<◌}
use native.Mathlib.Decide.{dec_lt}
use native.Mathlib.Nat.{div-add-mod', mod-lt}
use native.Mathlib.Omega.{arith}
use borrow.Author.Tests.{le-leb, lt-ltb}
use lib.Dec.{eqb, lit<}
use lib.ListN.{length, get_or, replicate, length-replicate}
use lib.Seq.{paste, get_or-set_other}
use lib.Signed.{mag, le_z}
use Rattle.word.specs.Value.{residue, signed}
use Rattle.word.proofs.Integer.{signed-residue}
use Rattle.range.specs.Interval.{Interval, inside_type}
use Rattle.range.specs.declared.ScalarType.{ScalarType}
use Rattle.range.specs.declared.ScalarType.TheVariants as ty
use Rattle.range.proofs.Answers.{none-some, some_is}
use Rattle.range.proofs.Sound.{tests, at_most_lem}
use Rattle.evaluate.proofs.Codes.{unary_known, binary_known, past_unary, unary_code_lem, binary_code_lem}
use Rattle.evaluate.specs.Operator.{WIDEST, WIDTHS, OFFSETS, unary_code, unary_width, binary_code, type_width}
use Rattle.evaluate.specs.declared.Unary.{Unary}
use Rattle.evaluate.specs.declared.Binary.{Binary}
use Rattle.graph.specs.Layout.{TYPE, WIDTH, RANGE, MIN, MAX, OPERATION, X, Y, Z, ALIAS, FIRST, WORDS, KEY, LIMIT, REGION, node_start, word_at, count_of}
use Rattle.graph.specs.Node as node
use Rattle.graph.specs.Node.{Op, Parts, pair, type_code, range_flag, range_low, range_high, op_code, op_x, op_y, op_z, words_of, type_at, range_at, node_at, operation_at}
use Rattle.graph.specs.WellFormed.{is_type, is_range, are_fields, is_operation, is_graph}
use Rattle.graph.specs.Insert.{start, same_key, interned, appended}
use Rattle.graph.proofs.Codes.{Stored, low_end, high_end, op_offset, pair_back, type_back}
use Rattle.graph.proofs.Grown.{Graph, Node, facts_graph, node_facts, facts_node}
use Rattle.graph.proofs.Interned.{lowest-none, same_key_lem}
use Rattle.graph.proofs.Nodes.{length-words, appended_made, appended-length, appended-count, appended_word, stored_other, node_new, node_other}
use Rattle.graph.proofs.Tests.{operators}
use Rattle.range.proofs.Valid.{Valid, le_test}

-- ---- words and keys

-- the words of a type, a range and an operation
abbrev pub words_for : Parts → List ℕ
words_for p = words_of p.type p.range p.operation

-- the words of node n's key are those of what it reads, so that equal nodes have equal words
abbrev pub Exact : List ℕ → ℕ → Type 0
Exact g n = (k : ℕ) → k < KEY → word_at g n k ≡ get_or (words_for (node_at g n)) k 0

-- no two nodes have one type, range and operation
abbrev pub Keys : List ℕ → Type 0
Keys g = (n m : ℕ) → n < m → m < count_of g → node_at g n ≡ node_at g m → ⊥

-- ---- question 1 of the words that are written

type-written : (t : ScalarType) → type_width t ≤ WIDEST → is_type (type_code t) (type_width t) ≡ true
type-written ty.Bool l = refl
type-written (ty.Bits w) l = le-leb w WIDEST l
type-written ty.Integer l = refl

range-written : (t : ScalarType) (r : Option Interval) → type_width t < 2 ^ 16 → mag (low_end r) < 2 ^ 127 → mag (high_end r) < 2 ^ 127
    → ((a : Interval) → r ≡ Some a → Valid t a)
    → is_range (type_code t) (type_width t) (range_flag r) (pair (range_low r % 2 ^ 64) (range_low r / 2 ^ 64)) (pair (range_high r % 2 ^ 64) (range_high r / 2 ^ 64)) ≡ true
range-written t None w l h v = refl
range-written t (Some a) w l h v =
    let d = v a refl in
    rw (pair_back (residue 128 a.low), pair_back (residue 128 a.high), signed-residue 128 a.low (lit< tt) l, signed-residue 128 a.high (lit< tt) h, type_back t w)
    (rw (le_test d.full) d.inside)

fields_below : (x xlimit y ylimit z zlimit : ℕ) → x < xlimit → y < ylimit → z < zlimit → are_fields x xlimit y ylimit z zlimit ≡ true
fields_below x xlimit y ylimit z zlimit a b c = rw (lt-ltb x xlimit a, lt-ltb y ylimit b, lt-ltb z zlimit c)

unary-written : (n : ℕ) (u : Unary) (i : ℕ) → i < n → unary_width u ≤ WIDEST → is_operation n (unary_code u) i 0 (unary_width u) ≡ true
unary-written n u i l w =
    let c = unary_code_lem u in
    operators n (unary_code u) i 0 (unary_width u) (omega arith)
    ∙ rw (unary_known u) (fields_below i n 0 1 (unary_width u) WIDTHS l (lit< tt) (omega arith))

binary-written : (n : ℕ) (b : Binary) (i j : ℕ) → i < n → j < n → is_operation n (binary_code b) i j 0 ≡ true
binary-written n b i j l m =
    let c = binary_code_lem b in
    operators n (binary_code b) i j 0 (omega arith)
    ∙ rw (past_unary (binary_code b) 0 (omega arith), binary_known b) (fields_below i n j n 0 1 l m (lit< tt))

operation-written : (n : ℕ) (o : Op) → start o ≤ n → op_offset o < OFFSETS → op_z o ≤ WIDEST → is_operation n (op_code o) (op_x o) (op_y o) (op_z o) ≡ true
operation-written n (node.constant c) l h w = refl
operation-written n (node.input i) l h w = refl
operation-written n (node.refine i) l h w = fields_below i n 0 1 0 1 (omega arith) (lit< tt) (lit< tt)
operation-written n (node.effect i) l h w = refl
operation-written n (node.slice i o k) l h w = fields_below i n o OFFSETS k WIDTHS (omega arith) h (omega arith)
operation-written n (node.concat i j k) l h w = fields_below i n j n k WIDTHS (omega arith) (omega arith) (omega arith)
operation-written n (node.unary u i) l h w = unary-written n u i (omega arith) w
operation-written n (node.binary b i j) l h w = binary-written n b i j (omega arith) (omega arith)

-- ---- the words of the other nodes stay

module _ (g ws : List ℕ) (size : length g ≡ REGION) (all : length ws ≡ WORDS) (room : count_of g < LIMIT) where
  old_word : (n k : ℕ) → (n ≡ count_of g → ⊥) → k < WORDS → word_at (appended g ws).words n k ≡ word_at g n k
  old_word n k d h =
      rw (appended_made g ws room)
      (get_or-set_other (paste g (node_start (count_of g)) ws WORDS) 0 (node_start n + k) (count_of g + 1) 0 (λ e. omega arith)
      ∙ stored_other g ws (count_of g) size all room n k d h)

-- ---- nodes with a type, a range and an operation

module _ (g : List ℕ) (t : ScalarType) (r : Option Interval) (o : Op)
    (below : (n : ℕ) → n < count_of g → start (operation_at g n) ≤ n) (exact : (n : ℕ) → n < count_of g → Exact g n) where
  -- a node with them lies past the operands and has their key
  pub equal_key : (n : ℕ) → n < count_of g → node_at g n ≡ record { type = t; range = r; operation = o } → (start o ≤ n) × (same_key g (words_of t r o) n ≡ true)
  equal_key n h e = (
    subst (λ (p : Op). start p ≤ n) (ap (λ (p : Parts). p.operation) e) (below n h),
    (same_key_lem g (words_of t r o) n (length-words t r o)).1 (λ k q. exact n h k q ∙ ap (λ (p : Parts). get_or (words_for p) k 0) e),
  )

  -- and would have been found
  pub new_key : count_of g ≤ LIMIT → interned g o (words_of t r o) ≡ None → (n : ℕ) → n < count_of g → node_at g n ≡ record { type = t; range = r; operation = o } → ⊥
  new_key l unknown n h e =
      let same = equal_key n h e in
      let fails = lowest-none (same_key g (words_of t r o)) (min (start o) LIMIT) (min (count_of g) LIMIT - min (start o) LIMIT) unknown n (omega arith) (omega arith) in
      false≢true (sym fails ∙ same.1)

-- ---- the new node's words and key

module _ (g : List ℕ) (t : ScalarType) (r : Option Interval) (o : Op) (size : length g ≡ REGION) (room : count_of g < LIMIT) (s : Stored t r o) where
  pub exact_new : Exact (appended g (words_of t r o)).words (count_of g)
  exact_new k h =
      appended_word g (words_of t r o) size (length-words t r o) room k (omega arith)
      ∙ ap (λ (p : Parts). get_or (words_for p) k 0) (sym (node_new g t r o size room s))

  pub exact_old : (n : ℕ) → (n ≡ count_of g → ⊥) → Exact g n → Exact (appended g (words_of t r o)).words n
  exact_old n d e k h =
      old_word g (words_of t r o) size (length-words t r o) room n k d (omega arith) ∙ e k h
      ∙ ap (λ (p : Parts). get_or (words_for p) k 0) (sym (node_other g (words_of t r o) size (length-words t r o) room n d))

  module _ (below : (n : ℕ) → n < count_of g → start (operation_at g n) ≤ n) (exact : (n : ℕ) → n < count_of g → Exact g n)
      (unknown : interned g o (words_of t r o) ≡ None) where
    pub keys_grown : Keys g → Keys (appended g (words_of t r o)).words
    keys_grown keys n m a b e = go (dec_lt m (count_of g))
      where
        count : count_of (appended g (words_of t r o)).words ≡ count_of g + 1
        count = appended-count g (words_of t r o) size (length-words t r o) room

        other : (i : ℕ) → i < count_of g → node_at (appended g (words_of t r o)).words i ≡ node_at g i
        other i l = node_other g (words_of t r o) size (length-words t r o) room i (λ q. omega arith)

        go : Dec (m < count_of g) → ⊥
        go (yes l) = keys n m a l (sym (other n (omega arith)) ∙ e ∙ other m l)
        go (no l) =
            let q : m ≡ count_of g = omega (arith, count) in
            new_key g t r o below exact (omega arith) unknown n (omega arith)
            (sym (other n (omega arith)) ∙ e ∙ ap (node_at (appended g (words_of t r o)).words) q ∙ node_new g t r o size room s)

-- ---- question 1 of what is left

module _ (g : List ℕ) (t : ScalarType) (r : Option Interval) (o : Op) (f : Graph g) (room : count_of g < LIMIT) (s : Stored t r o) (width : type_width t ≤ WIDEST)
    (below : start o ≤ count_of g) (offset : op_offset o < OFFSETS) (parameter : op_z o ≤ WIDEST) (valid : (a : Interval) → r ≡ Some a → Valid t a) where
  unfoldable grown : List ℕ
  grown = (appended g (words_of t r o)).words

  count-grown : count_of grown ≡ count_of g + 1
  unfolding grown
  count-grown = appended-count g (words_of t r o) f.length (length-words t r o) room

  kept_word : (n k : ℕ) → (n ≡ count_of g → ⊥) → k < WORDS → word_at grown n k ≡ word_at g n k
  unfolding grown
  kept_word = old_word g (words_of t r o) f.length (length-words t r o) room

  new_node : Node grown (count_of grown) (count_of g)
  unfolding grown words_of
  new_node =
      let w = appended_word g (words_of t r o) f.length (length-words t r o) room in
      record {
        type = rw (w TYPE (lit< tt), w WIDTH (lit< tt)) (type-written t width);
        range = rw (w TYPE (lit< tt), w WIDTH (lit< tt), w RANGE (lit< tt), w MIN (lit< tt), w (MIN + 1) (lit< tt), w MAX (lit< tt), w (MAX + 1) (lit< tt))
            (range-written t r s.width s.low s.high valid);
        alias = inl (w ALIAS (lit< tt));
        operation = rw (w OPERATION (lit< tt), w X (lit< tt), w Y (lit< tt), w Z (lit< tt)) (operation-written (count_of g) o below offset parameter);
      }

  old_node : (n : ℕ) → n < count_of g → Node grown (count_of grown) n
  old_node n l =
      let v = node_facts g (count_of g) n (f.node n l) in
      let w : (k : ℕ) → k < WORDS → word_at grown n k ≡ word_at g n k = λ k h. kept_word n k (λ e. omega arith) h in
      record {
        type = rw (w TYPE (lit< tt), w WIDTH (lit< tt)) v.type;
        range = rw (w TYPE (lit< tt), w WIDTH (lit< tt), w RANGE (lit< tt), w MIN (lit< tt), w (MIN + 1) (lit< tt), w MAX (lit< tt), w (MAX + 1) (lit< tt)) v.range;
        alias = rw (w ALIAS (lit< tt)) (⊎_elim (λ e. inl e) (λ a. inr (a.0, omega (arith, count-grown, a.1))) v.alias);
        operation = rw (w OPERATION (lit< tt), w X (lit< tt), w Y (lit< tt), w Z (lit< tt)) v.operation;
      }

  -- words past the count stay zero
  rest-grown : (i : ℕ) → node_start (count_of grown) ≤ i → get_or grown i 0 ≡ 0
  rest-grown i l =
      let m = (i - FIRST) / WORDS in
      let k = (i - FIRST) % WORDS in
      let e : m * WORDS + k ≡ i - FIRST = div-add-mod' (i - FIRST) WORDS in
      let h : k < WORDS = mod-lt (i - FIRST) (lit< tt) in
      let p : i ≡ node_start m + k = omega (arith, count-grown) in
      let d : count_of g < m = omega (arith, count-grown) in
      ap (λ (j : ℕ). get_or grown j 0) p ∙ kept_word m k (λ q. omega arith) h ∙ f.rest (node_start m + k) (omega arith)

  pub graph-grown : is_graph (appended g (words_of t r o)).words ≡ true
  unfolding grown
  graph-grown =
      facts_graph (appended g (words_of t r o)).words (record {
        length = appended-length g (words_of t r o) f.length (length-words t r o) room;
        count = omega (arith, count-grown);
        node = λ n l. facts_node grown (count_of grown) n (each n (dec_lt n (count_of g)) l);
        rest = rest-grown;
      })
    where
      each : (n : ℕ) → Dec (n < count_of g) → n < count_of grown → Node grown (count_of grown) n
      each n (yes q) l = old_node n q
      each n (no q) l = let e : count_of g ≡ n = omega (arith, count-grown) in subst (Node grown (count_of grown)) e new_node

-- the region of zeros
zeros : (n i : ℕ) → ◌≡◌ {A = ℕ} (get_or (replicate n 0) i 0) 0
zeros zero i = refl
zeros (suc n) zero = refl
zeros (suc n) (suc i) = zeros n i

pub empty_graph : is_graph (replicate REGION 0) ≡ true
empty_graph =
    facts_graph (replicate REGION 0)
    (record { length = length-replicate {A = ℕ} REGION 0; count = omega arith; node = λ n l. absurd (omega arith); rest = λ i l. zeros REGION i })

-- the range of a node of a graph is not empty and lies inside its type
pub range_valid : {g : List ℕ} → Graph g → (n : ℕ) → n < count_of g → (a : Interval) → range_at g n ≡ Some a → Valid (type_at g n) a
range_valid {g} f n l a e = by (eqb (word_at g n RANGE) 0) _ (node_facts g (count_of g) n (f.node n l)).range e
  where
    b : Interval
    b = record { low = signed 128 (pair (word_at g n MIN) (word_at g n (MIN + 1))); high = signed 128 (pair (word_at g n MAX) (word_at g n (MAX + 1))) }

    by : (z x : Bool) → cond z x (eqb (word_at g n RANGE) 1 && (le_z b.low b.high && inside_type (type_at g n) b)) ≡ true
        → cond z None (Some b) ≡ Some a → Valid (type_at g n) a
    by true x p q = absurd (none-some q)
    by false x p q =
        let d = tests (le_z b.low b.high) _ (tests (eqb (word_at g n RANGE) 1) _ p).1 in
        subst (Valid (type_at g n)) (some_is q) (record { full = at_most_lem b.low b.high d.0; inside = d.1 })

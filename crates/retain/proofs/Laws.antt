-- Laws of retain: the mapping keeps order and tells kept ids apart; what stands at a kept node's new place; keys; all kept. Assumes nothing.
use mathlib.Core.Path.{◌≡◌, refl, sym, ap, ◌∙◌}
use mathlib.Core.Bool.{Bool, true, false, cond, false≢true}
use mathlib.Core.List.{List, ◌++◌}
use mathlib.Core.Logic.{⊎_elim}
use Prim.Native.Nat.{ℕ, zero, suc, ◌+◌, ◌-◌, ◌*◌, ◌<◌, ◌≤◌}
use native.Mathlib.Omega.{arith}
use borrow.Author.Tests.{eqb-true}
use lib.Dec.{eqb, lit<}
use lib.ListN.{length, get_or, take, replicate, length-append, length-replicate, get_or-append}
use lib.Seq.{get_or-append-add, length-take-le, take_at}
use Rattle.word.proofs.Integer.{lt-or-ge}
use Rattle.graph.specs.Layout.{OPERATION, X, Y, Z, ALIAS, WORDS, KEY, FIRST, REGION, node_start, word_at, count_of}
use Rattle.graph.specs.Node.{type_at, range_at, operation_at, alias_at}
use Rattle.graph.specs.Clear.{cleared}
use Rattle.graph.proofs.Grown.{Graph}
use Rattle.graph.proofs.Nodes.{Holds, reading}
use Rattle.graph.proofs.Wiping.{Cleared, cleared_facts}
use Rattle.retain.specs.Retain.{is_kept, has_first, has_second, kept_below, new_id, through, moved_words, kept_nodes, retained, renamed}
use Rattle.retain.proofs.Moving.{kept_le, is_operand, moved_length, moved_at, moved_same}
use Rattle.retain.proofs.Operands.{renamed-operation, first_below, second_below, KeepList, first_kept, second_kept}

-- ---- the mapping

module _ (keep : List ℕ) where
  -- one node more keeps none or one
  kept_step : (n : ℕ) → is_kept keep n ≡ true → kept_below keep (suc n) ≡ suc (kept_below keep n)
  kept_step n e = rw e

  pub kept_mono : (m n : ℕ) → m ≤ n → kept_below keep m ≤ kept_below keep n
  kept_mono m zero l = let e : m ≡ 0 = omega arith in rw e (omega arith)
  kept_mono m (suc n) l =
      ⊎_elim (λ (p : m < suc n). by (is_kept keep n) (kept_mono m n (omega arith))) (λ (p : suc n ≤ m). let e : m ≡ suc n = omega arith in rw e (omega arith)) (lt-or-ge m (suc n))
    where
      by : (t : Bool) → kept_below keep m ≤ kept_below keep n → kept_below keep m ≤ cond t (suc (kept_below keep n)) (kept_below keep n)
      by true h = omega arith
      by false h = h

  -- the order of kept ids stays
  pub kept_less : (m n : ℕ) → m < n → is_kept keep m ≡ true → kept_below keep m < kept_below keep n
  kept_less m n l e = omega (arith, kept_step m e, kept_mono (suc m) n (omega arith))

  pub id_kept : (n : ℕ) → is_kept keep n ≡ true → new_id keep n ≡ kept_below keep n
  id_kept n e = rw e

  pub new_less : (m n : ℕ) → m < n → is_kept keep m ≡ true → is_kept keep n ≡ true → new_id keep m < new_id keep n
  new_less m n l e f = rw (id_kept m e, id_kept n f) (kept_less m n l e)

  -- two kept ids have two new ones
  pub new_apart : (m n : ℕ) → is_kept keep m ≡ true → is_kept keep n ≡ true → new_id keep m ≡ new_id keep n → m ≡ n
  new_apart m n e f q =
      ⊎_elim (λ (l : m < n). absurd (omega (arith, q, new_less m n l e f)))
      (λ (l : n ≤ m). ⊎_elim (λ (p : n < m). absurd (omega (arith, q, new_less n m p f e))) (λ (p : m ≤ n). omega arith) (lt-or-ge n m))
      (lt-or-ge m n)

-- ---- the words of the kept nodes

module _ (g keep : List ℕ) where
  nodes_length : (m : ℕ) → length (kept_nodes g keep m) ≡ WORDS * kept_below keep m
  nodes_length zero = refl
  nodes_length (suc m) = by (is_kept keep m) (nodes_length m)
    where
      by : (t : Bool) → length (kept_nodes g keep m) ≡ WORDS * kept_below keep m
          → length (cond t (kept_nodes g keep m ++ moved_words (new_id keep) g m) (kept_nodes g keep m)) ≡ WORDS * cond t (suc (kept_below keep m)) (kept_below keep m)
      by true h = length-append (kept_nodes g keep m) (moved_words (new_id keep) g m) ∙ omega (arith, h, moved_length (new_id keep) g m)
      by false h = h

  module _ (n k : ℕ) (e : is_kept keep n ≡ true) (h : k < WORDS) where
    nodes_at : (m : ℕ) → n < m → get_or (kept_nodes g keep m) (WORDS * kept_below keep n + k) 0 ≡ get_or (moved_words (new_id keep) g n) k 0
    nodes_at zero l = absurd (omega arith)
    nodes_at (suc m) l = ⊎_elim (λ (p : n < m). before p (nodes_at m p)) (λ (p : m ≤ n). here (omega arith)) (lt-or-ge n m)
      where
        before : n < m → get_or (kept_nodes g keep m) (WORDS * kept_below keep n + k) 0 ≡ get_or (moved_words (new_id keep) g n) k 0
            → get_or (kept_nodes g keep (suc m)) (WORDS * kept_below keep n + k) 0 ≡ get_or (moved_words (new_id keep) g n) k 0
        before p q =
            let inside : WORDS * kept_below keep n + k < length (kept_nodes g keep m) = omega (arith, h, nodes_length m, kept_less keep n m p e) in
            by (is_kept keep m) inside q
          where
            by : (t : Bool) → WORDS * kept_below keep n + k < length (kept_nodes g keep m)
                → get_or (kept_nodes g keep m) (WORDS * kept_below keep n + k) 0 ≡ get_or (moved_words (new_id keep) g n) k 0
                → get_or (cond t (kept_nodes g keep m ++ moved_words (new_id keep) g m) (kept_nodes g keep m)) (WORDS * kept_below keep n + k) 0 ≡ get_or (moved_words (new_id keep) g n) k 0
            by true i q = get_or-append (kept_nodes g keep m) (moved_words (new_id keep) g m) 0 (WORDS * kept_below keep n + k) i ∙ q
            by false i q = q

        here : n ≡ m → get_or (kept_nodes g keep (suc m)) (WORDS * kept_below keep n + k) 0 ≡ get_or (moved_words (new_id keep) g n) k 0
        here p =
            let s : WORDS * kept_below keep n + k ≡ length (kept_nodes g keep n) + k = omega (arith, nodes_length n) in
            rw (← p, e, s) (get_or-append-add (kept_nodes g keep n) (moved_words (new_id keep) g n) k 0)

-- ---- the region left

module _ (g keep : List ℕ) (f : Graph g) where
  unfoldable next : ℕ
  next = kept_below keep (count_of g)

  unfoldable body : List ℕ
  body = take FIRST g ++ kept_nodes g keep (count_of g)

  unfoldable zeros : List ℕ
  zeros = replicate (REGION - node_start next) 0

  head_length : length (take FIRST g) ≡ FIRST
  head_length = length-take-le FIRST g (omega (arith, f.length))

  body_length_lem : length body ≡ node_start next
  unfolding body next
  body_length_lem = length-append (take FIRST g) (kept_nodes g keep (count_of g)) ∙ omega (arith, head_length, nodes_length g keep (count_of g))

  inside : node_start next ≤ REGION
  unfolding next
  inside = omega (arith, kept_le keep (count_of g), f.count)

  all_length : length (body ++ zeros) ≡ REGION
  unfolding zeros
  all_length =
      let z : length zeros ≡ REGION - node_start next = length-replicate (REGION - node_start next) 0 in
      length-append body zeros ∙ omega (arith, body_length_lem, inside)

  as_cleared : retained g keep ≡ cleared next (body ++ zeros)
  unfolding cleared retained next body zeros
  as_cleared = rw (take_at body zeros (node_start next) body_length_lem, all_length)

  facts : Cleared next (body ++ zeros) (cleared next (body ++ zeros))
  facts = cleared_facts next (body ++ zeros) (omega (arith, all_length, inside))

  pub retained-length : length (retained g keep) ≡ REGION
  retained-length = ap (λ (l : List ℕ). length l) as_cleared ∙ facts.size ∙ all_length

  pub retained-count : count_of (retained g keep) ≡ kept_below keep (count_of g)
  unfolding next
  retained-count = ap count_of as_cleared ∙ facts.count

  pub retained-rest : (i : ℕ) → node_start (kept_below keep (count_of g)) ≤ i → get_or (retained g keep) i 0 ≡ 0
  unfolding next
  retained-rest i l = ap (λ (r : List ℕ). get_or r i 0) as_cleared ∙ facts.empty i l

  module _ (n : ℕ) (below : n < count_of g) (e : is_kept keep n ≡ true) where
    -- the words of a kept node at its new place
    pub retained_word : (k : ℕ) → k < WORDS → word_at (retained g keep) (kept_below keep n) k ≡ get_or (moved_words (new_id keep) g n) k 0
    unfolding next body
    retained_word k h =
        let less : kept_below keep n < kept_below keep (count_of g) = kept_less keep n (count_of g) below e in
        let at : node_start (kept_below keep n) + k < node_start next = omega (arith, less, h) in
        let s : node_start (kept_below keep n) + k ≡ length (take FIRST g) + (WORDS * kept_below keep n + k) = omega (arith, head_length) in
        ap (λ (r : List ℕ). word_at r (kept_below keep n) k) as_cleared ∙ facts.kept (node_start (kept_below keep n) + k) (omega arith) at
        ∙ get_or-append body zeros 0 (node_start (kept_below keep n) + k) (omega (arith, at, body_length_lem))
        ∙ ap (λ (i : ℕ). get_or body i 0) s
        ∙ get_or-append-add (take FIRST g) (kept_nodes g keep (count_of g)) (WORDS * kept_below keep n + k) 0
        ∙ nodes_at g keep n k e h (count_of g) below

    -- it holds the node with its operands read through the mapping, and no alias
    pub retained-node : Holds (retained g keep) (kept_below keep n) (type_at g n) (range_at g n) (renamed (new_id keep) (operation_at g n)) 0
    unfolding moved_words
    retained-node =
        let h = reading (retained g keep) (kept_below keep n) (λ k. get_or (moved_words (new_id keep) g n) k 0) retained_word in
        record {
          type = h.type;
          range = h.range;
          operation = h.operation ∙ renamed-operation (new_id keep) (word_at g n OPERATION) (word_at g n X) (word_at g n Y) (word_at g n Z);
          alias = h.alias;
        }

-- ---- keys

-- two nodes have one type, range and operation
pub SameKey : List ℕ → ℕ → ℕ → Type 0
SameKey g m n = (k : ℕ) → k < KEY → word_at g m k ≡ word_at g n k

-- a kept node's operands are kept, by their words
operand_kept : {g keep mapping : List ℕ} → KeepList g keep mapping → (n : ℕ) → n < count_of g → is_kept keep n ≡ true
    → (k : ℕ) → is_operand (word_at g n OPERATION) k ≡ true → is_kept keep (word_at g n k) ≡ true
operand_kept {g} {keep} d n l e k = by (eqb k X) (eqb k Y) refl refl
  where
    by : (s t : Bool) → eqb k X ≡ s → eqb k Y ≡ t
        → cond s (has_first (word_at g n OPERATION)) (cond t (has_second (word_at g n OPERATION)) false) ≡ true → is_kept keep (word_at g n k) ≡ true
    by true t p q h = rw (eqb-true k X p) (first_kept d n l e h)
    by false true p q h = rw (eqb-true k Y q) (second_kept d n l e h)
    by false false p q h = absurd (false≢true h)

module _ {g keep mapping : List ℕ} (f : Graph g) (d : KeepList g keep mapping) (m n : ℕ) (mb : m < count_of g) (nb : n < count_of g)
    (mk : is_kept keep m ≡ true) (nk : is_kept keep n ≡ true) where
  -- equal keys stay equal
  pub keys_stay : SameKey g m n → SameKey (retained g keep) (kept_below keep m) (kept_below keep n)
  unfolding SameKey
  keys_stay same k h =
      retained_word g keep f m mb mk k (omega arith) ∙ ap (λ (l : List ℕ). get_or l k 0) (moved_same (new_id keep) (new_id keep) g g n m same (λ e. refl) (λ e. refl))
      ∙ sym (retained_word g keep f n nb nk k (omega arith))

  -- and different keys different
  module _ (same : SameKey (retained g keep) (kept_below keep m) (kept_below keep n)) where
    moved_word : (k : ℕ) → k < KEY → get_or (moved_words (new_id keep) g m) k 0 ≡ get_or (moved_words (new_id keep) g n) k 0
    unfolding SameKey
    moved_word k h = sym (retained_word g keep f m mb mk k (omega arith)) ∙ same k h ∙ retained_word g keep f n nb nk k (omega arith)

    code : word_at g m OPERATION ≡ word_at g n OPERATION
    unfolding moved_words
    code = moved_word OPERATION (lit< tt)

    operand : (t s : Bool) (x y : ℕ) → t ≡ s → (t ≡ true → is_kept keep x ≡ true) → (s ≡ true → is_kept keep y ≡ true)
        → through (new_id keep) t x ≡ through (new_id keep) s y → x ≡ y
    operand true true x y q a b e = new_apart keep x y (a refl) (b refl) e
    operand true false x y q a b e = absurd (false≢true (sym q))
    operand false true x y q a b e = absurd (false≢true q)
    operand false false x y q a b e = e

    pub keys_apart : SameKey g m n
    unfolding SameKey moved_words
    keys_apart k h =
        operand (is_operand (word_at g m OPERATION) k) (is_operand (word_at g n OPERATION) k) (word_at g m k) (word_at g n k) (ap (λ (c : ℕ). is_operand c k) code)
        (operand_kept d m mb mk k) (operand_kept d n nb nk k) (sym (moved_at (new_id keep) g m k h) ∙ moved_word k h ∙ moved_at (new_id keep) g n k h)

-- ---- all nodes kept

module _ (g keep : List ℕ) (f : Graph g) (all : (n : ℕ) → n < count_of g → is_kept keep n ≡ true) where
  all_below_lem : (n : ℕ) → n ≤ count_of g → kept_below keep n ≡ n
  all_below_lem zero l = refl
  all_below_lem (suc n) l = kept_step keep n (all n (omega arith)) ∙ ap suc (all_below_lem n (omega arith))

  all_new : (n : ℕ) → n < count_of g → new_id keep n ≡ n
  all_new n l = id_kept keep n (all n l) ∙ all_below_lem n (omega arith)

  -- each word but the alias stays
  all_moved : (n : ℕ) → n < count_of g → moved_words (new_id keep) g n ≡ moved_words (λ i. i) g n
  all_moved n l =
      moved_same (λ i. i) (new_id keep) g g n n (λ k h. refl) (λ e. all_new (word_at g n X) (omega (arith, first_below f n l e)))
      (λ e. all_new (word_at g n Y) (omega (arith, second_below f n l e)))

  through-id : (t : Bool) (x : ℕ) → through (λ i. i) t x ≡ x
  through-id true x = refl
  through-id false x = refl

  -- the words of a node without its alias
  bare : (n k : ℕ) → k < KEY → get_or (moved_words (λ i. i) g n) k 0 ≡ word_at g n k
  bare n k h = moved_at (λ i. i) g n k h ∙ through-id (is_operand (word_at g n OPERATION) k) (word_at g n k)

  pub all_count : count_of (retained g keep) ≡ count_of g
  all_count = retained-count g keep f ∙ all_below_lem (count_of g) (omega arith)

  module _ (n : ℕ) (l : n < count_of g) where
    at_home : (k : ℕ) → k < WORDS → word_at (retained g keep) n k ≡ get_or (moved_words (λ i. i) g n) k 0
    at_home k h =
        ap (λ (m : ℕ). word_at (retained g keep) m k) (sym (all_below_lem n (omega arith))) ∙ retained_word g keep f n l (all n l) k h
        ∙ ap (λ (r : List ℕ). get_or r k 0) (all_moved n l)

    -- keeping all nodes leaves their keys
    pub all_kept : (k : ℕ) → k < KEY → word_at (retained g keep) n k ≡ word_at g n k
    all_kept k h = at_home k (omega arith) ∙ bare n k h

    -- and clears their aliases
    pub all_cleared : alias_at (retained g keep) n ≡ 0
    unfolding moved_words
    all_cleared = at_home ALIAS (lit< tt)

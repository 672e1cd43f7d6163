-- Saving alias words and taking back: what was saved of a graph puts it back, whatever nodes were added and aliases set. Assumes nothing.
use mathlib.Core.Path.{◌≡◌, refl, sym, ◌∙◌, subst}
use mathlib.Core.Bool.{Bool, true, false, cond, ◌&&◌}
use mathlib.Core.List.{List}
use mathlib.Core.Logic.{◌⊎◌, inl, inr, ⊎_elim}
use Rattle.std.specs.Prelude.{Option}
use Prim.Native.Nat.{ℕ, zero, suc, ◌+◌, ◌-◌, ◌*◌, ◌/◌, ◌%◌, ◌<◌, ◌≤◌}
use native.Mathlib.Nat.{div-add-mod', mod-lt, le_refl}
use native.Mathlib.Omega.{arith}
use lib.Dec.{ltb, lit<}
use lib.ListN.{length, get_or, set, length-set}
use lib.Seq.{get_or-set_same, get_or-set_other}
use Rattle.word.proofs.Integer.{lt-or-ge}
use Rattle.range.specs.Interval.{Interval}
use Rattle.range.specs.declared.ScalarType.{ScalarType}
use Rattle.graph.specs.Layout.{WORDS, KEY, ALIAS, FIRST, LIMIT, node_start, word_at, count_of}
use Rattle.graph.specs.Node.{Op, alias_at}
use Rattle.graph.specs.Insert.{inserted}
use Rattle.graph.specs.Alias.{aliased, saved_up_to, saved, restored_up_to, restored, Same}
use Rattle.graph.specs.WellFormed.{is_graph}
use Rattle.graph.proofs.Grown.{Graph, graph_facts}
use Rattle.graph.proofs.Kept.{inserted_kept}
use Rattle.graph.specs.Clear.{cleared, EmptyPast}
use Rattle.graph.proofs.Wiping.{Cleared, cleared_facts, cleared_one}

-- ---- lengths

length-saved : (n : ℕ) (g s : List ℕ) → length (saved_up_to n g s) ≡ length s
length-saved zero g s = refl
length-saved (suc n) g s = length-set (saved_up_to n g s) n (alias_at g n) ∙ length-saved n g s

length-restored : (n : ℕ) (s h : List ℕ) → length (restored_up_to n s h) ≡ length h
length-restored zero s h = refl
length-restored (suc n) s h = length-set (restored_up_to n s h) (node_start n + ALIAS) (get_or s n 0) ∙ length-restored n s h

-- ---- word by word

-- the alias word of node m was saved
saved_at : (n : ℕ) (g s : List ℕ) (m : ℕ) → n ≤ length s → m < n → get_or (saved_up_to n g s) m 0 ≡ alias_at g m
saved_at zero g s m l h = absurd (omega arith)
saved_at (suc n) g s m l h =
    ⊎_elim
    (λ (p : m < n). get_or-set_other (saved_up_to n g s) n m (alias_at g n) 0 (λ e. omega arith) ∙ saved_at n g s m (omega arith) p)
    (λ (p : n ≤ m).
    let e : n ≡ m = omega arith in
    subst (λ (k : ℕ). get_or (set (saved_up_to n g s) n (alias_at g n)) k 0 ≡ alias_at g k) e
    (get_or-set_same (saved_up_to n g s) n (alias_at g n) 0 (omega (arith, length-saved n g s))))
    (lt-or-ge m n)

-- the alias word of node m is the one saved
restored_alias : (n : ℕ) (s h : List ℕ) (m : ℕ) → node_start n ≤ length h → m < n → word_at (restored_up_to n s h) m ALIAS ≡ get_or s m 0
restored_alias zero s h m l p = absurd (omega arith)
restored_alias (suc n) s h m l p =
    ⊎_elim
    (λ (q : m < n).
    get_or-set_other (restored_up_to n s h) (node_start n + ALIAS) (node_start m + ALIAS) (get_or s n 0) 0 (λ e. omega arith)
    ∙ restored_alias n s h m (omega arith) q)
    (λ (q : n ≤ m).
    let e : n ≡ m = omega arith in
    subst (λ (k : ℕ). word_at (set (restored_up_to n s h) (node_start n + ALIAS) (get_or s n 0)) k ALIAS ≡ get_or s k 0) e
    (get_or-set_same (restored_up_to n s h) (node_start n + ALIAS) (get_or s n 0) 0 (omega (arith, length-restored n s h))))
    (lt-or-ge m n)

-- the other words stay
restored_other : (n : ℕ) (s h : List ℕ) (i : ℕ) → ((m : ℕ) → m < n → i ≡ node_start m + ALIAS → ⊥) → get_or (restored_up_to n s h) i 0 ≡ get_or h i 0
restored_other zero s h i d = refl
restored_other (suc n) s h i d =
    get_or-set_other (restored_up_to n s h) (node_start n + ALIAS) i (get_or s n 0) 0 (λ e. d n (omega arith) e)
    ∙ restored_other n s h i (λ m l e. d m (omega arith) e)

-- nothing is written past the nodes
pub restored_past : (n c : ℕ) (s h : List ℕ) → n ≤ c → EmptyPast c h → EmptyPast c (restored_up_to n s h)
restored_past n c s h l e i p = restored_other n s h i (λ m q d. omega arith) ∙ e i p

-- ---- nodes that stay but for their aliases

pub same_self : (g : List ℕ) → Graph g → Same (count_of g) g g
same_self g f = record { size = f.length; more = le_refl (count_of g); key = λ m k l h. refl }

-- an insertion keeps them
pub inserted_same : (n : ℕ) (g h : List ℕ) (t : ScalarType) (r : Option Interval) (o : Op) → Same n g h → Same n g (inserted h t r o).words
inserted_same n g h t r o s =
    let k = inserted_kept n h h t r o (record { size = s.size; more = s.more; same = λ i p q. refl }) in
    record {
      size = k.size;
      more = k.more;
      key = λ m j l q. k.same (node_start m + j) (omega arith) (omega arith) ∙ s.key m j l q;
    }

-- an alias changes none of them
pub aliased_same : {k : ℕ} {g h : List ℕ} → Same k g h → (n m : ℕ) → Same k g (aliased h n m)
unfolding aliased
aliased_same {k} {g} {h} s n m = by (ltb n LIMIT && ltb m LIMIT)
  where
    by : (t : Bool) → Same k g (cond t (set h (node_start n + ALIAS) (m + 1)) h)
    by true = record {
      size = length-set h (node_start n + ALIAS) (m + 1) ∙ s.size;
      more = rw (get_or-set_other h (node_start n + ALIAS) 0 (m + 1) 0 (λ e. omega arith)) s.more;
      key = λ i j l q. get_or-set_other h (node_start n + ALIAS) (node_start i + j) (m + 1) 0 (λ e. omega arith) ∙ s.key i j l q;
    }
    by false = s

-- ---- taking back

-- a word of the first n nodes is one of their keys' or an alias
word_of : (n i : ℕ) → 0 < i → i < node_start n → (m : ℕ) × (m < n) × ((i ≡ node_start m + ALIAS) ⊎ ((k : ℕ) × (k < KEY) × (i ≡ node_start m + k)))
word_of n i p q = (m, omega arith, ⊎_elim (λ (l : k < KEY). inr (k, l, at)) (λ (l : KEY ≤ k). inl (omega arith)) (lt-or-ge k KEY))
  where
    m : ℕ
    m = (i - FIRST) / WORDS

    k : ℕ
    k = (i - FIRST) % WORDS

    parts : m * WORDS + k ≡ i - FIRST
    parts = div-add-mod' (i - FIRST) WORDS

    small : k < WORDS
    small = mod-lt (i - FIRST) (lit< tt)

    at : i ≡ node_start m + k
    at = omega (arith, parts, small)

-- the first n nodes of two regions with the same keys, each with the same alias words, are one region
module _ (n : ℕ) (v w g h : List ℕ) (fits : node_start n ≤ length g) (size : length h ≡ length g)
    (key : (m k : ℕ) → m < n → k < KEY → word_at h m k ≡ word_at g m k) (words : (m : ℕ) → m < n → get_or w m 0 ≡ get_or v m 0) where
  alike : (i : ℕ) → 0 < i → i < node_start n → get_or (restored_up_to n w h) i 0 ≡ get_or (restored_up_to n v g) i 0
  alike i p q = go (word_of n i p q)
    where
      go : (m : ℕ) × (m < n) × ((i ≡ node_start m + ALIAS) ⊎ ((k : ℕ) × (k < KEY) × (i ≡ node_start m + k)))
          → get_or (restored_up_to n w h) i 0 ≡ get_or (restored_up_to n v g) i 0
      go (m, l, inl a) = rw a (restored_alias n w h m (omega (arith, fits, size)) l ∙ words m l ∙ sym (restored_alias n v g m fits l))
      go (m, l, inr (k, b, a)) =
          rw a
          (restored_other n w h (node_start m + k) (λ j q z. omega arith)
          ∙ key m k l b
          ∙ sym (restored_other n v g (node_start m + k) (λ j q z. omega arith)))

  pub restored_alike : restored n w h ≡ restored n v g
  unfolding restored
  restored_alike =
      let a = restored_up_to n w h in
      let b = restored_up_to n v g in
      let f = cleared_facts n a (omega (arith, fits, size, length-restored n w h)) in
      cleared_one n b (cleared n a) (omega (arith, fits, length-restored n v g)) (record {
        size = f.size ∙ length-restored n w h ∙ size ∙ sym (length-restored n v g);
        count = f.count;
        kept = λ i p q. f.kept i p q ∙ alike i p q;
        empty = f.empty;
      })

-- what is read of the first n nodes with their alias words from s
module _ (n : ℕ) (s h : List ℕ) (fits : node_start n ≤ length h) where
  restored_facts : Cleared n (restored_up_to n s h) (restored n s h)
  unfolding restored
  restored_facts = cleared_facts n (restored_up_to n s h) (omega (arith, fits, length-restored n s h))

  pub restored-length : length (restored n s h) ≡ length h
  restored-length = restored_facts.size ∙ length-restored n s h

  pub restored-count : count_of (restored n s h) ≡ n
  restored-count = restored_facts.count

  -- their keys stay
  pub restored_key : (m k : ℕ) → m < n → k < KEY → word_at (restored n s h) m k ≡ word_at h m k
  restored_key m k l b =
      restored_facts.kept (node_start m + k) (omega arith) (omega arith)
      ∙ restored_other n s h (node_start m + k) (λ j q z. omega arith)

  -- their alias words are those of s
  pub restored_alias_of : (m : ℕ) → m < n → alias_at (restored n s h) m ≡ get_or s m 0
  restored_alias_of m l = restored_facts.kept (node_start m + ALIAS) (omega arith) (omega arith) ∙ restored_alias n s h m fits l

  -- and nothing is past them
  pub restored_empty : (i : ℕ) → node_start n ≤ i → get_or (restored n s h) i 0 ≡ 0
  restored_empty = restored_facts.empty

-- a graph's own alias words, put back into what its nodes have become, give the graph
module _ (g h w : List ℕ) (f : Graph g) (same : Same (count_of g) g h) (words : (m : ℕ) → m < count_of g → get_or w m 0 ≡ alias_at g m) where
  back : (i : ℕ) → 0 < i → i < node_start (count_of g) → get_or g i 0 ≡ get_or (restored_up_to (count_of g) w h) i 0
  back i p q = go (word_of (count_of g) i p q)
    where
      go : (m : ℕ) × (m < count_of g) × ((i ≡ node_start m + ALIAS) ⊎ ((k : ℕ) × (k < KEY) × (i ≡ node_start m + k)))
          → get_or g i 0 ≡ get_or (restored_up_to (count_of g) w h) i 0
      go (m, l, inl a) = rw a (sym (restored_alias (count_of g) w h m (omega (arith, f.count, same.size)) l ∙ words m l))
      go (m, l, inr (k, b, a)) =
          rw a (sym (restored_other (count_of g) w h (node_start m + k) (λ j q z. omega arith) ∙ same.key m k l b))

  pub restored_is : restored (count_of g) w h ≡ g
  unfolding restored
  restored_is =
      sym
      (cleared_one (count_of g) (restored_up_to (count_of g) w h) g
      (omega (arith, f.count, same.size, length-restored (count_of g) w h))
      (record {
        size = f.length ∙ sym (length-restored (count_of g) w h ∙ same.size);
        count = refl;
        kept = back;
        empty = f.rest;
      }))

-- the alias words of a graph's nodes are those saved
pub saved-words : (g s : List ℕ) → count_of g ≤ length s → (m : ℕ) → m < count_of g → get_or (saved g s) m 0 ≡ alias_at g m
unfolding saved
saved-words g s room m l = saved_at (count_of g) g s m room l

pub saved-length : (g s : List ℕ) → length (saved g s) ≡ length s
unfolding saved
saved-length g s = length-saved (count_of g) g s

-- what was saved of a graph, put back into what its nodes have become, is the graph
pub restored-graph : (g h s : List ℕ) → is_graph g ≡ true → count_of g ≤ length s → Same (count_of g) g h → restored (count_of g) (saved g s) h ≡ g
restored-graph g h s e room same =
    let f = graph_facts g e in
    restored_is g h (saved g s) f same (saved-words g s room)

-- The loop of `retain`: the first n nodes are done, the others stand as they were. Assumes nothing.
use mathlib.Core.Path.{◌≡◌, refl, sym, ap, ◌∙◌}
use mathlib.Core.Bool.{Bool, true, false, cond}
use mathlib.Core.List.{List, [], ◌∷◌, ◌++◌, append_assoc, append-nil}
use mathlib.Core.Logic.{⊎_elim}
use Prim.Native.Nat.{ℕ, zero, suc, ◌+◌, ◌-◌, ◌/◌, ◌%◌, ◌<◌, ◌≤◌}
use native.Mathlib.Numerals.{add-one}
use native.Mathlib.Omega.{arith}
use borrow.Author.Tests.{ne_eqb}
use lib.Dec.{eqb, lit<}
use lib.ListN.{length, get_or, set, take, replicate, length-set, length-append, get_or-append}
use lib.Seq.{take_all, take-paste, take-suc-set, get_or-take, get_or_at}
use Rattle.word.proofs.Integer.{lt-or-ge}
use Rattle.graph.specs.Layout.{OPERATION, X, Y, Z, WORDS, KEY, FIRST, REGION, LIMIT, node_start, word_at, words_from, count_of}
use Rattle.graph.specs.Node.{PAST}
use Rattle.graph.specs.Clear.{cleared, EmptyPast}
use Rattle.graph.proofs.Nodes.{stored_length, stored_other}
use Rattle.retain.specs.Retain.{is_kept, has_first, has_second, DROPPED, kept_below, new_id, new_ids, through, moved_words, moved, kept_nodes, retained}

-- a list at one of its places, whatever the default
pub any_default : (l : List ℕ) (i d e : ℕ) → i < length l → get_or l i d ≡ get_or l i e
any_default [] i d e h = absurd (omega arith)
any_default (x ∷ l) zero d e h = refl
any_default (x ∷ l) (suc i) d e h = any_default l i d e (omega arith)

-- ---- counting

-- no more ids are kept than there are
pub kept_le : (keep : List ℕ) (n : ℕ) → kept_below keep n ≤ n
kept_le keep zero = omega arith
kept_le keep (suc n) = by (is_kept keep n) (kept_le keep n)
  where
    by : (t : Bool) → kept_below keep n ≤ n → cond t (suc (kept_below keep n)) (kept_below keep n) ≤ suc n
    by true l = omega arith
    by false l = omega arith

pub ids-length : (keep : List ℕ) (n : ℕ) → length (new_ids keep n) ≡ n
ids-length keep zero = refl
ids-length keep (suc n) = length-append (new_ids keep n) (new_id keep n ∷ []) ∙ omega (arith, ids-length keep n)

-- the mapping at a node
pub ids_at : (keep : List ℕ) (m n d : ℕ) → n < m → get_or (new_ids keep m) n d ≡ new_id keep n
ids_at keep zero n d h = absurd (omega arith)
ids_at keep (suc m) n d h =
    ⊎_elim
    (λ (l : n < m). get_or-append (new_ids keep m) (new_id keep m ∷ []) d n (omega (arith, ids-length keep m)) ∙ ids_at keep m n d l)
    (λ (l : m ≤ n). let e : m ≡ n = omega arith in rw (← e) (get_or_at (new_ids keep m) (new_id keep m) [] d m (ids-length keep m)))
    (lt-or-ge n m)

-- ---- the words of a moved node

-- one word more of the first ones, in a list that has zeros for the others
pub filled : (g : List ℕ) (n j k r : ℕ) → set (words_from g n j k ++ replicate (suc r) 0) k (word_at g n (j + k)) ≡ words_from g n j (suc k) ++ replicate r 0
filled g n j zero r = let e : j + 0 ≡ j = omega arith in rw e
filled g n j (suc k) r = let e : j + suc k ≡ suc j + k = omega arith in rw e (ap (λ (l : List ℕ). word_at g n j ∷ l) (filled g n (suc j) k r))

pub moved_length : (f : ℕ → ℕ) (g : List ℕ) (n : ℕ) → length (moved_words f g n) ≡ WORDS
unfolding moved_words
moved_length f g n = refl

-- one of the first words of a node, in a list that begins with them
front_at : (g : List ℕ) (n j m k : ℕ) (r : List ℕ) → k < m → get_or (words_from g n j m ++ r) k 0 ≡ word_at g n (j + k)
front_at g n j zero k r h = absurd (omega arith)
front_at g n j (suc m) zero r h = let e : j ≡ j + 0 = omega arith in ap (word_at g n) e
front_at g n j (suc m) (suc k) r h = let e : suc j + k ≡ j + suc k = omega arith in front_at g n (suc j) m k r (omega arith) ∙ ap (word_at g n) e

-- does word k of a node with this code hold an operand?
abbrev pub is_operand : ℕ → ℕ → Bool
is_operand code k = cond (eqb k X) (has_first code) (cond (eqb k Y) (has_second code) false)

-- word k of a moved node's key: an operand is read through f
pub moved_at : (f : ℕ → ℕ) (g : List ℕ) (n k : ℕ) → k < KEY → get_or (moved_words f g n) k 0 ≡ through f (is_operand (word_at g n OPERATION) k) (word_at g n k)
unfolding moved_words
moved_at f g n k h =
    ⊎_elim
    (λ (l : k < X).
    let e : 0 + k ≡ k = omega arith in
    rw (ne_eqb k X (λ q. omega arith), ne_eqb k Y (λ q. omega arith)) (front_at g n 0 X k rest l ∙ ap (word_at g n) e))
    (λ (l : X ≤ k). fields (k - X) (omega arith))
    (lt-or-ge k X)
  where
    rest : List ℕ
    rest = through f (has_first (word_at g n OPERATION)) (word_at g n X) ∷ through f (has_second (word_at g n OPERATION)) (word_at g n Y) ∷ word_at g n Z ∷ PAST

    fields : (i : ℕ) → k ≡ X + i → get_or (moved_words f g n) k 0 ≡ through f (is_operand (word_at g n OPERATION) k) (word_at g n k)
    fields zero e = rw e
    fields (suc zero) e = rw e
    fields (suc (suc zero)) e = rw e
    fields (suc (suc (suc i))) e = absurd (omega arith)

moved_take : (f : ℕ → ℕ) (g : List ℕ) (n : ℕ) → take WORDS (moved_words f g n) ≡ moved_words f g n
moved_take f g n = take_all WORDS (moved_words f g n) (omega (arith, moved_length f g n))

through_same : (f h : ℕ → ℕ) (t : Bool) (x : ℕ) → (t ≡ true → f x ≡ h x) → through f t x ≡ through h t x
through_same f h true x e = e refl
through_same f h false x e = refl

-- nodes with the same key, read through mappings that agree on the operands
module _ (f r : ℕ → ℕ) (g h : List ℕ) (n m : ℕ) (same : (k : ℕ) → k < KEY → word_at h m k ≡ word_at g n k)
    (first : has_first (word_at g n OPERATION) ≡ true → r (word_at g n X) ≡ f (word_at g n X))
    (second : has_second (word_at g n OPERATION) ≡ true → r (word_at g n Y) ≡ f (word_at g n Y)) where
  pub moved_same : moved_words r h m ≡ moved_words f g n
  unfolding moved_words
  moved_same =
      rw (same 0 (lit< tt), same 1 (lit< tt), same 2 (lit< tt), same 3 (lit< tt), same 4 (lit< tt), same 5 (lit< tt), same 6 (lit< tt), same 7 (lit< tt), same 8 (lit< tt), same 9 (lit< tt), same 10 (lit< tt), through_same r f (has_first (word_at g n OPERATION)) (word_at g n X) first, through_same r f (has_second (word_at g n OPERATION)) (word_at g n Y) second)

-- ---- the loop

pub record Moving (g keep h mapping : List ℕ) (next n : ℕ) : Type 0 where
  pub size : length h ≡ REGION
  pub ids : length mapping ≡ count_of g
  pub upto : n ≤ count_of g
  pub kept : next ≡ kept_below keep n
  pub front : take (node_start next) h ≡ take FIRST g ++ kept_nodes g keep n
  pub rest : (m k : ℕ) → n ≤ m → k < WORDS → word_at h m k ≡ word_at g m k
  pub told : take n mapping ≡ new_ids keep n

pub moving_begins : (g keep mapping : List ℕ) → length g ≡ REGION → length mapping ≡ count_of g → Moving g keep g mapping 0 0
moving_begins g keep mapping s l = record {
  size = s;
  ids = l;
  upto = omega arith;
  kept = refl;
  front = sym (append-nil (take FIRST g));
  rest = λ m k p q. refl;
  told = refl;
}

-- the region, the mapping and the next place after node n
abbrev pub region_after : List ℕ → List ℕ → List ℕ → ℕ → ℕ → List ℕ
region_after keep h mapping next n = cond (is_kept keep n) (moved mapping h n next) h

abbrev pub mapping_after : List ℕ → List ℕ → ℕ → ℕ → List ℕ
mapping_after keep mapping next n = set mapping n (cond (is_kept keep n) next DROPPED)

abbrev pub next_after : List ℕ → ℕ → ℕ → ℕ
next_after keep next n = cond (is_kept keep n) (suc next) next

module _ (g keep h mapping : List ℕ) (next n : ℕ) (v : Moving g keep h mapping next n) (more : n < count_of g) (room : count_of g ≤ LIMIT)
    (first : has_first (word_at g n OPERATION) ≡ true → word_at g n X < n) (second : has_second (word_at g n OPERATION) ≡ true → word_at g n Y < n) where
  -- the mapping, read at an operand
  read_told : (i : ℕ) → i < n → get_or mapping i DROPPED ≡ new_id keep i
  read_told i l = sym (get_or-take n mapping i DROPPED l) ∙ ap (λ (m : List ℕ). get_or m i DROPPED) v.told ∙ ids_at keep n i DROPPED l

  unfoldable words : List ℕ
  words = moved_words (λ i. get_or mapping i DROPPED) h n

  words-length : length words ≡ WORDS
  unfolding words
  words-length = moved_length (λ i. get_or mapping i DROPPED) h n

  words_same : words ≡ moved_words (new_id keep) g n
  unfolding words
  words_same =
      moved_same (new_id keep) (λ i. get_or mapping i DROPPED) g h n n (λ k l. v.rest n k (omega arith) (omega arith)) (λ e. read_told (word_at g n X) (first e))
      (λ e. read_told (word_at g n Y) (second e))

  small : next ≤ n
  small = omega (arith, v.kept, kept_le keep n)

  grown : take (node_start (suc next)) (moved mapping h n next) ≡ take FIRST g ++ (kept_nodes g keep n ++ moved_words (new_id keep) g n)
  unfolding words
  grown =
      let s : node_start (suc next) ≡ node_start next + WORDS = omega arith in
      let inside : node_start next ≤ length h = omega (arith, v.size, small) in
      let enough : WORDS ≤ length words = omega (arith, words-length) in
      rw (s, take-paste h (node_start next) words WORDS inside enough, moved_take (λ i. get_or mapping i DROPPED) h n, v.front, words_same)
      (append_assoc (take FIRST g) (kept_nodes g keep n) (moved_words (new_id keep) g n))

  -- one node more
  moving_on : Moving g keep (region_after keep h mapping next n) (mapping_after keep mapping next n) (next_after keep next n) (suc n)
  unfolding words
  moving_on = by (is_kept keep n) refl
    where
      by : (t : Bool) → is_kept keep n ≡ t → Moving g keep (region_after keep h mapping next n) (mapping_after keep mapping next n) (next_after keep next n) (suc n)
      by true e =
          rw e
          (record {
            size = stored_length h words next v.size words-length (omega (arith, small)) ∙ v.size;
            ids = length-set mapping n next ∙ v.ids;
            upto = omega arith;
            kept = rw e (ap suc v.kept);
            front = rw e grown;
            rest = λ m k p q.
                stored_other h words next v.size words-length (omega (arith, small)) m k (λ d. omega (arith, small)) q ∙ v.rest m k (omega arith) q;
            told = rw (e, take-suc-set mapping n next (omega (arith, v.ids)), v.told, v.kept);
          })
      by false e =
          rw e
          (record {
            size = v.size;
            ids = length-set mapping n DROPPED ∙ v.ids;
            upto = omega arith;
            kept = rw e v.kept;
            front = rw e v.front;
            rest = λ m k p q. v.rest m k (omega arith) q;
            told = rw (e, take-suc-set mapping n DROPPED (omega (arith, v.ids)), v.told);
          })

  pub moving_next : (k m : List ℕ) (p : ℕ) → k ≡ region_after keep h mapping next n → m ≡ mapping_after keep mapping next n → p ≡ next_after keep next n → Moving g keep k m p (n + 1)
  moving_next k m p a b d = rw (a, b, d, add-one n) moving_on

-- ---- after the loop

-- past the nodes nothing was written
pub moving_past : (g keep h mapping : List ℕ) (next n : ℕ) → Moving g keep h mapping next n → EmptyPast n g → EmptyPast n h
moving_past g keep h mapping next n w z i l =
    let m = (i - FIRST) / WORDS in
    let k = (i - FIRST) % WORDS in
    let d : i ≡ node_start m + k = omega arith in
    ap (λ (j : ℕ). get_or h j 0) d ∙ w.rest m k (omega arith) (omega arith) ∙ ap (λ (j : ℕ). get_or g j 0) (sym d) ∙ z i l

pub moving_ends : (g keep h mapping : List ℕ) (next n : ℕ) → Moving g keep h mapping next n → count_of g ≤ n
    → (next ≡ kept_below keep (count_of g)) × (cleared next h ≡ retained g keep) × (mapping ≡ new_ids keep (count_of g))
unfolding cleared retained
moving_ends g keep h mapping next n v l =
    let e : n ≡ count_of g = omega (arith, v.upto) in
    let k : next ≡ kept_below keep (count_of g) = v.kept ∙ ap (kept_below keep) e in
    (k, rw (v.front, v.size, k, e), sym (take_all n mapping (omega (arith, v.ids))) ∙ v.told ∙ ap (new_ids keep) e)

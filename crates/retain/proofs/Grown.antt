-- What retain leaves is a graph: question 1 holds of it. Assumes nothing.
use mathlib.Core.Path.{◌≡◌, refl, sym, ◌∙◌}
use mathlib.Core.Bool.{Bool, true, false, cond, false≢true}
use mathlib.Core.List.{List}
use mathlib.Core.Logic.{inl, ⊎_elim}
use Prim.Native.Nat.{ℕ, zero, suc, ◌+◌, ◌<◌, ◌≤◌}
use native.Mathlib.Omega.{arith}
use borrow.Author.Tests.{ltb-true, ne_eqb, lt-ltb, le-leb, lt-leb}
use lib.Dec.{ltb, lit<}
use Rattle.word.proofs.Integer.{lt-or-ge}
use Rattle.range.proofs.Sound.{tests}
use Rattle.evaluate.specs.Operator.{BINARY, WIDTHS, OFFSETS, is_unary_code, is_binary_code}
use Rattle.evaluate.proofs.Codes.{unary-limits, binary-limits}
use Rattle.graph.specs.Layout.{REFINE, SLICE, CONCAT, TYPE, WIDTH, RANGE, MIN, MAX, OPERATION, X, Y, Z, ALIAS, word_at, count_of}
use Rattle.graph.specs.WellFormed.{are_fields, is_operation, is_node, is_graph}
use Rattle.graph.proofs.Grown.{Graph, node_facts, facts_node, facts_graph}
use Rattle.graph.proofs.Tests.{operators}
use Rattle.retain.specs.Retain.{is_kept, has_first, has_second, kept_below, new_id, through, moved_words, retained}
use Rattle.retain.proofs.Moving.{kept_le}
use Rattle.retain.proofs.Operands.{first_below, second_below, KeepList, first_kept, second_kept}
use Rattle.retain.proofs.Laws.{id_kept, new_less, retained-length, retained-count, retained-rest, retained_word}

-- ---- which node stands at a place

pub record Origin (keep : List ℕ) (c j : ℕ) : Type 0 where
  pub old : ℕ
  pub below : old < c
  pub kept : is_kept keep old ≡ true
  pub new : kept_below keep old ≡ j

-- every place below the number of kept nodes is a kept node's
pub origin_of : (keep : List ℕ) (c j : ℕ) → j < kept_below keep c → Origin keep c j
origin_of keep zero j l = absurd (omega arith)
origin_of keep (suc c) j l = by (is_kept keep c) refl l (origin_of keep c j)
  where
    older : Origin keep c j → Origin keep (suc c) j
    older o = record { old = o.old; below = let b = o.below in omega arith; kept = o.kept; new = o.new }

    by : (t : Bool) → is_kept keep c ≡ t → j < cond t (suc (kept_below keep c)) (kept_below keep c) → (j < kept_below keep c → Origin keep c j) → Origin keep (suc c) j
    by true e h r =
        ⊎_elim (λ (p : j < kept_below keep c). older (r p))
        (λ (p : kept_below keep c ≤ j). record { old = c; below = omega arith; kept = e; new = omega arith })
        (lt-or-ge j (kept_below keep c))
    by false e h r = older (r h)

-- ---- its operation

-- fields that are below other bounds; the last one stays
moved_fields : (x n y l z u v m w k : ℕ) → are_fields x n y l z u ≡ true → v < m → (y < l → w < k) → are_fields v m w k z u ≡ true
moved_fields x n y l z u v m w k e a b =
    let d = tests (ltb x n) _ e in
    let f = tests (ltb y l) (ltb z u) d.1 in
    rw (lt-ltb v m a, lt-ltb w k (b (ltb-true y l f.0))) f.1

module _ (f : ℕ → ℕ) (n m code x y z : ℕ) where
  -- an operator's: a unary one has no second operand, a binary one has two
  moved_operator : CONCAT < code → is_operation n code x y z ≡ true → (has_first code ≡ true → f x < m) → (has_second code ≡ true → f y < m)
      → is_operation m code (through f (has_first code) x) (through f (has_second code) y) z ≡ true
  moved_operator p e a b =
      let first : has_first code ≡ true = rw (ne_eqb code REFINE (λ q. omega arith), le-leb SLICE code (omega arith)) in
      rw first
      (operators m code (f x) (through f (has_second code) y) z p ∙ by (is_unary_code code z) (is_binary_code code) refl refl (sym (operators n code x y z p) ∙ e) (a first))
    where
      by : (s t : Bool) → is_unary_code code z ≡ s → is_binary_code code ≡ t → cond s (are_fields x n y 1 z WIDTHS) (cond t (are_fields x n y n z 1) false) ≡ true → f x < m
          → cond s (are_fields (f x) m (through f (has_second code) y) 1 z WIDTHS) (cond t (are_fields (f x) m (through f (has_second code) y) m z 1) false) ≡ true
      by true t q r d l =
          let u = unary-limits code z q in
          let second : has_second code ≡ false = rw (ne_eqb code CONCAT (λ q. omega arith), lt-leb BINARY code (omega arith)) in
          rw second (moved_fields x n y 1 z WIDTHS (f x) m y 1 d l (λ q. q))
      by false true q r d l =
          let u = binary-limits code r in
          let second : has_second code ≡ true = rw (ne_eqb code CONCAT (λ q. omega arith), le-leb BINARY code u.0) in
          rw second (moved_fields x n y n z 1 (f x) m (f y) m d l (λ q. b second))
      by false false q r d l = absurd (false≢true d)

moved_operation : (f : ℕ → ℕ) (n m code x y z : ℕ) → is_operation n code x y z ≡ true → (has_first code ≡ true → f x < m) → (has_second code ≡ true → f y < m)
    → is_operation m code (through f (has_first code) x) (through f (has_second code) y) z ≡ true
moved_operation f n m zero x y z e a b = e
moved_operation f n m (suc zero) x y z e a b = e
moved_operation f n m (suc (suc zero)) x y z e a b = moved_fields x n y 1 z 1 (f x) m y 1 e (a refl) (λ q. q)
moved_operation f n m (suc (suc (suc zero))) x y z e a b = e
moved_operation f n m (suc (suc (suc (suc zero)))) x y z e a b = moved_fields x n y OFFSETS z WIDTHS (f x) m y OFFSETS e (a refl) (λ q. q)
moved_operation f n m (suc (suc (suc (suc (suc zero))))) x y z e a b = moved_fields x n y n z WIDTHS (f x) m (f y) m e (a refl) (λ q. b refl)
moved_operation f n m (suc (suc (suc (suc (suc (suc c)))))) x y z e a b = moved_operator f n m (suc (suc (suc (suc (suc (suc c)))))) x y z (omega arith) e a b

-- ---- the graph

module _ {g keep mapping : List ℕ} (f : Graph g) (d : KeepList g keep mapping) where
  moved_node : (n : ℕ) → n < count_of g → is_kept keep n ≡ true → is_node (retained g keep) (count_of (retained g keep)) (kept_below keep n) ≡ true
  unfolding moved_words
  moved_node n l e =
      let v = node_facts g (count_of g) n (f.node n l) in
      let w = retained_word g keep f n l e in
      facts_node (retained g keep) (count_of (retained g keep)) (kept_below keep n)
      (record {
        type = rw (w TYPE (lit< tt), w WIDTH (lit< tt)) v.type;
        range = rw (w TYPE (lit< tt), w WIDTH (lit< tt), w RANGE (lit< tt), w MIN (lit< tt), w (MIN + 1) (lit< tt), w MAX (lit< tt), w (MAX + 1) (lit< tt)) v.range;
        alias = inl (w ALIAS (lit< tt));
        operation =
            rw (w OPERATION (lit< tt), w X (lit< tt), w Y (lit< tt), w Z (lit< tt))
            (moved_operation (new_id keep) n (kept_below keep n) (word_at g n OPERATION) (word_at g n X) (word_at g n Y) (word_at g n Z) v.operation
            (λ q. rw (← id_kept keep n e) (new_less keep (word_at g n X) n (first_below f n l q) (first_kept d n l e q) e))
            (λ q. rw (← id_kept keep n e) (new_less keep (word_at g n Y) n (second_below f n l q) (second_kept d n l e q) e)));
      })

  -- what retain leaves passes question 1
  pub retained-graph : is_graph (retained g keep) ≡ true
  retained-graph =
      let c = retained-count g keep f in
      facts_graph (retained g keep)
      (record {
        length = retained-length g keep f;
        count = omega (arith, c, kept_le keep (count_of g), f.count);
        node = λ j l. each j (origin_of keep (count_of g) j (omega (arith, c)));
        rest = λ i l. retained-rest g keep f i (omega (arith, c));
      })
    where
      each : (j : ℕ) → Origin keep (count_of g) j → is_node (retained g keep) (count_of (retained g keep)) j ≡ true
      each j o = rw (← o.new) (moved_node o.old o.below o.kept)

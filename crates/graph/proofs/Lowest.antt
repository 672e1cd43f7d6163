-- Interning under question 1: the words of a key are those of what the node reads, so the lowest equal node is found. Assumes nothing.
use mathlib.Core.Path.{◌≡◌, refl, sym, ap, subst, ◌∙◌}
use mathlib.Core.Bool.{true, false≢true}
use mathlib.Core.List.{List}
use Rattle.std.specs.Prelude.{Option, None, Some}
use Prim.Native.Nat.{ℕ, zero, suc, min, ◌+◌, ◌-◌, ◌/◌, ◌%◌, ◌^◌, ◌<◌}
use native.Mathlib.Omega.{arith}
use borrow.Author.Tests.{eqb-true, leb-true, lt-ltb, le-ltb}
use lib.Dec.{eqb}
use lib.Pow.{high, low}
use Rattle.word.proofs.Halves.{two_halves}
use Rattle.word.proofs.Integer.{residue-signed}
use Rattle.range.specs.Interval.{Interval}
use Rattle.range.specs.declared.ScalarType.{ScalarType}
use Rattle.range.proofs.Sound.{tests}
use Rattle.evaluate.specs.Operator.{BOOL, BITS, INTEGER, WIDEST, WIDTHS, OFFSETS, BINARY, unary_width, unary_of, is_unary_code, binary_of, is_binary_code, type_width}
use Rattle.evaluate.proofs.Codes.{unary-limits, binary-limits, unary_exact, binary_exact, width_exact}
use Rattle.graph.specs.Layout.{TYPE, WIDTH, RANGE, MIN, MAX, OPERATION, X, Y, Z, CONSTANT, INPUT, REFINE, EFFECT, SLICE, CONCAT, LIMIT, node_start, word_at, count_of}
use Rattle.graph.specs.Node as node
use Rattle.graph.specs.Node.{Op, Parts, narrow, pair, type_of, range_of, operation_of, type_at, range_at, operation_at, node_at, type_code, range_flag, range_low, range_high, op_code, op_x, op_y, op_z, words_of}
use Rattle.graph.specs.Insert.{start, same_key, interned}
use Rattle.graph.specs.WellFormed.{is_type, is_range, are_fields, is_operation, is_graph}
use Rattle.graph.proofs.Appended.{Exact, equal_key, new_key}
use Rattle.graph.proofs.Codes.{Stored}
use Rattle.graph.proofs.Grown.{Graph, Node, graph_facts, node_facts, start_le, picked, chosen, fields}
use Rattle.graph.proofs.Interned.{lowest-some, same_key_lem}
use Rattle.graph.proofs.Nodes.{length-words, type_read, range_read, operation_read}
use Rattle.graph.proofs.Words.{Words}

-- ---- types and ranges

-- the words of a type
abbrev TypeWords : ℕ → ℕ → ScalarType → Type 0
TypeWords code width t = (code ≡ type_code t) × (width ≡ type_width t)

-- question 1 has a type's words be those of what they stand for
type-words : (code width : ℕ) → is_type code width ≡ true → TypeWords code width (type_of code width)
type-words code width =
    picked (TypeWords code width) (eqb code BOOL) (λ q e. (eqb-true code BOOL q, eqb-true width 0 e))
    (λ q.
    picked (TypeWords code width) (eqb code BITS) (λ q e. let l = leb-true width WIDEST e in (eqb-true code BITS q, omega arith))
    (λ q. chosen (eqb code INTEGER) (λ q e. (eqb-true code INTEGER q, eqb-true width 0 e)) (λ q e. absurd (false≢true e))))

-- the flag of a range, and the patterns of its ends
abbrev RangeWords : ℕ → ℕ → ℕ → Option Interval → Type 0
RangeWords flag low high r = (flag ≡ range_flag r) × (low ≡ range_low r) × (high ≡ range_high r)

-- and a range's
range-words : (code width flag low high : ℕ) → low < 2 ^ 128 → high < 2 ^ 128 → is_range code width flag low high ≡ true
    → RangeWords flag low high (range_of flag low high)
range-words code width flag low high l h =
    picked (RangeWords flag low high) (eqb flag 0)
    (λ q e. let d = tests (eqb low 0) (eqb high 0) e in (eqb-true flag 0 q, eqb-true low 0 d.0, eqb-true high 0 d.1))
    (λ q e. (eqb-true flag 1 (tests (eqb flag 1) _ e).0, sym (residue-signed 128 low l), sym (residue-signed 128 high h)))

-- ---- operations

-- the words of an operation
abbrev OpWords : ℕ → ℕ → ℕ → ℕ → Op → Type 0
OpWords code x y z o = (code ≡ op_code o) × (x ≡ op_x o) × (y ≡ op_y o) × (z ≡ op_z o)

module _ (n code x y z : ℕ) (short : x < 2 ^ 64) where
  -- the words of this one
  abbrev Of : Op → Type 0
  Of = OpWords code x y z

  -- a unary operator
  unary-words : is_unary_code code z ≡ true → are_fields x n y 1 z WIDTHS ≡ true → Of (node.unary (unary_of code (narrow z)) x)
  unary-words q e =
      let h = fields x n y 1 z WIDTHS e in
      let l = unary-limits code z q in
      let k : z ≡ narrow z = omega arith in
      (unary_exact code (narrow z) l.0 l.1, refl, omega arith, subst (λ (v : ℕ). z ≡ unary_width (unary_of code v)) k (width_exact code z q))

  -- a binary operator
  binary-words : is_binary_code code ≡ true → are_fields x n y n z 1 ≡ true → Of (node.binary (binary_of code) x y)
  binary-words q e =
      let h = fields x n y n z 1 e in
      let l = binary-limits code q in
      (binary_exact code l.0 l.1, refl, refl, omega arith)

  -- an input or an effect
  no_operand : (c : ℕ) → eqb code c ≡ true → are_fields 0 1 y 1 z 1 ≡ true → (code ≡ c) × (x ≡ x) × (y ≡ 0) × (z ≡ 0)
  no_operand c q e = let h = fields 0 1 y 1 z 1 e in (eqb-true code c q, refl, omega arith, omega arith)

  -- each operation by its code
  operation-words : is_operation n code x y z ≡ true → Of (operation_of code x y z)
  operation-words =
      picked Of (eqb code CONSTANT) (λ q e. (eqb-true code CONSTANT q, sym (low y 64 short), sym (high y 64 short), eqb-true z 0 e))
      (λ q.
      picked Of (eqb code INPUT) (no_operand INPUT)
      (λ q.
      picked Of (eqb code REFINE) (λ q e. let h = fields x n y 1 z 1 e in (eqb-true code REFINE q, refl, omega arith, omega arith))
      (λ q.
      picked Of (eqb code EFFECT) (no_operand EFFECT)
      (λ q.
      picked Of (eqb code SLICE) (λ q e. let h = fields x n y OFFSETS z WIDTHS e in (eqb-true code SLICE q, refl, omega arith, omega arith))
      (λ q.
      picked Of (eqb code CONCAT) (λ q e. let h = fields x n y n z WIDTHS e in (eqb-true code CONCAT q, refl, refl, omega arith))
      (λ q.
      chosen (is_unary_code code z) (λ a f. let l = unary-limits code z a in rw (lt-ltb code BINARY (omega arith)) (unary-words a f))
      (λ a.
      chosen (is_binary_code code) (λ b f. rw (le-ltb code BINARY (binary-limits code b).0) (binary-words b f)) (λ b f. absurd (false≢true f)))))))))

-- ---- a node

-- the words of a node's key are those of what it reads
pub exact_of : {g : List ℕ} → Graph g → Words g → (n : ℕ) → n < count_of g → Exact g n
unfolding words_of
exact_of {g} f w n l = each
  where
    facts : Node g (count_of g) n
    facts = node_facts g (count_of g) n (f.node n l)

    type : TypeWords (word_at g n TYPE) (word_at g n WIDTH) (type_at g n)
    type = type-words (word_at g n TYPE) (word_at g n WIDTH) facts.type

    range : RangeWords (word_at g n RANGE) (pair (word_at g n MIN) (word_at g n (MIN + 1))) (pair (word_at g n MAX) (word_at g n (MAX + 1))) (range_at g n)
    range =
        range-words (word_at g n TYPE) (word_at g n WIDTH) (word_at g n RANGE) _ _
        (two_halves 64 {h = word_at g n (MIN + 1)} {l = word_at g n MIN} (w (node_start n + (MIN + 1))) (w (node_start n + MIN)))
        (two_halves 64 {h = word_at g n (MAX + 1)} {l = word_at g n MAX} (w (node_start n + (MAX + 1))) (w (node_start n + MAX))) facts.range

    operation : OpWords (word_at g n OPERATION) (word_at g n X) (word_at g n Y) (word_at g n Z) (operation_at g n)
    operation = operation-words n (word_at g n OPERATION) (word_at g n X) (word_at g n Y) (word_at g n Z) (w (node_start n + X)) facts.operation

    each : Exact g n
    each zero h = type.0
    each (suc zero) h = type.1
    each (suc (suc zero)) h = range.0
    each (suc (suc (suc zero))) h = sym (low (word_at g n (MIN + 1)) 64 (w (node_start n + MIN))) ∙ ap (λ (i : ℕ). i % 2 ^ 64) range.1
    each (suc (suc (suc (suc zero)))) h = sym (high (word_at g n (MIN + 1)) 64 (w (node_start n + MIN))) ∙ ap (λ (i : ℕ). i / 2 ^ 64) range.1
    each (suc (suc (suc (suc (suc zero))))) h = sym (low (word_at g n (MAX + 1)) 64 (w (node_start n + MAX))) ∙ ap (λ (i : ℕ). i % 2 ^ 64) range.2
    each (suc (suc (suc (suc (suc (suc zero)))))) h = sym (high (word_at g n (MAX + 1)) 64 (w (node_start n + MAX))) ∙ ap (λ (i : ℕ). i / 2 ^ 64) range.2
    each (suc (suc (suc (suc (suc (suc (suc zero))))))) h = operation.0
    each (suc (suc (suc (suc (suc (suc (suc (suc zero)))))))) h = operation.1
    each (suc (suc (suc (suc (suc (suc (suc (suc (suc zero))))))))) h = operation.2
    each (suc (suc (suc (suc (suc (suc (suc (suc (suc (suc zero)))))))))) h = operation.3
    each (suc (suc (suc (suc (suc (suc (suc (suc (suc (suc (suc k))))))))))) h = absurd (omega arith)

-- ---- interning

-- the lowest node that reads p, if there is one
abbrev pub Lowest : List ℕ → Parts → Option ℕ → Type 0
Lowest g p None = (n : ℕ) → n < count_of g → node_at g n ≡ p → ⊥
Lowest g p (Some n) = (n < count_of g) × (node_at g n ≡ p) × ((m : ℕ) → m < n → node_at g m ≡ p → ⊥)

-- interning finds the lowest of all nodes with a type, a range and an operation
pub interned_is_lowest : (g : List ℕ) (t : ScalarType) (r : Option Interval) (o : Op) → is_graph g ≡ true → Words g → Stored t r o
    → Lowest g (record { type = t; range = r; operation = o }) (interned g o (words_of t r o))
interned_is_lowest g t r o e w s = by (interned g o (words_of t r o)) refl
  where
    f : Graph g
    f = graph_facts g e

    by : (x : Option ℕ) → interned g o (words_of t r o) ≡ x → Lowest g (record { type = t; range = r; operation = o }) x
    by None q = new_key g t r o (start_le f) (exact_of f w) f.count q
    by (Some n) q =
        let d = lowest-some (same_key g (words_of t r o)) (min (start o) LIMIT) (min (count_of g) LIMIT - min (start o) LIMIT) n q in
        let key = (same_key_lem g (words_of t r o) n (length-words t r o)).0 d.2 in
        let below : n < count_of g = omega arith in (
          below,
          λ i. record { type = type_read g n t r o s key i; range = range_read g n t r o s key i; operation = operation_read g n t r o s key i },
          λ m l p. let same = equal_key g t r o (start_le f) (exact_of f w) m (omega arith) p in
              false≢true (sym (d.3 m (omega arith) l) ∙ same.1),
        )

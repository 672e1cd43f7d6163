-- What question 1 says: the facts of a graph, those of one of its nodes, and where the chains of its aliases end. Assumes nothing.
use mathlib.Core.Path.{◌≡◌, refl, ◌∙◌}
use mathlib.Core.Bool.{Bool, true, false, cond, false≢true}
use mathlib.Core.List.{List, [], ◌∷◌}
use mathlib.Core.Logic.{◌⊎◌, inl, inr, ⊎_elim}
use Prim.Native.Nat.{ℕ, zero, suc, ◌+◌, ◌-◌, ◌<◌, ◌≤◌}
use native.Mathlib.Nat.{le_refl}
use native.Mathlib.Omega.{arith}
use borrow.Author.Tests.{ltb-true, leb-true, eqb-true, eq-eqb, ne_eqb, lt-ltb, le-leb}
use lib.Dec.{eqb, ltb, leb, lit≤}
use lib.ListN as list
use lib.ListN.{get_or, drop}
use lib.Seq.{get_or-drop}
use Rattle.range.specs.declared.ScalarType.TheVariants as ty
use Rattle.range.proofs.Sound.{tests, either}
use Rattle.evaluate.specs.Operator.{BOOL, BITS, INTEGER, WIDEST, WIDTHS, OFFSETS, BINARY, is_unary_code, is_binary_code, type_width}
use Rattle.evaluate.specs.declared.Unary.{Unary}
use Rattle.evaluate.specs.declared.Binary.{Binary}
use Rattle.graph.specs.Layout.{TYPE, WIDTH, RANGE, MIN, MAX, OPERATION, X, Y, Z, CONSTANT, INPUT, REFINE, EFFECT, SLICE, CONCAT, REGION, LIMIT, node_start, word_at, count_of}
use Rattle.graph.specs.Node as node
use Rattle.graph.specs.Node.{Op, narrow, pair, type_of, type_at, operation_of, operation_at, alias_at}
use Rattle.graph.specs.Insert.{start, follow, resolve}
use Rattle.graph.specs.WellFormed.{is_type, is_range, are_fields, is_operation, is_alias, is_node, are_nodes, are_zeros, is_graph}
use Rattle.graph.proofs.Tests.{pass_of, all_pass_lem}

-- ---- tests

-- what the passed tests of a chain show of what a second chain picks by them
pub picked : {A : Type 0} (P : A → Type 0) (t : Bool) {a b : Bool} {x y : A} → (t ≡ true → a ≡ true → P x) → (t ≡ false → b ≡ true → P y)
    → cond t a b ≡ true → P (cond t x y)
picked P true f h = f refl
picked P false f h = h refl

pub chosen : {C : Type 0} (t : Bool) {a b : Bool} → (t ≡ true → a ≡ true → C) → (t ≡ false → b ≡ true → C) → cond t a b ≡ true → C
chosen true f h = f refl
chosen false f h = h refl

-- ---- a graph

pub record Graph (g : List ℕ) : Type 0 where
  pub length : list.length g ≡ REGION
  pub count : count_of g ≤ LIMIT
  pub node : (n : ℕ) → n < count_of g → is_node g (count_of g) n ≡ true
  pub rest : (i : ℕ) → node_start (count_of g) ≤ i → get_or g i 0 ≡ 0

zero_of : (l : List ℕ) → are_zeros l ≡ true → (i : ℕ) → get_or l i 0 ≡ 0
zero_of [] e i = refl
zero_of (w ∷ l) e zero = eqb-true w 0 (tests (eqb w 0) (are_zeros l) e).0
zero_of (w ∷ l) e (suc i) = zero_of l (tests (eqb w 0) (are_zeros l) e).1 i

zeros_of : (l : List ℕ) → ((i : ℕ) → get_or l i 0 ≡ 0) → are_zeros l ≡ true
zeros_of [] h = refl
zeros_of (w ∷ l) h = rw (eq-eqb w 0 (h 0)) (zeros_of l (λ i. h (suc i)))

module _ (g : List ℕ) where
  pub graph_facts : is_graph g ≡ true → Graph g
  unfolding is_graph
  graph_facts e =
      let s = node_start (count_of g) in
      let d = tests (eqb (list.length g) REGION) _ e in
      let f = tests (leb (count_of g) LIMIT) _ d.1 in
      let h = tests (are_nodes g (count_of g) (count_of g)) (are_zeros (drop s g)) f.1 in
      record {
        length = eqb-true (list.length g) REGION d.0;
        count = leb-true (count_of g) LIMIT f.0;
        node = pass_of (is_node g (count_of g)) (count_of g) h.0;
        rest = λ i l.
            let q : s + (i - s) ≡ i = omega arith in
            rw (← q, ← get_or-drop s g (i - s) 0) (zero_of (drop s g) h.1 (i - s));
      }

  pub facts_graph : Graph g → is_graph g ≡ true
  unfolding is_graph
  facts_graph f =
      let s = node_start (count_of g) in
      rw (eq-eqb (list.length g) REGION f.length, le-leb (count_of g) LIMIT f.count, all_pass_lem (is_node g (count_of g)) (count_of g) f.node)
      (zeros_of (drop s g) (λ i. get_or-drop s g i 0 ∙ f.rest (s + i) (omega arith)))

-- ---- one node

pub record Node (g : List ℕ) (count n : ℕ) : Type 0 where
  pub type : is_type (word_at g n TYPE) (word_at g n WIDTH) ≡ true
  pub range
      : is_range (word_at g n TYPE) (word_at g n WIDTH) (word_at g n RANGE) (pair (word_at g n MIN) (word_at g n (MIN + 1))) (pair (word_at g n MAX) (word_at g n (MAX + 1))) ≡ true
  pub alias : (alias_at g n ≡ 0) ⊎ ((n < alias_at g n - 1) × (alias_at g n ≤ count))
  pub operation : is_operation n (word_at g n OPERATION) (word_at g n X) (word_at g n Y) (word_at g n Z) ≡ true

pub alias_facts : (n count alias : ℕ) → is_alias n count alias ≡ true → (alias ≡ 0) ⊎ ((n < alias - 1) × (alias ≤ count))
alias_facts n count alias e =
    ⊎_elim (λ z. inl (eqb-true alias 0 z))
    (λ z. let d = tests (ltb n (alias - 1)) (leb alias count) z in inr (ltb-true n (alias - 1) d.0, leb-true alias count d.1))
    (either (eqb alias 0) _ e)

facts_alias : (n count alias : ℕ) → (alias ≡ 0) ⊎ ((n < alias - 1) × (alias ≤ count)) → is_alias n count alias ≡ true
facts_alias n count alias (inl e) = rw (eq-eqb alias 0 e)
facts_alias n count alias (inr f) =
    rw (ne_eqb alias 0 (λ e. omega arith), lt-ltb n (alias - 1) f.0, le-leb alias count f.1)

module _ (g : List ℕ) (count n : ℕ) where
  pub node_facts : is_node g count n ≡ true → Node g count n
  node_facts e =
      let d = tests (is_type (word_at g n TYPE) (word_at g n WIDTH)) _ e in
      let f = tests (is_range (word_at g n TYPE) (word_at g n WIDTH) (word_at g n RANGE) (pair (word_at g n MIN) (word_at g n (MIN + 1))) (pair (word_at g n MAX) (word_at g n (MAX + 1)))) _ d.1 in
      let h = tests (is_alias n count (alias_at g n)) _ f.1 in
      record { type = d.0; range = f.0; alias = alias_facts n count (alias_at g n) h.0; operation = h.1 }

  pub facts_node : Node g count n → is_node g count n ≡ true
  facts_node f = rw (f.type, f.range, facts_alias n count (alias_at g n) f.alias) f.operation

-- a type's width is at most WIDEST
type_small : (code width : ℕ) → is_type code width ≡ true → type_width (type_of code width) ≤ WIDEST
type_small code width = by (eqb code BOOL) (eqb code BITS)
  where
    by : (s t : Bool) → cond s (eqb width 0) (cond t (leb width WIDEST) (cond (eqb code INTEGER) (eqb width 0) false)) ≡ true
        → type_width (cond s ty.Bool (cond t (ty.Bits (narrow width)) ty.Integer)) ≤ WIDEST
    by true t e = lit≤ tt
    by false true e = let l = leb-true width WIDEST e in omega arith
    by false false e = lit≤ tt

-- fields that pass are below their bounds
pub fields : (x xlimit y ylimit z zlimit : ℕ) → are_fields x xlimit y ylimit z zlimit ≡ true → (x < xlimit) × (y < ylimit) × (z < zlimit)
fields x xlimit y ylimit z zlimit e =
    let d = tests (ltb x xlimit) _ e in
    let f = tests (ltb y ylimit) (ltb z zlimit) d.1 in
    (ltb-true x xlimit d.0, ltb-true y ylimit f.0, ltb-true z zlimit f.1)

-- an operation's operands are below its node; its width, and a slice's offset, are u16
pub record Operation (n code x y z : ℕ) : Type 0 where
  pub below : start (operation_of code x y z) ≤ n
  pub width : narrow z ≡ z
  pub offset : code ≡ SLICE → narrow y ≡ y

module _ (n code x y z : ℕ) where
  abbrev Held : Op → Type 0
  Held o = (start o ≤ n) × (narrow z ≡ z)

  no_operand : are_fields 0 1 y 1 z 1 ≡ true → (0 ≤ n) × (narrow z ≡ z)
  no_operand e = let h = fields 0 1 y 1 z 1 e in (omega arith, omega arith)

  one_operand : are_fields x n y 1 z WIDTHS ≡ true → (x < n) × (y < n) × (z < WIDTHS)
  one_operand e = let h = fields x n y 1 z WIDTHS e in (omega arith, omega arith, omega arith)

  operator : (t : Bool) (u : Unary) (b : Binary) → (x < n) × (y < n) × (z < WIDTHS) → Held (cond t (node.unary u x) (node.binary b x y))
  operator true u b h = (omega arith, omega arith)
  operator false u b h = (omega arith, omega arith)

  held : is_operation n code x y z ≡ true → Held (operation_of code x y z)
  held =
      picked Held (eqb code CONSTANT) (λ q e. let h = eqb-true z 0 e in (omega arith, omega arith))
      (λ q.
      picked Held (eqb code INPUT) (λ q. no_operand)
      (λ q.
      picked Held (eqb code REFINE) (λ q e. let h = fields x n y 1 z 1 e in (omega arith, omega arith))
      (λ q.
      picked Held (eqb code EFFECT) (λ q. no_operand)
      (λ q.
      picked Held (eqb code SLICE) (λ q e. let h = fields x n y OFFSETS z WIDTHS e in (omega arith, omega arith))
      (λ q.
      picked Held (eqb code CONCAT) (λ q e. let h = fields x n y n z WIDTHS e in (omega arith, omega arith))
      (λ q e.
      operator (ltb code BINARY) _ _
      (chosen (is_unary_code code z) (λ q. one_operand)
      (λ q.
      chosen (is_binary_code code) (λ q f. let h = fields x n y n z 1 f in (omega arith, omega arith, omega arith)) (λ q f. absurd (false≢true f))) e)))))))

  operation_facts : is_operation n code x y z ≡ true → Operation n code x y z
  operation_facts e =
      record {
        below = (held e).0;
        width = (held e).1;
        offset = λ q. let h = fields x n y OFFSETS z WIDTHS (rw q at e) in omega arith;
      }

-- ---- the nodes of a graph

module _ {g : List ℕ} (f : Graph g) where
  pub alias_of : (n : ℕ) → n < count_of g → (alias_at g n ≡ 0) ⊎ ((n < alias_at g n - 1) × (alias_at g n ≤ count_of g))
  alias_of n h = (node_facts g (count_of g) n (f.node n h)).alias

  -- a type's width is at most WIDEST
  pub width_of : (n : ℕ) → n < count_of g → type_width (type_at g n) ≤ WIDEST
  width_of n h = type_small (word_at g n TYPE) (word_at g n WIDTH) (node_facts g (count_of g) n (f.node n h)).type

  pub operation_of_lem : (n : ℕ) → n < count_of g → Operation n (word_at g n OPERATION) (word_at g n X) (word_at g n Y) (word_at g n Z)
  operation_of_lem n h = operation_facts n _ _ _ _ (node_facts g (count_of g) n (f.node n h)).operation

  pub start_le : (n : ℕ) → n < count_of g → start (operation_at g n) ≤ n
  start_le n h = (operation_of_lem n h).below

  follow-within : (k n : ℕ) → n < count_of g → (n ≤ follow g k n) × (follow g k n < count_of g)
  follow-within zero n h = (le_refl n, h)
  follow-within (suc k) n h =
      ⊎_elim (λ e. rw (eq-eqb (alias_at g n) 0 e) (le_refl n, h))
      (λ a.
      let w = follow-within k (alias_at g n - 1) (omega arith) in
      rw (ne_eqb (alias_at g n) 0 (λ e. omega arith)) (omega arith, w.1))
      (alias_of n h)

  pub follow_end : (k n : ℕ) → n < count_of g → count_of g - n ≤ k → alias_at g (follow g k n) ≡ 0
  follow_end zero n h l = absurd (omega arith)
  follow_end (suc k) n h l =
      ⊎_elim (λ e. rw (eq-eqb (alias_at g n) 0 e) e)
      (λ a. rw (ne_eqb (alias_at g n) 0 (λ e. omega arith)) (follow_end k (alias_at g n - 1) (omega arith) (omega arith)))
      (alias_of n h)

  module _ (n : ℕ) (h : n < count_of g) where
    pub resolve-within : (n ≤ resolve g n) × (resolve g n < count_of g)
    unfolding resolve
    resolve-within = follow-within LIMIT n h

    pub resolve_end : alias_at g (resolve g n) ≡ 0
    unfolding resolve
    resolve_end = follow_end LIMIT n h (omega (arith, f.count))

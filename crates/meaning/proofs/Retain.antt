-- Retain keeps what nodes mean: values and ranges carry over by the mapping, and the invariant holds of what is left. Assumes nothing.
use mathlib.Core.Path.{◌≡◌, refl, sym, ap, ◌∙◌, subst}
use mathlib.Core.Bool.{true}
use mathlib.Core.List.{List}
use mathlib.Core.Logic.{◌⊎◌, inl, ⊎_elim}
use Rattle.std.specs.Prelude.{Some}
use Prim.Native.Nat.{ℕ, zero, suc, ◌-◌, ◌≤◌, ◌<◌}
use native.Mathlib.Decide.{dec_lt}
use native.Mathlib.Omega.{arith}
use borrow.Author.Tests.{ne_eqb, lt-ltb, le-ltb, le-leb, lt-leb}
use lib.Dec.{lit<}
use lib.ListN.{get_or}
use Rattle.word.proofs.Integer.{lt-or-ge}
use Rattle.range.specs.Interval.{Interval}
use Rattle.range.specs.declared.ScalarType.{ScalarType}
use Rattle.evaluate.specs.Operator.{unary_code, binary_code}
use Rattle.graph.specs.Layout.{OPERATION, X, Y, Z, KEY, word_at, count_of}
use Rattle.graph.specs.Node as node
use Rattle.graph.specs.Node.{Op, Parts, type_at, range_at, operation_of, operation_at, node_at, alias_at, op_code, op_x, op_y, op_z, words_of}
use Rattle.graph.proofs.Grown.{Graph, graph_facts, start_le}
use Rattle.graph.proofs.Nodes.{Holds}
use Rattle.retain.specs.Retain.{is_kept, has_first, has_second, kept_below, new_id, through, moved_words, retained, renamed}
use Rattle.retain.proofs.Operands.{KeepList, first_below, second_below, first_kept, second_kept}
use Rattle.retain.proofs.Laws.{id_kept, kept_mono, kept_less, new_apart, retained-count, retained_word, retained-node}
use Rattle.retain.proofs.Grown.{Origin, origin_of, retained-graph}
use Rattle.request.specs.Typing.{unary_typed, concat_typed}
use Rattle.graph.proofs.Appended.{words_for, Exact, Keys}
use Rattle.meaning.specs.Value.{Operand}
use Rattle.meaning.proofs.Worlds.{World, operation_means, operand, value}
use Rattle.meaning.proofs.Values.{value_step}
use Rattle.meaning.proofs.Invariant.{stored_typed, Typed, Refined, Ends, Within, Leads, Inv, inv_graph, inv_step}
use Rattle.graph.proofs.Codes.{operator}
use Rattle.evaluate.proofs.Codes.{unary_code_lem, binary_code_lem}

-- ---- an operation with its operands renumbered

-- the operands of an operation have a property
abbrev Operands : (ℕ → Type 0) → Op → Type 0
Operands P (node.constant c) = Unit {0}
Operands P (node.input i) = Unit {0}
Operands P (node.refine i) = P i
Operands P (node.effect i) = Unit {0}
Operands P (node.slice i o w) = P i
Operands P (node.concat i j v) = P i × P j
Operands P (node.unary u i) = P i
Operands P (node.binary b i j) = P i × P j

operands-map : (P Q : ℕ → Type 0) → ((i : ℕ) → P i → Q i) → (o : Op) → Operands P o → Operands Q o
operands-map P Q h (node.constant c) e = tt
operands-map P Q h (node.input i) e = tt
operands-map P Q h (node.refine i) e = h i e
operands-map P Q h (node.effect i) e = tt
operands-map P Q h (node.slice i o w) e = h i e
operands-map P Q h (node.concat i j v) e = (h i e.0, h j e.1)
operands-map P Q h (node.unary u i) e = h i e
operands-map P Q h (node.binary b i j) e = (h i e.0, h j e.1)

-- by the words that hold them
operands_of : (P : ℕ → Type 0) (code x y z : ℕ) → (has_first code ≡ true → P x) → (has_second code ≡ true → P y) → Operands P (operation_of code x y z)
operands_of P zero x y z a b = tt
operands_of P (suc zero) x y z a b = tt
operands_of P (suc (suc zero)) x y z a b = a refl
operands_of P (suc (suc (suc zero))) x y z a b = tt
operands_of P (suc (suc (suc (suc zero)))) x y z a b = a refl
operands_of P (suc (suc (suc (suc (suc zero))))) x y z a b = (a refl, b refl)
operands_of P (suc (suc (suc (suc (suc (suc c)))))) x y z a b =
    let code = suc (suc (suc (suc (suc (suc c))))) in
    let first : has_first code ≡ true = rw (ne_eqb code 2 (λ q. omega arith), le-leb 4 code (omega arith)) in
    rw (operator code x y z (omega arith))
    (⊎_elim (λ (s : code < 20). rw (lt-ltb code 20 s) (a first))
    (λ (s : 20 ≤ code).
    let second : has_second code ≡ true = rw (ne_eqb code 5 (λ q. omega arith), le-leb 20 code s) in
    rw (le-ltb code 20 s) (a first, b second))
    (lt-or-ge code 20))

means-renamed : (ρ : World) (t : ScalarType) (f : ℕ → ℕ) (look new : ℕ → Operand) (o : Op) → Operands (λ i. new (f i) ≡ look i) o
    → operation_means ρ t (renamed f o) new ≡ operation_means ρ t o look
means-renamed ρ t f look new (node.constant c) e = refl
means-renamed ρ t f look new (node.input i) e = refl
means-renamed ρ t f look new (node.refine i) e = rw e
means-renamed ρ t f look new (node.effect i) e = refl
means-renamed ρ t f look new (node.slice i o w) e = rw e
means-renamed ρ t f look new (node.concat i j v) e = rw (e.0, e.1)
means-renamed ρ t f look new (node.unary u i) e = rw e
means-renamed ρ t f look new (node.binary b i j) e = rw (e.0, e.1)

typed-renamed : (g h : List ℕ) (t : ScalarType) (f : ℕ → ℕ) (o : Op) → Operands (λ i. type_at h (f i) ≡ type_at g i) o → Typed g t o → Typed h t (renamed f o)
typed-renamed g h t f (node.constant c) e w = w
typed-renamed g h t f (node.input i) e w = tt
typed-renamed g h t f (node.refine i) e w = tt
typed-renamed g h t f (node.effect i) e w = tt
typed-renamed g h t f (node.slice i o v) e w = w
typed-renamed g h t f (node.concat i j v) e w = (w.0, w.1, (λ k. concat_typed (e.0 k) (e.1 k) v w.0) ∙ w.2)
typed-renamed g h t f (node.unary u i) e w = ap (λ (a : ScalarType). unary_typed u a t) e ∙ w
typed-renamed g h t f (node.binary b i j) e w = (λ k. stored_typed b (e.0 k) (e.1 k) t) ∙ w

refined-renamed : (ρ : World) (g h : List ℕ) (t : ScalarType) (f : ℕ → ℕ) (o : Op) → Operands (λ i. value ρ h (f i) ≡ value ρ g i) o → Refined (value ρ g) t o
    → Refined (value ρ h) t (renamed f o)
refined-renamed ρ g h t f (node.constant c) e w = tt
refined-renamed ρ g h t f (node.input i) e w = tt
refined-renamed ρ g h t f (node.refine i) e w = λ v q. w v (sym e ∙ q)
refined-renamed ρ g h t f (node.effect i) e w = tt
refined-renamed ρ g h t f (node.slice i o v) e w = tt
refined-renamed ρ g h t f (node.concat i j v) e w = tt
refined-renamed ρ g h t f (node.unary u i) e w = tt
refined-renamed ρ g h t f (node.binary b i j) e w = tt

-- ---- words and keys

-- another function takes the operands back
renamed_back : (f h : ℕ → ℕ) (o : Op) → Operands (λ i. h (f i) ≡ i) o → renamed h (renamed f o) ≡ o
renamed_back f h (node.constant c) e = refl
renamed_back f h (node.input i) e = refl
renamed_back f h (node.refine i) e = ap node.refine e
renamed_back f h (node.effect i) e = refl
renamed_back f h (node.slice i o w) e = ap (λ (j : ℕ). node.slice j o w) e
renamed_back f h (node.concat i j v) e = λ k. node.concat (e.0 k) (e.1 k) v
renamed_back f h (node.unary u i) e = ap (node.unary u) e
renamed_back f h (node.binary b i j) e = λ k. node.binary b (e.0 k) (e.1 k)

-- the words of a renamed operation
module _ (f : ℕ → ℕ) where
  code_renamed : (o : Op) → op_code (renamed f o) ≡ op_code o
  code_renamed (node.constant c) = refl
  code_renamed (node.input i) = refl
  code_renamed (node.refine i) = refl
  code_renamed (node.effect i) = refl
  code_renamed (node.slice i o w) = refl
  code_renamed (node.concat i j v) = refl
  code_renamed (node.unary u i) = refl
  code_renamed (node.binary b i j) = refl

  parameter_renamed : (o : Op) → op_z (renamed f o) ≡ op_z o
  parameter_renamed (node.constant c) = refl
  parameter_renamed (node.input i) = refl
  parameter_renamed (node.refine i) = refl
  parameter_renamed (node.effect i) = refl
  parameter_renamed (node.slice i o w) = refl
  parameter_renamed (node.concat i j v) = refl
  parameter_renamed (node.unary u i) = refl
  parameter_renamed (node.binary b i j) = refl

  first_renamed : (o : Op) → through f (has_first (op_code o)) (op_x o) ≡ op_x (renamed f o)
  first_renamed (node.constant c) = refl
  first_renamed (node.input i) = refl
  first_renamed (node.refine i) = refl
  first_renamed (node.effect i) = refl
  first_renamed (node.slice i o w) = refl
  first_renamed (node.concat i j v) = refl
  first_renamed (node.unary u i) =
      let c = unary_code_lem u in rw (ne_eqb (unary_code u) 2 (λ e. omega arith), le-leb 4 (unary_code u) (omega arith))
  first_renamed (node.binary b i j) =
      let c = binary_code_lem b in rw (ne_eqb (binary_code b) 2 (λ e. omega arith), le-leb 4 (binary_code b) (omega arith))

  second_renamed : (o : Op) → through f (has_second (op_code o)) (op_y o) ≡ op_y (renamed f o)
  second_renamed (node.constant c) = refl
  second_renamed (node.input i) = refl
  second_renamed (node.refine i) = refl
  second_renamed (node.effect i) = refl
  second_renamed (node.slice i o w) = refl
  second_renamed (node.concat i j v) = refl
  second_renamed (node.unary u i) =
      let c = unary_code_lem u in rw (ne_eqb (unary_code u) 5 (λ e. omega arith), lt-leb 20 (unary_code u) (omega arith))
  second_renamed (node.binary b i j) =
      let c = binary_code_lem b in rw (ne_eqb (binary_code b) 5 (λ e. omega arith), le-leb 20 (binary_code b) (omega arith))

  -- the words of a node that has those of its parts, moved
  moved_exact : (g : List ℕ) (n : ℕ) (p : Parts) → ((k : ℕ) → k < KEY → word_at g n k ≡ get_or (words_for p) k 0)
      → (k : ℕ) → k < KEY → get_or (moved_words f g n) k 0 ≡ get_or (words_of p.type p.range (renamed f p.operation)) k 0
  unfolding moved_words words_of
  moved_exact g n p e zero h = e 0 (lit< tt)
  moved_exact g n p e (suc zero) h = e 1 (lit< tt)
  moved_exact g n p e (suc (suc zero)) h = e 2 (lit< tt)
  moved_exact g n p e (suc (suc (suc zero))) h = e 3 (lit< tt)
  moved_exact g n p e (suc (suc (suc (suc zero)))) h = e 4 (lit< tt)
  moved_exact g n p e (suc (suc (suc (suc (suc zero))))) h = e 5 (lit< tt)
  moved_exact g n p e (suc (suc (suc (suc (suc (suc zero)))))) h = e 6 (lit< tt)
  moved_exact g n p e (suc (suc (suc (suc (suc (suc (suc zero))))))) h = e 7 (lit< tt) ∙ sym (code_renamed p.operation)
  moved_exact g n p e (suc (suc (suc (suc (suc (suc (suc (suc zero)))))))) h =
      (λ i. through f (has_first (e 7 (lit< tt) i)) (e 8 (lit< tt) i)) ∙ first_renamed p.operation
  moved_exact g n p e (suc (suc (suc (suc (suc (suc (suc (suc (suc zero))))))))) h =
      (λ i. through f (has_second (e 7 (lit< tt) i)) (e 9 (lit< tt) i)) ∙ second_renamed p.operation
  moved_exact g n p e (suc (suc (suc (suc (suc (suc (suc (suc (suc (suc zero)))))))))) h = e 10 (lit< tt) ∙ sym (parameter_renamed p.operation)
  moved_exact g n p e (suc (suc (suc (suc (suc (suc (suc (suc (suc (suc (suc k))))))))))) h = absurd (omega arith)

-- the kept node at a place, 0 past the last
abbrev origin : (keep : List ℕ) (c j : ℕ) → Dec (j < kept_below keep c) → ℕ
origin keep c j (yes l) = (origin_of keep c j l).old
origin keep c j (no l) = 0

origin_is : (keep : List ℕ) (c n : ℕ) → n < c → is_kept keep n ≡ true → (d : Dec (kept_below keep n < kept_below keep c)) → origin keep c (kept_below keep n) d ≡ n
origin_is keep c n l e (yes h) =
    let o = origin_of keep c (kept_below keep n) h in
    new_apart keep o.old n o.kept e (id_kept keep o.old o.kept ∙ o.new ∙ sym (id_kept keep n e))
origin_is keep c n l e (no h) = absurd (h (kept_less keep n c l e))

-- ---- what is left

module _ (ρ : World) {g keep mapping : List ℕ} (i : Inv ρ g) (d : KeepList g keep mapping) where
  f : Graph g
  f = inv_graph i

  left : Graph (retained g keep)
  left = graph_facts (retained g keep) (retained-graph f d)

  module _ (n : ℕ) (l : n < count_of g) (e : is_kept keep n ≡ true) where
    pub kept_here : kept_below keep n < count_of (retained g keep)
    kept_here = omega (arith, kept_less keep n (count_of g) l e, retained-count g keep f)

    at : Holds (retained g keep) (kept_below keep n) (type_at g n) (range_at g n) (renamed (new_id keep) (operation_at g n)) 0
    at = retained-node g keep f n l e

    operands : Operands (λ j. (j < n) × (is_kept keep j ≡ true)) (operation_at g n)
    operands =
        operands_of (λ j. (j < n) × (is_kept keep j ≡ true)) (word_at g n OPERATION) (word_at g n X) (word_at g n Y) (word_at g n Z)
        (λ a. (first_below f n l a, first_kept d n l e a)) (λ a. (second_below f n l a, second_kept d n l e a))

    step : value ρ (retained g keep) (kept_below keep n)
        ≡ operation_means ρ (type_at g n) (renamed (new_id keep) (operation_at g n)) (operand ρ (retained g keep))
    step =
        value_step ρ.env (retained g keep) (kept_below keep n) (start_le left (kept_below keep n) kept_here)
        ∙ (λ k. operation_means ρ (at.type k) (at.operation k) (operand ρ (retained g keep)))

  value_below : (m n : ℕ) → n < m → (l : n < count_of g) → (e : is_kept keep n ≡ true) → value ρ (retained g keep) (kept_below keep n) ≡ value ρ g n
  value_below zero n q l e = absurd (omega arith)
  value_below (suc m) n q l e = go (λ j p k. value_below m j (omega arith) (omega arith) k)
    where
      go : ((j : ℕ) → j < n → is_kept keep j ≡ true → value ρ (retained g keep) (kept_below keep j) ≡ value ρ g j)
          → value ρ (retained g keep) (kept_below keep n) ≡ value ρ g n
      go ih =
          step n l e
          ∙ means-renamed ρ (type_at g n) (new_id keep) (operand ρ g) (operand ρ (retained g keep)) (operation_at g n)
          (operands-map (λ j. (j < n) × (is_kept keep j ≡ true)) (λ j. operand ρ (retained g keep) (new_id keep j) ≡ operand ρ g j)
          (λ j p. ap (operand ρ (retained g keep)) (id_kept keep j p.1) ∙ (λ k. record { type = (at j (omega (arith, p.0)) p.1).type k; val = ih j p.0 p.1 k })) (operation_at g n) (operands n l e))
          ∙ sym (inv_step i n l)

  module _ (n : ℕ) (l : n < count_of g) (e : is_kept keep n ≡ true) where
    -- a kept node means what it meant
    pub retain-value : value ρ (retained g keep) (kept_below keep n) ≡ value ρ g n
    retain-value = value_below (suc n) n (omega arith) l e

    retain-type : type_at (retained g keep) (kept_below keep n) ≡ type_at g n
    retain-type = (at n l e).type

  -- what holds of every kept node holds of every node that is left
  each : (P : ℕ → Type 0) → ((n : ℕ) → n < count_of g → is_kept keep n ≡ true → P (kept_below keep n)) → (j : ℕ) → j < count_of (retained g keep) → P j
  each P h j l = go (origin_of keep (count_of g) j (omega (arith, retained-count g keep f)))
    where
      go : Origin keep (count_of g) j → P j
      go o = subst P o.new (h o.old o.below o.kept)

  moved : (P : ℕ → Type 0) (n : ℕ) → (l : n < count_of g) → (e : is_kept keep n ≡ true)
      → ((j : ℕ) → j < count_of g → is_kept keep j ≡ true → P j) → Operands P (operation_at g n)
  moved P n l e h =
      operands-map (λ j. (j < n) × (is_kept keep j ≡ true)) P (λ j p. let b = p.0 in h j (omega arith) p.1) (operation_at g n) (operands n l e)

  -- ---- keys

  -- a kept node whole
  node_at_lem : (n : ℕ) → n < count_of g → is_kept keep n ≡ true
      → node_at (retained g keep) (kept_below keep n) ≡ record { type = type_at g n; range = range_at g n; operation = renamed (new_id keep) (operation_at g n) }
  node_at_lem n l e = let h = at n l e in λ k. record { type = h.type k; range = h.range k; operation = h.operation k }

  exact_at : (n : ℕ) → n < count_of g → is_kept keep n ≡ true → Exact (retained g keep) (kept_below keep n)
  exact_at n l e k h =
      retained_word g keep f n l e k (omega arith) ∙ moved_exact (new_id keep) g n (node_at g n) (i.exact n l) k h
      ∙ ap (λ (p : Parts). get_or (words_for p) k 0) (sym (node_at_lem n l e))

  -- the mapping taken back
  back : ℕ → ℕ
  back j = origin keep (count_of g) j (dec_lt j (kept_below keep (count_of g)))

  operation_back : (n : ℕ) → n < count_of g → is_kept keep n ≡ true → renamed back (renamed (new_id keep) (operation_at g n)) ≡ operation_at g n
  unfolding back
  operation_back n l e =
      renamed_back (new_id keep) back (operation_at g n)
      (moved (λ j. back (new_id keep j) ≡ j) n l e
      (λ j b k. ap back (id_kept keep j k) ∙ origin_is keep (count_of g) j b k (dec_lt (kept_below keep j) (kept_below keep (count_of g)))))

  -- nodes that are equal were equal
  same_node : (n m : ℕ) → n < count_of g → m < count_of g → is_kept keep n ≡ true → is_kept keep m ≡ true
      → node_at (retained g keep) (kept_below keep n) ≡ node_at (retained g keep) (kept_below keep m) → node_at g n ≡ node_at g m
  same_node n m ln lm kn km e =
      let q = sym (node_at_lem n ln kn) ∙ e ∙ node_at_lem m lm km in
      let o : operation_at g n ≡ operation_at g m =
      sym (operation_back n ln kn) ∙ ap (λ (p : Parts). renamed back p.operation) q ∙ operation_back m lm km in
      λ k. record { type = (q k).type; range = (q k).range; operation = o k }

  keys_left : Keys (retained g keep)
  keys_left n m a b e =
      go (origin_of keep (count_of g) n (omega (arith, retained-count g keep f))) (origin_of keep (count_of g) m (omega (arith, retained-count g keep f)))
    where
      go : Origin keep (count_of g) n → Origin keep (count_of g) m → ⊥
      go p q =
          ⊎_elim
          (λ (l : p.old < q.old).
          i.keys p.old q.old l q.below
          (same_node p.old q.old p.below q.below p.kept q.kept
          (ap (node_at (retained g keep)) p.new ∙ e ∙ ap (node_at (retained g keep)) (sym q.new))))
          (λ (l : q.old ≤ p.old). omega (arith, a, p.new, q.new, kept_mono keep q.old p.old l)) (lt-or-ge p.old q.old)

  pub retain_inv : Inv ρ (retained g keep)
  retain_inv = record {
    graph = retained-graph f d;
    exact = each (Exact (retained g keep)) exact_at;
    keys = keys_left;
    typed =
        each (λ j. Typed (retained g keep) (type_at (retained g keep) j) (operation_at (retained g keep) j))
        (λ n l e.
        rw ((at n l e).type, (at n l e).operation)
        (typed-renamed g (retained g keep) (type_at g n) (new_id keep) (operation_at g n)
        (moved (λ j. type_at (retained g keep) (new_id keep j) ≡ type_at g j) n l e
        (λ j b k. ap (type_at (retained g keep)) (id_kept keep j k) ∙ retain-type j b k)) (i.typed n l)));
    refined =
        each (λ j. ρ.IsSure → Refined (value ρ (retained g keep)) (type_at (retained g keep) j) (operation_at (retained g keep) j))
        (λ n l e sure.
        rw ((at n l e).type, (at n l e).operation)
        (refined-renamed ρ g (retained g keep) (type_at g n) (new_id keep) (operation_at g n)
        (moved (λ j. value ρ (retained g keep) (new_id keep j) ≡ value ρ g j) n l e
        (λ j b k. ap (value ρ (retained g keep)) (id_kept keep j k) ∙ retain-value j b k)) (i.refined n l sure)));
    ends =
        each (λ j. (a : Interval) → range_at (retained g keep) j ≡ Some a → Ends a)
        (λ n l e a q. i.ends n l a (sym (at n l e).range ∙ q));
    ranged =
        each (λ j. ρ.IsSure → (v : ℕ) → value ρ (retained g keep) j ≡ Some v → Within (type_at (retained g keep) j) v (range_at (retained g keep) j))
        (λ n l e sure v q. rw ((at n l e).type, (at n l e).range) (i.ranged n l sure v (sym (retain-value n l e) ∙ q)));
    alias =
        each (λ j. (alias_at (retained g keep) j ≡ 0) ⊎ Leads ρ (retained g keep) j (alias_at (retained g keep) j - 1))
        (λ n l e. inl (at n l e).alias);
  }

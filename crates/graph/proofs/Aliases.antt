-- An alias set on a node of a graph to a node above it: that word changes and no other, and the region stays a graph. Assumes nothing.
use mathlib.Core.Path.{◌≡◌, ◌∙◌, subst}
use mathlib.Core.Bool.{true}
use mathlib.Core.List.{List}
use mathlib.Core.Logic.{◌⊎◌, inr}
use Prim.Native.Nat.{ℕ, ◌+◌, ◌-◌, ◌<◌, ◌≤◌}
use native.Mathlib.Decide.{dec_lt}
use native.Mathlib.Omega.{arith}
use borrow.Author.Tests.{lt-ltb}
use lib.ListN as list
use lib.ListN.{get_or, set, length-set}
use lib.Seq.{get_or-set_other, get_or-set_same}
use Rattle.graph.specs.Layout.{TYPE, WIDTH, RANGE, MIN, MAX, OPERATION, X, Y, Z, WORDS, KEY, ALIAS, LIMIT, REGION, node_start, word_at, count_of}
use Rattle.graph.specs.Node.{pair, type_of, range_of, operation_of, node_at, alias_at}
use Rattle.graph.specs.WellFormed.{is_graph}
use Rattle.graph.specs.Alias.{aliased}
use Rattle.graph.proofs.Grown.{Graph, Node, node_facts, facts_node, facts_graph, alias_of}

-- what holds of one number, and of every other, holds of each
pub each_other : (P : ℕ → Type 0) (n : ℕ) → P n → ((k : ℕ) → (k ≡ n → ⊥) → P k) → (k : ℕ) → P k
each_other P n a b k = go (dec_lt k n) (dec_lt n k)
  where
    go : Dec (k < n) → Dec (n < k) → P k
    go (yes l) d = b k (λ e. omega arith)
    go (no l) (yes d) = b k (λ e. omega arith)
    go (no l) (no d) = let e : n ≡ k = omega arith in subst P e a

module _ {g : List ℕ} (f : Graph g) (n m : ℕ) (up : n < m) (here : m < count_of g) where
  -- the region has both nodes
  written : aliased g n m ≡ set g (node_start n + ALIAS) (m + 1)
  unfolding aliased
  written = rw (lt-ltb n LIMIT (omega (arith, f.count)), lt-ltb m LIMIT (omega (arith, f.count)))

  -- the other places of the list
  place : (i : ℕ) → (i ≡ node_start n + ALIAS → ⊥) → get_or (aliased g n m) i 0 ≡ get_or g i 0
  place i d = rw written (get_or-set_other g (node_start n + ALIAS) i (m + 1) 0 d)

  -- the region's length stays
  aliased-length : list.length (aliased g n m) ≡ REGION
  aliased-length = rw written (length-set g (node_start n + ALIAS) (m + 1) ∙ f.length)

  -- the number of nodes stays
  pub aliased-count : count_of (aliased g n m) ≡ count_of g
  aliased-count = place 0 (λ e. omega arith)

  -- every word of a node stays but for that alias
  pub aliased_word : (k j : ℕ) → j < WORDS → (k ≡ n → j ≡ ALIAS → ⊥) → word_at (aliased g n m) k j ≡ word_at g k j
  aliased_word k j l d = place (node_start k + j) (λ e. d (omega arith) (omega arith))

  -- the alias is the node
  pub aliased_new : alias_at (aliased g n m) n ≡ m + 1
  aliased_new = rw written (get_or-set_same g (node_start n + ALIAS) (m + 1) 0 (omega (arith, f.length, f.count)))

  key : (k j : ℕ) → j < KEY → word_at (aliased g n m) k j ≡ word_at g k j
  key k j l = aliased_word k j (omega arith) (λ e q. omega arith)

  -- every node reads the same but for its alias
  pub aliased_same_node : (k : ℕ) → node_at (aliased g n m) k ≡ node_at g k
  aliased_same_node k =
      λ i. record {
        type = type_of (key k TYPE (omega arith) i) (key k WIDTH (omega arith) i);
        range = range_of (key k RANGE (omega arith) i) (pair (key k MIN (omega arith) i) (key k (MIN + 1) (omega arith) i)) (pair (key k MAX (omega arith) i) (key k (MAX + 1) (omega arith) i));
        operation = operation_of (key k OPERATION (omega arith) i) (key k X (omega arith) i) (key k Y (omega arith) i) (key k Z (omega arith) i);
      }

  abbrev Above : List ℕ → ℕ → Type 0
  Above h k = (alias_at h k ≡ 0) ⊎ ((k < alias_at h k - 1) × (alias_at h k ≤ count_of h))

  alias_above : (k : ℕ) → k < count_of g → Above (aliased g n m) k
  alias_above =
      each_other (λ k. k < count_of g → Above (aliased g n m) k) n
      (λ l. rw (aliased_new, aliased-count) (inr (omega arith, omega arith)))
      (λ k d l. rw (aliased_word k ALIAS (omega arith) (λ e q. d e), aliased-count) (alias_of f k l))

  node_at_lem : (k : ℕ) → k < count_of g → Node (aliased g n m) (count_of (aliased g n m)) k
  node_at_lem k l =
      let v = node_facts g (count_of g) k (f.node k l) in
      record {
        type = rw (key k TYPE (omega arith), key k WIDTH (omega arith)) v.type;
        range =
            rw (key k TYPE (omega arith), key k WIDTH (omega arith), key k RANGE (omega arith), key k MIN (omega arith), key k (MIN + 1) (omega arith), key k MAX (omega arith), key k (MAX + 1) (omega arith))
            v.range;
        alias = alias_above k l;
        operation = rw (key k OPERATION (omega arith), key k X (omega arith), key k Y (omega arith), key k Z (omega arith)) v.operation;
      }

  -- the region is still a graph
  pub aliased-graph : is_graph (aliased g n m) ≡ true
  aliased-graph =
      facts_graph (aliased g n m) (record {
        length = aliased-length;
        count = omega (arith, aliased-count, f.count);
        node = λ k l. facts_node (aliased g n m) (count_of (aliased g n m)) k (node_at_lem k (omega (arith, aliased-count)));
        rest = λ i l. place i (λ e. omega (arith, aliased-count)) ∙ f.rest i (omega (arith, aliased-count));
      })

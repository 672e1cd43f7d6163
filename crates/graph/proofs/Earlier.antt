-- A graph cut to its first nodes, with alias words that pass: it keeps their keys and is a graph. Assumes nothing.
use mathlib.Core.Path.{◌≡◌, ◌∙◌}
use mathlib.Core.Bool.{true}
use mathlib.Core.List.{List}
use Prim.Native.Nat.{ℕ, ◌+◌, ◌<◌, ◌≤◌}
use native.Mathlib.Omega.{arith}
use lib.ListN.{length, get_or}
use Rattle.graph.specs.Layout.{TYPE, WIDTH, RANGE, MIN, MAX, OPERATION, X, Y, Z, KEY, LIMIT, REGION, node_start, word_at, count_of}
use Rattle.graph.specs.Alias.{restored, Same}
use Rattle.graph.specs.WellFormed.{is_alias, is_graph}
use Rattle.graph.proofs.Grown.{Graph, Node, node_facts, facts_node, facts_graph, alias_facts}
use Rattle.graph.proofs.Kept.{Kept}
use Rattle.graph.proofs.Restored.{restored-length, restored-count, restored_key, restored_alias_of, restored_empty}

-- ---- the keys of the first nodes

-- all words stand, so the keys do
pub kept_keys : {n : ℕ} {g h : List ℕ} → Kept n g h → Same n g h
kept_keys k = record { size = k.size; more = k.more; key = λ m j l q. k.same _ (omega arith) (omega arith) }

-- fewer nodes
pub same_fewer : {n : ℕ} {g h : List ℕ} (m : ℕ) → m ≤ n → Same n g h → Same m g h
same_fewer m l s = record { size = s.size; more = let p = s.more in omega arith; key = λ i j p q. s.key i j (omega arith) q }

-- one step after another
pub same_then : {n m : ℕ} {g h k : List ℕ} → Same n g h → n ≤ m → Same m h k → Same n g k
same_then s l t = record { size = t.size; more = let p = t.more in omega arith; key = λ i j p q. t.key i j (omega arith) q ∙ s.key i j p q }

-- ---- the first n nodes with their alias words from s

module _ (n : ℕ) (s h : List ℕ) (long : length h ≡ REGION) (most : n ≤ LIMIT) where
  fits : node_start n ≤ length h
  fits = omega (arith, long, most)

  -- they keep their keys
  pub restored_same : Same n h (restored n s h)
  restored_same = record {
    size = restored-length n s h fits ∙ long;
    more = omega (arith, restored-count n s h fits);
    key = restored_key n s h fits;
  }

module _ (n : ℕ) (s g : List ℕ) (f : Graph g) (fewer : n ≤ count_of g) (aliases : (m : ℕ) → m < n → is_alias m n (get_or s m 0) ≡ true) where
  abbrev h : List ℕ
  h = restored n s g

  room : node_start n ≤ length g
  room = omega (arith, f.length, f.count, fewer)

  count : count_of h ≡ n
  count = restored-count n s g room

  key : (m k : ℕ) → m < n → k < KEY → word_at h m k ≡ word_at g m k
  key = restored_key n s g room

  node_at_lem : (m : ℕ) → m < n → Node h n m
  node_at_lem m l =
      let v = node_facts g (count_of g) m (f.node m (omega (arith, fewer))) in
      record {
        type = rw (key m TYPE l (omega arith), key m WIDTH l (omega arith)) v.type;
        range =
            rw (key m TYPE l (omega arith), key m WIDTH l (omega arith), key m RANGE l (omega arith), key m MIN l (omega arith), key m (MIN + 1) l (omega arith), key m MAX l (omega arith), key m (MAX + 1) l (omega arith))
            v.range;
        alias = rw (restored_alias_of n s g room m l) (alias_facts m n (get_or s m 0) (aliases m l));
        operation = rw (key m OPERATION l (omega arith), key m X l (omega arith), key m Y l (omega arith), key m Z l (omega arith)) v.operation;
      }

  -- they are a graph
  pub restored-is_graph : is_graph (restored n s g) ≡ true
  restored-is_graph =
      facts_graph h (record {
        length = restored-length n s g room ∙ f.length;
        count = omega (arith, count, f.count, fewer);
        node = λ m l. rw count (facts_node h n m (node_at_lem m (omega (arith, count))));
        rest = λ i l. restored_empty n s g room i (omega (arith, count));
      })

-- Aliases: set, saved, and put back.
use Rattle.std.specs.Prelude.{cond, ◌&&◌, ◌≡◌, List, ℕ, zero, suc, ◌+◌, ◌<◌, ◌≤◌, ltb, length, get_or, set}
use Rattle.graph.specs.Layout.{KEY, ALIAS, LIMIT, REGION, node_start, word_at, count_of}
use Rattle.graph.specs.Node.{alias_at}
use Rattle.graph.specs.Clear.{cleared}

-- the alias of node n is node m; past the limit there is no node, and nothing is written
unfoldable pub aliased : List ℕ → ℕ → ℕ → List ℕ
aliased g n m = cond (ltb n LIMIT && ltb m LIMIT) (set g (node_start n + ALIAS) (m + 1)) g

-- the alias words of the first n nodes, written over the first n of s
abbrev pub saved_up_to : ℕ → List ℕ → List ℕ → List ℕ
saved_up_to zero g s = s
saved_up_to (suc n) g s = set (saved_up_to n g s) n (alias_at g n)

-- the alias words of all nodes
unfoldable pub saved : List ℕ → List ℕ → List ℕ
saved g s = saved_up_to (count_of g) g s

-- the first n nodes with their alias words from s
abbrev pub restored_up_to : ℕ → List ℕ → List ℕ → List ℕ
restored_up_to zero s h = h
restored_up_to (suc n) s h = set (restored_up_to n s h) (node_start n + ALIAS) (get_or s n 0)

-- the first n nodes alone, with their alias words from s
unfoldable pub restored : ℕ → List ℕ → List ℕ → List ℕ
restored n s h = cleared n (restored_up_to n s h)

-- the first n nodes of g stand in h, but for their aliases
pub record Same (n : ℕ) (g h : List ℕ) : Type 0 where
  pub size : length h ≡ REGION
  pub more : n ≤ count_of h
  pub key : (m k : ℕ) → m < n → k < KEY → word_at h m k ≡ word_at g m k

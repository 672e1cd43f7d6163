-- Question 1 of the marks' region: each mark that stands can be returned to.
use Rattle.std.specs.Prelude.{Bool, true, ◌&&◌, List, ℕ, zero, suc, eqb, leb, length, get_or}
use Rattle.graph.specs.Layout.{count_of}
use Rattle.graph.specs.WellFormed.{is_alias, all_pass, is_graph}
use Rattle.mark.specs.Layout.{MOST, MARKS, standing, count_at, aliases_at}

-- alias words of a graph of n nodes: each 0, or above its node and below n
abbrev pub are_aliases : List ℕ → ℕ → Bool
are_aliases words n = all_pass (λ i. is_alias i n (get_or words i 0)) n

-- mark k: at most so many nodes, and their alias words
abbrev pub is_mark : ℕ → List ℕ → ℕ → Bool
is_mark limit m k = leb (count_at m k) limit && are_aliases (aliases_at m k) (count_at m k)

-- the first k marks: the last has at most so many nodes, each other at most as many as the next
abbrev pub are_first : ℕ → List ℕ → ℕ → Bool
are_first limit m zero = true
are_first limit m (suc k) = is_mark limit m k && are_first (count_at m k) m k

-- the marks of a graph with so many nodes: their region's length, at most sixteen of them, and each of them a mark
unfoldable pub are_marks : ℕ → List ℕ → Bool
are_marks nodes m = eqb (length m) MARKS && (leb (standing m) MOST && are_first nodes m (standing m))

-- question 1 of both regions: a graph, and its marks
unfoldable pub is_marked : List ℕ → List ℕ → Bool
is_marked g m = is_graph g && are_marks (count_of g) m

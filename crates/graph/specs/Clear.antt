-- A region cut down to its first nodes.
use Rattle.std.specs.Prelude.{◌≡◌, List, ◌++◌, ℕ, ◌-◌, ◌≤◌, length, get_or, set, take, replicate}
use Rattle.graph.specs.Layout.{node_start}

-- the first n nodes alone: their words, zeros past them, and n as the count
unfoldable pub cleared : ℕ → List ℕ → List ℕ
cleared n h = set (take (node_start n) h ++ replicate (length h - node_start n) 0) 0 n

-- every word past the first n nodes is 0
abbrev pub EmptyPast : ℕ → List ℕ → Type 0
EmptyPast n h = (i : ℕ) → node_start n ≤ i → get_or h i 0 ≡ 0

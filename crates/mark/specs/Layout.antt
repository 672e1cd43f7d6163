-- The marks' region: where its words stand. Words past the marks that stand, and past a mark's nodes, are free.
use Rattle.std.specs.Prelude.{List, ℕ, ◌+◌, ◌*◌, get_or, take, drop}
use Rattle.graph.specs.Layout.{LIMIT}

-- the most marks
abbrev pub MOST : ℕ
MOST = 16

-- words of a mark: its node count, and an alias word for each node that there can be
abbrev pub SPAN : ℕ
SPAN = 1 + LIMIT

-- words of the region
abbrev pub MARKS : ℕ
MARKS = 1 + MOST * SPAN

-- where mark k starts
abbrev pub mark_start : ℕ → ℕ
mark_start k = 1 + SPAN * k

-- how many marks stand
abbrev pub standing : List ℕ → ℕ
standing m = get_or m 0 0

-- the number of nodes at mark k
abbrev pub count_at : List ℕ → ℕ → ℕ
count_at m k = get_or m (mark_start k) 0

-- the alias words at mark k
abbrev pub aliases_at : List ℕ → ℕ → List ℕ
aliases_at m k = take LIMIT (drop (mark_start k + 1) m)

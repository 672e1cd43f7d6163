-- Module 8: which nodes a caller may keep, their new ids, and the region that is left.
use Rattle.std.specs.Prelude.{Bool, true, cond, ◌&&◌, ◌||◌, List, [], ◌∷◌, ◌++◌, ℕ, zero, suc, ◌-◌, ◌^◌, eqb, leb, length, get_or, set, take, replicate}
use Rattle.std.proofs.Math.Seq.{paste}
use Rattle.graph.specs.Node as node
use Rattle.graph.specs.Node.{Op, PAST}
use Rattle.graph.specs.WellFormed.{all_pass}
use Rattle.evaluate.specs.Operator.{BINARY}
use Rattle.graph.specs.Layout.{OPERATION, X, Y, Z, WORDS, FIRST, REGION, REFINE, SLICE, CONCAT, node_start, word_at, words_from, count_of}

-- ---- question 6

-- is node n kept? Its keep element is 1
abbrev pub is_kept : List ℕ → ℕ → Bool
is_kept keep n = eqb (get_or keep n 0) 1

-- does field X of an operation hold an operand? Not of a Constant, an Input or an Effect
abbrev pub has_first : ℕ → Bool
has_first code = eqb code REFINE || leb SLICE code

-- does field Y? Of a Concat and of the binary operations
abbrev pub has_second : ℕ → Bool
has_second code = eqb code CONCAT || leb BINARY code

-- the operands of node n
abbrev pub operands_at : List ℕ → ℕ → List ℕ
operands_at g n = cond (has_first (word_at g n OPERATION)) (word_at g n X ∷ cond (has_second (word_at g n OPERATION)) (word_at g n Y ∷ []) []) []

-- are all of these ids kept?
abbrev pub are_kept : List ℕ → List ℕ → Bool
are_kept keep [] = true
are_kept keep (i ∷ is) = is_kept keep i && are_kept keep is

-- node n: its keep element is 0, or it is 1 and each operand is kept
abbrev pub is_allowed : List ℕ → List ℕ → ℕ → Bool
is_allowed g keep n = eqb (get_or keep n 0) 0 || (is_kept keep n && are_kept keep (operands_at g n))

-- the first m nodes
abbrev pub are_allowed : List ℕ → List ℕ → ℕ → Bool
are_allowed g keep m = all_pass (is_allowed g keep) m

-- keep list and mapping have one element for each node, and each node is allowed
unfoldable pub is_keep_list : List ℕ → List ℕ → List ℕ → Bool
is_keep_list g keep mapping = eqb (length keep) (count_of g) && (eqb (length mapping) (count_of g) && are_allowed g keep (count_of g))

-- ---- the mapping

-- the number of kept ids below n
abbrev pub kept_below : List ℕ → ℕ → ℕ
kept_below keep zero = 0
kept_below keep (suc n) = cond (is_kept keep n) (suc (kept_below keep n)) (kept_below keep n)

-- what a dropped node maps to
abbrev pub DROPPED : ℕ
DROPPED = 2 ^ 64 - 1

-- the new id of node n
abbrev pub new_id : List ℕ → ℕ → ℕ
new_id keep n = cond (is_kept keep n) (kept_below keep n) DROPPED

-- the new ids of the first m nodes
abbrev pub new_ids : List ℕ → ℕ → List ℕ
new_ids keep zero = []
new_ids keep (suc m) = new_ids keep m ++ (new_id keep m ∷ [])

-- ---- the region

-- an operand read through f; another word stays
abbrev pub through : (ℕ → ℕ) → Bool → ℕ → ℕ
through f is_operand word = cond is_operand (f word) word

-- the words of node n: its operands read through f, and past the key those of a node without an alias
unfoldable pub moved_words : (ℕ → ℕ) → List ℕ → ℕ → List ℕ
moved_words f g n =
    words_from g n 0 X
    ++ (through f (has_first (word_at g n OPERATION)) (word_at g n X) ∷ through f (has_second (word_at g n OPERATION)) (word_at g n Y) ∷ word_at g n Z ∷ PAST)

-- the region with node n moved to place m, its operands read through a mapping
abbrev pub moved : List ℕ → List ℕ → ℕ → ℕ → List ℕ
moved mapping g n m = paste g (node_start m) (moved_words (λ i. get_or mapping i DROPPED) g n) WORDS

-- the words of the kept nodes among the first m, in order
abbrev pub kept_nodes : List ℕ → List ℕ → ℕ → List ℕ
kept_nodes g keep zero = []
kept_nodes g keep (suc m) = cond (is_kept keep m) (kept_nodes g keep m ++ moved_words (new_id keep) g m) (kept_nodes g keep m)

-- a region of n nodes: what stands before the first node, the words of the nodes, zeros, and n as the count
abbrev pub region_of : List ℕ → ℕ → List ℕ → List ℕ
region_of g n nodes = set ((take FIRST g ++ nodes) ++ replicate (REGION - node_start n) 0) 0 n

-- the region of the kept nodes
unfoldable pub retained : List ℕ → List ℕ → List ℕ
retained g keep = region_of g (kept_below keep (count_of g)) (kept_nodes g keep (count_of g))

-- an operation with its operands read through f
abbrev pub renamed : (ℕ → ℕ) → Op → Op
renamed f (node.constant c) = node.constant c
renamed f (node.input i) = node.input i
renamed f (node.refine i) = node.refine (f i)
renamed f (node.effect i) = node.effect i
renamed f (node.slice i o w) = node.slice (f i) o w
renamed f (node.concat i j w) = node.concat (f i) (f j) w
renamed f (node.unary u i) = node.unary u (f i)
renamed f (node.binary b i j) = node.binary b (f i) (f j)

-- Question 1: is the region a graph? On the words; unused words are 0.
use Rattle.std.specs.Prelude.{Bool, true, false, cond, ◌&&◌, ◌||◌, List, [], ◌∷◌, ℕ, zero, suc, ◌+◌, ◌-◌, eqb, ltb, leb, length, drop}
use Rattle.std.specs.Int.Signed.{le_z}
use Rattle.word.specs.Value.{signed}
use Rattle.range.specs.Interval.{inside_type}
use Rattle.evaluate.specs.Operator.{BOOL, BITS, INTEGER, WIDEST, WIDTHS, OFFSETS, is_unary_code, is_binary_code}
use Rattle.graph.specs.Layout.{TYPE, WIDTH, RANGE, MIN, MAX, OPERATION, X, Y, Z, CONSTANT, INPUT, REFINE, EFFECT, SLICE, CONCAT, LIMIT, REGION, node_start, word_at, count_of}
use Rattle.graph.specs.Node.{pair, type_of, alias_at}

-- a type: a known code, and a width of Bits alone, at most WIDEST
abbrev pub is_type : ℕ → ℕ → Bool
is_type code width = cond (eqb code BOOL) (eqb width 0) (cond (eqb code BITS) (leb width WIDEST) (cond (eqb code INTEGER) (eqb width 0) false))

-- a range: none, with its words 0, or not empty and inside the type
abbrev pub is_range : ℕ → ℕ → ℕ → ℕ → ℕ → Bool
is_range code width flag low high =
    cond (eqb flag 0) (eqb low 0 && eqb high 0)
    (eqb flag 1
    && (le_z (signed 128 low) (signed 128 high) && inside_type (type_of code width) (record { low = signed 128 low; high = signed 128 high })))

-- are three fields below their bounds? An unused field is below 1
abbrev pub are_fields : ℕ → ℕ → ℕ → ℕ → ℕ → ℕ → Bool
are_fields x xlimit y ylimit z zlimit = ltb x xlimit && (ltb y ylimit && ltb z zlimit)

-- an operation of node n: a known code, operands below n, offsets below OFFSETS, widths at most WIDEST, unused fields 0
abbrev pub is_operation : ℕ → ℕ → ℕ → ℕ → ℕ → Bool
is_operation n code x y z =
    cond (eqb code CONSTANT) (eqb z 0)
    (cond (eqb code INPUT) (are_fields 0 1 y 1 z 1)
    (cond (eqb code REFINE) (are_fields x n y 1 z 1)
    (cond (eqb code EFFECT) (are_fields 0 1 y 1 z 1)
    (cond (eqb code SLICE) (are_fields x n y OFFSETS z WIDTHS)
    (cond (eqb code CONCAT) (are_fields x n y n z WIDTHS)
    (cond (is_unary_code code z) (are_fields x n y 1 z WIDTHS)
    (cond (is_binary_code code) (are_fields x n y n z 1) false)))))))

-- an alias plus 1: 0, or above its node and below the count
abbrev pub is_alias : ℕ → ℕ → ℕ → Bool
is_alias n count alias = eqb alias 0 || (ltb n (alias - 1) && leb alias count)

-- node n: its type, range, alias and operation
abbrev pub is_node : List ℕ → ℕ → ℕ → Bool
is_node g count n =
    is_type (word_at g n TYPE) (word_at g n WIDTH)
    && (is_range (word_at g n TYPE) (word_at g n WIDTH) (word_at g n RANGE) (pair (word_at g n MIN) (word_at g n (MIN + 1))) (pair (word_at g n MAX) (word_at g n (MAX + 1)))
    && (is_alias n count (alias_at g n) && is_operation n (word_at g n OPERATION) (word_at g n X) (word_at g n Y) (word_at g n Z)))

-- do all numbers below m pass a test?
abbrev pub all_pass : (ℕ → Bool) → ℕ → Bool
all_pass p zero = true
all_pass p (suc m) = all_pass p m && p m

-- the first m nodes
abbrev pub are_nodes : List ℕ → ℕ → ℕ → Bool
are_nodes g count m = all_pass (is_node g count) m

-- are all of these words 0?
abbrev pub are_zeros : List ℕ → Bool
are_zeros [] = true
are_zeros (w ∷ ws) = eqb w 0 && are_zeros ws

-- its length, at most 512 nodes, each of them a node, and zeros past the count
unfoldable pub is_graph : List ℕ → Bool
is_graph g =
    eqb (length g) REGION && (leb (count_of g) LIMIT && (are_nodes g (count_of g) (count_of g) && are_zeros (drop (node_start (count_of g)) g)))

-- Interning, resolving, and the builders of leaves, on the words of the region.
use Rattle.std.specs.Prelude.{Bool, true, false, cond, List, [], ◌∷◌, ℕ, zero, suc, min, max, ◌+◌, ◌-◌, eqb, ltb, get_or, set, take}
use Rattle.std.specs.Prelude.{Option, None, Some, Result, Ok, Err}
use Rattle.std.proofs.Math.Seq.{paste}
use Rattle.word.specs.Value.{is_neg, signed}
use Rattle.word.specs.Option.{or_else}
use Rattle.range.specs.Interval.{Interval, point, type_interval}
use Rattle.range.specs.declared.ScalarType.{ScalarType}
use Rattle.range.specs.declared.ScalarType.TheVariants as ty
use Rattle.evaluate.specs.Evaluate.{reduced}
use Rattle.graph.specs.declared.NodeId.{NodeId}
use Rattle.graph.specs.declared.Unbuilt.{Unbuilt}
use Rattle.graph.specs.declared.Unbuilt.TheVariants as unbuilt
use Rattle.graph.specs.Layout.{WORDS, X, KEY, LIMIT, node_start, count_of}
use Rattle.graph.specs.Node as node
use Rattle.graph.specs.Node.{Op, words_of, operation_at, alias_at}

-- what a builder answers
pub data Reply : Type 0 where
  id : ℕ → Reply
  nothing : Reply
  room : Reply
  units : Reply

-- what a builder's answer in the code stands for
abbrev pub built_of : Result NodeId Unbuilt → Reply
built_of (Ok i) = id i.0
built_of (Err unbuilt.None) = nothing
built_of (Err unbuilt.Room) = room
built_of (Err unbuilt.Units) = units

-- an answer, and the words of the region after the call
pub record Made : Type 0 where
  pub answer : Reply
  pub words : List ℕ

-- an answer with the words of the region
abbrev pub made : Reply → List ℕ → Made
made a g = record { answer = a; words = g }

-- ---- reading

-- the value of an operation that is a constant
abbrev pub literal_of : Op → Option ℕ
literal_of (node.constant c) = Some c
literal_of (node.input i) = None
literal_of (node.refine i) = None
literal_of (node.effect i) = None
literal_of (node.slice i o w) = None
literal_of (node.concat i j w) = None
literal_of (node.unary u i) = None
literal_of (node.binary b i j) = None

-- the value of a constant
unfoldable pub literal : List ℕ → ℕ → Option ℕ
literal g n = literal_of (operation_at g n)

-- at most k steps along the aliases
abbrev pub follow : List ℕ → ℕ → ℕ → ℕ
follow g zero n = n
follow g (suc k) n = cond (eqb (alias_at g n) 0) n (follow g k (alias_at g n - 1))

-- the end of the chain of aliases: no longer than the nodes that there can be
unfoldable pub resolve : List ℕ → ℕ → ℕ
resolve g n = follow g LIMIT n

-- ---- interning

-- are the words of g from `at` on these?
abbrev pub same_words : List ℕ → ℕ → List ℕ → Bool
same_words g at [] = true
same_words g at (w ∷ ws) = cond (eqb (get_or g at 0) w) (same_words g (suc at) ws) false

-- has node n the key of these words: their type, range and operation?
abbrev pub same_key : List ℕ → List ℕ → ℕ → Bool
same_key g ws n = same_words g (node_start n) (take KEY ws)

-- have the k nodes whose words begin at `at` another first field?
abbrev pub are_apart : List ℕ → ℕ → ℕ → ℕ → Bool
are_apart g first at zero = true
are_apart g first at (suc k) = cond (eqb (get_or g (at + X) 0) first) false (are_apart g first (at + WORDS) k)

-- the lowest of the k numbers from i on that passes a test
abbrev pub lowest : (ℕ → Bool) → ℕ → ℕ → Option ℕ
lowest p i zero = None
lowest p i (suc k) = cond (p i) (Some i) (lowest p (suc i) k)

-- one past an operation's operands: no node with it is lower
abbrev pub start : Op → ℕ
start (node.constant c) = 0
start (node.input i) = 0
start (node.refine i) = max i 0 + 1
start (node.effect i) = 0
start (node.slice i o w) = max i 0 + 1
start (node.concat i j w) = max i j + 1
start (node.unary u i) = max i 0 + 1
start (node.binary b i j) = max i j + 1

-- the lowest node below the count with this key
abbrev pub interned : List ℕ → Op → List ℕ → Option ℕ
interned g o ws = lowest (same_key g ws) (min (start o) LIMIT) (min (count_of g) LIMIT - min (start o) LIMIT)

-- a new node at the end, if there is room
unfoldable pub appended : List ℕ → List ℕ → Made
appended g ws =
    cond (ltb (count_of g) LIMIT) (made (id (count_of g)) (set (paste g (node_start (count_of g)) ws WORDS) 0 (count_of g + 1)))
    (made room g)

-- a node that was found, or a new one
abbrev pub found_or : List ℕ → Option ℕ → Made → Made
found_or g None m = m
found_or g (Some n) m = made (id (resolve g n)) g

-- the resolved id of the lowest node with this type, range and operation, or of a new one
unfoldable pub inserted : List ℕ → ScalarType → Option Interval → Op → Made
inserted g t r o = found_or g (interned g o (words_of t r o)) (appended g (words_of t r o))

-- ---- leaves

-- a constant's range is itself, but a Bits constant above 2 ^ 127 - 1 has none
abbrev pub constant_interval : ScalarType → ℕ → Option Interval
constant_interval ty.Bool v = Some (point (signed 128 v))
constant_interval (ty.Bits w) v = cond (is_neg (signed 128 v)) None (Some (point (signed 128 v)))
constant_interval ty.Integer v = Some (point (signed 128 v))

-- a constant of a type: its value reduced to the type, with its range
unfoldable pub constant : List ℕ → ScalarType → ℕ → Made
constant g t v = inserted g t (constant_interval t (reduced t v)) (node.constant (reduced t v))

-- an input with its number: the range given, or its type's
unfoldable pub input : List ℕ → ℕ → ScalarType → Option Interval → Made
input g i t r = inserted g t (or_else r (type_interval t)) (node.input i)

-- an effect with its number: its type's range
unfoldable pub effect : List ℕ → ℕ → ScalarType → Made
effect g i t = inserted g t (type_interval t) (node.effect i)

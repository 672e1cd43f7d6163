-- Regions whose words are below 2 ^ 64: what is stored keeps them so, and the ends of their ranges are integers of 128 bits. Assumes nothing.
use mathlib.Core.Path.{◌≡◌, refl, subst}
use mathlib.Core.Bool.{Bool, true, false, cond, ◌&&◌}
use mathlib.Core.List.{List, [], ◌∷◌, ◌++◌}
use Rattle.std.specs.Prelude.{Option, None, Some}
use Prim.Native.Nat.{ℕ, zero, suc, ◌+◌, ◌^◌, ◌<◌}
use native.Mathlib.Nat.{mod-lt}
use native.Mathlib.Omega.{arith}
use borrow.Author.Tests.{ltb-true}
use lib.Dec.{eqb, ltb, lit<}
use lib.ListN.{get_or, set, take, drop}
use lib.Pow.{shr_lt}
use lib.Seq.{paste, get_or-drop}
use lib.Signed.{mag}
use Rattle.word.specs.Value.{signed}
use Rattle.word.proofs.Halves.{two_halves}
use Rattle.word.proofs.Integer.{residue-lt, signed_mag}
use Rattle.range.specs.Interval.{Interval}
use Rattle.range.specs.declared.ScalarType.{ScalarType}
use Rattle.range.specs.declared.ScalarType.TheVariants as ty
use Rattle.range.proofs.Answers.{none-some, some_is}
use Rattle.evaluate.specs.Operator.{type_width}
use Rattle.graph.specs.Layout.{RANGE, MIN, MAX, WORDS, ALIAS, LIMIT, node_start, word_at, count_of}
use Rattle.graph.specs.Node.{Op, pair, type_code, range_at, range_flag, range_low, range_high, op_code, op_x, op_y, op_z, words_of}
use Rattle.graph.specs.Insert.{appended}
use Rattle.graph.specs.Alias.{aliased}

-- every word is below 2 ^ 64
abbrev pub Words : List ℕ → Type 0
Words g = (i : ℕ) → get_or g i 0 < 2 ^ 64

-- ---- lists

-- one word written over another
set_words : (g : List ℕ) → Words g → (p v : ℕ) → v < 2 ^ 64 → Words (set g p v)
set_words [] w p v l i = lit< tt
set_words (x ∷ g) w zero v l zero = l
set_words (x ∷ g) w zero v l (suc i) = w (suc i)
set_words (x ∷ g) w (suc p) v l zero = w 0
set_words (x ∷ g) w (suc p) v l (suc i) = set_words g (λ j. w (suc j)) p v l i

-- one list after another
append-words : (s t : List ℕ) → Words s → Words t → Words (s ++ t)
append-words [] t v w i = w i
append-words (x ∷ s) t v w zero = v 0
append-words (x ∷ s) t v w (suc i) = append-words s t (λ j. v (suc j)) w i

-- the front of a list
take_words : (n : ℕ) (s : List ℕ) → Words s → Words (take n s)
take_words zero s w i = lit< tt
take_words (suc n) [] w i = lit< tt
take_words (suc n) (x ∷ s) w zero = w 0
take_words (suc n) (x ∷ s) w (suc i) = take_words n s (λ j. w (suc j)) i

-- words in the place of others
paste_words : (d : List ℕ) (at : ℕ) (s : List ℕ) (n : ℕ) → Words d → Words s → Words (paste d at s n)
paste_words d at s n v w =
    append-words (take at d ++ take n s) (drop (at + n) d)
    (append-words (take at d) (take n s) (take_words at d v) (take_words n s w))
    (λ i. rw (get_or-drop (at + n) d i 0) (v (at + n + i)))

-- ---- what is stored

-- a new node
pub appended-words : (g ws : List ℕ) → Words g → Words ws → Words (appended g ws).words
unfolding appended
appended-words g ws v w = by (ltb (count_of g) LIMIT) refl
  where
    by : (t : Bool) → ltb (count_of g) LIMIT ≡ t → Words (appended g ws).words
    by true e =
        let l = ltb-true (count_of g) LIMIT e in
        rw e (set_words (paste g (node_start (count_of g)) ws WORDS) (paste_words g (node_start (count_of g)) ws WORDS v w) 0 (count_of g + 1) (omega arith))
    by false e = rw e v

-- an alias
pub aliased-words : (g : List ℕ) (n m : ℕ) → Words g → Words (aliased g n m)
unfolding aliased
aliased-words g n m v = by (ltb n LIMIT) (ltb m LIMIT) refl
  where
    by : (s t : Bool) → ltb m LIMIT ≡ t → Words (cond (s && t) (set g (node_start n + ALIAS) (m + 1)) g)
    by true true e = let l = ltb-true m LIMIT e in set_words g v (node_start n + ALIAS) (m + 1) (omega arith)
    by true false e = v
    by false t e = v

-- ---- the words of a node

-- each of some words
abbrev Each : List ℕ → Type 0
Each [] = Unit {0}
Each (x ∷ s) = (x < 2 ^ 64) × Each s

-- a list by its words
each_words : (s : List ℕ) → Each s → Words s
each_words [] e i = lit< tt
each_words (x ∷ s) e zero = e.0
each_words (x ∷ s) e (suc i) = each_words s e.1 i

-- the patterns of a range's ends
ends_below : (r : Option Interval) → (range_flag r < 2 ^ 64) × (range_low r < 2 ^ 128) × (range_high r < 2 ^ 128)
ends_below None = (lit< tt, lit< tt, lit< tt)
ends_below (Some a) = (lit< tt, residue-lt 128 a.low, residue-lt 128 a.high)

-- the code of a type
type_below : (t : ScalarType) → type_code t < 2 ^ 64
type_below ty.Bool = lit< tt
type_below (ty.Bits w) = lit< tt
type_below ty.Integer = lit< tt

-- those of a type, a range and an operation, if the fields of the type and of the operation are
pub node-words : (t : ScalarType) (r : Option Interval) (o : Op) → type_width t < 2 ^ 64 → op_code o < 2 ^ 64 → op_x o < 2 ^ 64 → op_y o < 2 ^ 64 → op_z o < 2 ^ 64 → Words (words_of t r o)
unfolding words_of
node-words t r o width code x y z =
    let e = ends_below r in
    each_words (words_of t r o)
    (type_below t, (width, (e.0, (mod-lt (range_low r) (lit< tt), (shr_lt 64 64 e.1, (mod-lt (range_high r) (lit< tt), (shr_lt 64 64 e.2, (code, (x, (y, (z, (lit< tt, tt))))))))))))

-- ---- what is read

-- the ends of a range are integers of 128 bits
pub ends_of : (g : List ℕ) → Words g → (n : ℕ) (a : Interval) → range_at g n ≡ Some a → (mag a.low < 2 ^ 127) × (mag a.high < 2 ^ 127)
ends_of g w n a e = by (eqb (word_at g n RANGE) 0) e
  where
    b : Interval
    b = record { low = signed 128 (pair (word_at g n MIN) (word_at g n (MIN + 1))); high = signed 128 (pair (word_at g n MAX) (word_at g n (MAX + 1))) }

    by : (z : Bool) → cond z None (Some b) ≡ Some a → (mag a.low < 2 ^ 127) × (mag a.high < 2 ^ 127)
    by true q = absurd (none-some q)
    by false q =
        subst (λ (x : Interval). (mag x.low < 2 ^ 127) × (mag x.high < 2 ^ 127)) (some_is q) (
          signed_mag 128 _ (lit< tt) (two_halves 64 {h = word_at g n (MIN + 1)} {l = word_at g n MIN} (w (node_start n + (MIN + 1))) (w (node_start n + MIN))),
          signed_mag 128 _ (lit< tt) (two_halves 64 {h = word_at g n (MAX + 1)} {l = word_at g n MAX} (w (node_start n + (MAX + 1))) (w (node_start n + MAX))),
        )

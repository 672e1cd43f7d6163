-- A request: a call that answers an id, None, Done or a refusal; and what is asked of it, questions 2 to 5.
use Rattle.std.specs.Prelude.{Bool, true, false, ◌&&◌, List, [], ◌∷◌, ℕ, leb, ltb}
use Rattle.std.specs.Prelude.{Option, None, Some}
use Rattle.std.specs.Int.Signed.{le_z}
use Rattle.word.specs.Value.{val}
use Rattle.range.specs.Interval.{Interval, inside_type, interval_of}
use Rattle.range.specs.declared.ScalarType.{ScalarType}
use Rattle.range.specs.declared.ScalarType.TheVariants as ty
use Rattle.evaluate.specs.Operator.{type_width, unary_width}
use Rattle.evaluate.specs.declared.Unary.{Unary}
use Rattle.evaluate.specs.declared.Binary.{Binary}
use Rattle.graph.specs.Node.{type_at}
use Rattle.fold.specs.Shape.{same_type}
use Rattle.request.specs.Typing.{unary_typed, binary_typed, concat_typed}
use Rattle.request.specs.declared.Request as declared
use Rattle.request.specs.declared.Request.TheVariants as asked

-- a call with its arguments; a slice has offset and width, a concat its low part's width and its own, `unnamed` the widths and ids beside codes that name nothing
pub data Request : Type 0 where
  constant : ScalarType → ℕ → Request
  input : ℕ → ScalarType → Option Interval → Request
  effect : ℕ → ScalarType → Request
  unary : ScalarType → Unary → ℕ → Request
  binary : ScalarType → Binary → ℕ → ℕ → Request
  slice : ℕ → ℕ → ℕ → Request
  concat : ℕ → ℕ → ℕ → ℕ → Request
  unsigned_range : ℕ → ℕ → ℕ → Request
  guard : ℕ → Bool → Request
  unnamed : List ℕ → List ℕ → Request

-- what a Request of the code stands for
abbrev pub request_of : declared.Request → Request
request_of (asked.Constant v t) = constant t (val v)
request_of (asked.Input i r t) = input i.0 t (interval_of r)
request_of (asked.Effect i t) = effect i.0 t
request_of (asked.Unary v t o) = unary t o v.0
request_of (asked.Binary l r t o) = binary t o l.0 r.0
request_of (asked.Slice v o w) = slice v.0 o w
request_of (asked.Concat h l v w) = concat h.0 l.0 v w
request_of (asked.UnsignedRange v low high) = unsigned_range v.0 (val low) (val high)
request_of (asked.Guard n e) = guard n.0 e
request_of (asked.UnnamedLeaf w) = unnamed (w ∷ []) []
request_of (asked.UnnamedOperation i j w p) = unnamed (w ∷ p ∷ []) (i.0 ∷ j.0 ∷ [])

-- ---- the questions

-- are all numbers at most n?
abbrev pub all_up_to : ℕ → List ℕ → Bool
all_up_to n [] = true
all_up_to n (k ∷ ks) = leb k n && all_up_to n ks

-- are all numbers below n?
abbrev pub all_below : ℕ → List ℕ → Bool
all_below n [] = true
all_below n (k ∷ ks) = ltb k n && all_below n ks

-- the widths in a request, for question 2; a slice's offset is none
abbrev pub widths : Request → List ℕ
widths (constant t v) = type_width t ∷ []
widths (input i t r) = type_width t ∷ []
widths (effect i t) = type_width t ∷ []
widths (unary t o v) = type_width t ∷ unary_width o ∷ []
widths (binary t o l r) = type_width t ∷ []
widths (slice v o w) = w ∷ []
widths (concat h l v w) = v ∷ w ∷ []
widths (unsigned_range v low high) = []
widths (guard n e) = []
widths (unnamed ws is) = ws

-- the ids in a request, for question 3
abbrev pub ids : Request → List ℕ
ids (constant t v) = []
ids (input i t r) = []
ids (effect i t) = []
ids (unary t o v) = v ∷ []
ids (binary t o l r) = l ∷ r ∷ []
ids (slice v o w) = v ∷ []
ids (concat h l v w) = h ∷ l ∷ []
ids (unsigned_range v low high) = v ∷ []
ids (guard n e) = n ∷ []
ids (unnamed ws is) = is

-- question 4: does the typing table hold? Slice and unsigned_range take any type; a guard's condition is Bool; codes that name nothing are a no
abbrev pub typed : List ℕ → Request → Bool
typed g (constant t v) = true
typed g (input i t r) = true
typed g (effect i t) = true
typed g (unary t o v) = unary_typed o (type_at g v) t
typed g (binary t o l r) = binary_typed o (type_at g l) (type_at g r) t
typed g (slice v o w) = true
typed g (concat h l v w) = concat_typed (type_at g h) (type_at g l) v w
typed g (unsigned_range v low high) = true
typed g (guard n e) = same_type (type_at g n) ty.Bool
typed g (unnamed ws is) = false

-- is a Bool 0 or 1?
abbrev pub is_bool_value : ScalarType → ℕ → Bool
is_bool_value ty.Bool v = ltb v 2
is_bool_value (ty.Bits w) v = true
is_bool_value ty.Integer v = true

-- no range, or one that is not empty and inside the type
abbrev pub is_range_of : ScalarType → Option Interval → Bool
is_range_of t None = true
is_range_of t (Some a) = le_z a.low a.high && inside_type t a

-- question 5, of a constant's value and of an input's range
abbrev pub declarable : Request → Bool
declarable (constant t v) = is_bool_value t v
declarable (input i t r) = is_range_of t r
declarable (effect i t) = true
declarable (unary t o v) = true
declarable (binary t o l r) = true
declarable (slice v o w) = true
declarable (concat h l v w) = true
declarable (unsigned_range v low high) = true
declarable (guard n e) = true
declarable (unnamed ws is) = true

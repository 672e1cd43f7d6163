-- The records of the program: tag, length and body, and what they ask for.
use Rattle.std.specs.Prelude.{cond, List, [], ◌∷◌, ℕ, ◌+◌, ◌-◌, ◌*◌, ◌<◌, eqb, leb, length, get_or, take, drop}
use Rattle.std.specs.Prelude.{Option, None, Some}
use Rattle.word.specs.Option.{provided, only, mapped, given}
use Rattle.range.specs.declared.ScalarType.{ScalarType}
use Rattle.evaluate.specs.declared.Unary.{Unary}
use Rattle.evaluate.specs.declared.Binary.{Binary}
use Rattle.graph.specs.Node.{range_of}
use Rattle.request.specs.Codes.{type_by_code, unary_by_code, binary_by_code, truth_by_number}
use Rattle.request.specs.Request as asks
use Rattle.request.specs.Request.{Request, request_of}
use Rattle.request.specs.declared.Request as declared

-- a Request that may be there
abbrev pub named_of : Option declared.Request → Option Request
named_of (Some q) = Some (request_of q)
named_of None = None

-- ---- fields: each is split off, and the rest of the record is handed on; where one is wrong or missing there is nothing

-- a number, its low byte first
abbrev pub little : List ℕ → ℕ
little [] = 0
little (b ∷ bs) = b + 256 * little bs

-- every element is a byte
abbrev pub Bytes : List ℕ → Type 0
Bytes bs = (i : ℕ) → get_or bs i 0 < 256

-- a field of k bytes, and what the rest says with it
abbrev pub field : {A : Type 0} → ℕ → List ℕ → (ℕ → List ℕ → Option A) → Option A
field k bs f = provided (leb k (length bs)) (f (little (take k bs)) (drop k bs))

-- a field of one byte
abbrev pub byte_field : {A : Type 0} → List ℕ → (ℕ → List ℕ → Option A) → Option A
byte_field bs f = provided (leb 1 (length bs)) (f (get_or bs 0 0) (drop 1 bs))

-- the last field, with k bytes and no more
abbrev pub last_field : {A : Type 0} → ℕ → List ℕ → (ℕ → A) → Option A
last_field k bs f = only (eqb (length bs) k) (f (little bs))

-- the last field, of one byte
abbrev pub last_byte : {A : Type 0} → List ℕ → (ℕ → A) → Option A
last_byte bs f = only (eqb (length bs) 1) (f (get_or bs 0 0))

-- a type in two bytes, code and width
abbrev pub type_in : List ℕ → Option ScalarType
type_in bs = type_by_code (get_or bs 0 0) (get_or bs 1 0)

-- a type, and what the rest says with it
abbrev pub type_field : {A : Type 0} → List ℕ → (ScalarType → List ℕ → Option A) → Option A
type_field bs f = provided (leb 2 (length bs)) (given (type_in bs) (λ t. f t (drop 2 bs)) None)

-- ---- the bodies

-- value 16
abbrev pub constant_value : ScalarType → List ℕ → Option Request
constant_value t bs = last_field 16 bs (λ v. asks.constant t v)

-- 1 constant: type 1, width 1
abbrev pub constant_body : List ℕ → Option Request
constant_body bs = type_field bs constant_value

-- maximum 16
abbrev pub input_maximum : ℕ → ScalarType → ℕ → List ℕ → Option Request
input_maximum i t low bs = last_field 16 bs (λ high. asks.input i t (range_of 1 low high))

-- minimum 16
abbrev pub input_minimum : ℕ → ScalarType → List ℕ → Option Request
input_minimum i t bs = field 16 bs (input_maximum i t)

-- without a range nothing is left
abbrev pub input_plain : ℕ → ScalarType → List ℕ → Option Request
input_plain i t bs = only (eqb (length bs) 0) (asks.input i t None)

-- flag 1
abbrev pub input_flag : ℕ → ScalarType → List ℕ → Option Request
input_flag i t bs = byte_field bs (λ flag rest. cond (eqb flag 0) (input_plain i t rest) (cond (eqb flag 1) (input_minimum i t rest) None))

-- type 1, width 1
abbrev pub input_type : ℕ → List ℕ → Option Request
input_type i bs = type_field bs (input_flag i)

-- 2 input: number 8
abbrev pub input_body : List ℕ → Option Request
input_body bs = field 8 bs input_type

-- type 1, width 1
abbrev pub effect_type : ℕ → List ℕ → Option Request
effect_type i bs = provided (eqb (length bs) 2) (mapped (asks.effect i) (type_in bs))

-- 3 effect: number 8
abbrev pub effect_body : List ℕ → Option Request
effect_body bs = field 8 bs effect_type

-- id 2
abbrev pub unary_id : ScalarType → Unary → List ℕ → Option Request
unary_id t o bs = last_field 2 bs (asks.unary t o)

-- operator 1, parameter 1
abbrev pub unary_operator : ScalarType → List ℕ → Option Request
unary_operator t bs = provided (leb 2 (length bs)) (given (unary_by_code (get_or bs 0 0) (get_or bs 1 0)) (λ o. unary_id t o (drop 2 bs)) None)

-- 4 unary: type 1, width 1
abbrev pub unary_body : List ℕ → Option Request
unary_body bs = type_field bs unary_operator

-- right 2
abbrev pub binary_right : ScalarType → Binary → ℕ → List ℕ → Option Request
binary_right t o l bs = last_field 2 bs (asks.binary t o l)

-- left 2
abbrev pub binary_left : ScalarType → Binary → List ℕ → Option Request
binary_left t o bs = field 2 bs (binary_right t o)

-- operator 1
abbrev pub binary_operator : ScalarType → List ℕ → Option Request
binary_operator t bs = byte_field bs (λ code rest. given (binary_by_code code) (λ o. binary_left t o rest) None)

-- 5 binary: type 1, width 1
abbrev pub binary_body : List ℕ → Option Request
binary_body bs = type_field bs binary_operator

-- width 1
abbrev pub slice_width : ℕ → ℕ → List ℕ → Option Request
slice_width v o bs = last_byte bs (asks.slice v o)

-- offset 2
abbrev pub slice_offset : ℕ → List ℕ → Option Request
slice_offset v bs = field 2 bs (slice_width v)

-- 6 slice: id 2
abbrev pub slice_body : List ℕ → Option Request
slice_body bs = field 2 bs slice_offset

-- width 1
abbrev pub concat_width : ℕ → ℕ → ℕ → List ℕ → Option Request
concat_width h l v bs = last_byte bs (asks.concat h l v)

-- low width 1
abbrev pub concat_low_width : ℕ → ℕ → List ℕ → Option Request
concat_low_width h l bs = byte_field bs (concat_width h l)

-- low 2
abbrev pub concat_low : ℕ → List ℕ → Option Request
concat_low h bs = field 2 bs (concat_low_width h)

-- 7 concat: high 2
abbrev pub concat_body : List ℕ → Option Request
concat_body bs = field 2 bs concat_low

-- high 16
abbrev pub range_high : ℕ → ℕ → List ℕ → Option Request
range_high v low bs = last_field 16 bs (asks.unsigned_range v low)

-- low 16
abbrev pub range_low : ℕ → List ℕ → Option Request
range_low v bs = field 16 bs (range_high v)

-- 8 unsigned range: id 2
abbrev pub range_body : List ℕ → Option Request
range_body bs = field 2 bs range_low

-- expected 1, a flag
abbrev pub guard_expected : ℕ → List ℕ → Option Request
guard_expected n bs = provided (eqb (length bs) 1) (mapped (asks.guard n) (truth_by_number (get_or bs 0 0)))

-- 9 guard: id 2
abbrev pub guard_body : List ℕ → Option Request
guard_body bs = field 2 bs guard_expected

-- the request of a tag other than retain's, and a body
unfoldable pub request_in : ℕ → List ℕ → Option Request
request_in tag bs =
    cond (eqb tag 1) (constant_body bs)
    (cond (eqb tag 2) (input_body bs)
    (cond (eqb tag 3) (effect_body bs)
    (cond (eqb tag 4) (unary_body bs)
    (cond (eqb tag 5) (binary_body bs)
    (cond (eqb tag 6) (slice_body bs)
    (cond (eqb tag 7) (concat_body bs)
    (cond (eqb tag 8) (range_body bs)
    (cond (eqb tag 9) (guard_body bs) None))))))))

-- ---- records

-- the tag of a retain
abbrev pub RETAIN : ℕ
RETAIN = 10

-- what a record asks for: a request, or a retain with its keep list
pub data Asked : Type 0 where
  request : Request → Asked
  retain : List ℕ → Asked

-- 10 retain: a byte for each node
abbrev pub asked_in : ℕ → List ℕ → Option Asked
asked_in tag bs = cond (eqb tag RETAIN) (Some (retain bs)) (mapped request (request_in tag bs))

-- bytes before the body: the tag, and the length in two
abbrev pub HEADER : ℕ
HEADER = 3

-- the length that a record says its body has
abbrev pub body_length : List ℕ → ℕ
body_length bs = little (take 2 (drop 1 bs))

-- the tag of a record whose body has just that length
abbrev pub tag_in : List ℕ → Option ℕ
tag_in bs = provided (leb HEADER (length bs)) (only (eqb (body_length bs) (length bs - HEADER)) (get_or bs 0 0))

-- what a whole record asks for: a tag byte, a length, a body; none of a bad record
unfoldable pub asked : List ℕ → Option Asked
asked bs = given (tag_in bs) (λ tag. asked_in tag (drop HEADER bs)) None

-- how many bytes the first record of some bytes has, if it is there whole
unfoldable pub first_length : List ℕ → Option ℕ
first_length bs = provided (leb HEADER (length bs)) (only (leb (HEADER + body_length bs) (length bs)) (HEADER + body_length bs))

-- The plain book of demand 3, and lists of calls played from the empty graph. Document 01's 'The plain book of demand 3'.
use Rattle.std.specs.Prelude.{Bool, true, cond, ◌&&◌, List, [], ◌∷◌, ◌++◌, ◌≡◌, ℕ, zero, suc, ◌-◌, ◌%◌, ◌^◌, ◌<◌, ◌≤◌, eqb, leb, length, get_or, take, replicate, ℤ}
use Rattle.std.specs.Prelude.{Option, None, Some}
use Rattle.word.specs.Value.{residue, signed}
use Rattle.word.specs.Option.{from_bool, or_else}
use Rattle.range.specs.Interval.{Interval, ◌∈◌}
use Rattle.range.specs.declared.ScalarType.{ScalarType}
use Rattle.range.specs.declared.ScalarType.TheVariants as ty
use Rattle.graph.specs.Layout.{REGION, count_of}
use Rattle.graph.specs.Node.{type_at, range_at}
use Rattle.native.specs.Call as calls
use Rattle.native.specs.Call.{Response, Called}
use Rattle.request.specs.Request as asks
use Rattle.request.specs.Request.{Request}
use Rattle.native.specs.Perform.{request_call}
use Rattle.native.specs.Retain as retaining
use Rattle.native.specs.Retain.{Outcome, Retention}
use Rattle.answer.specs.declared.Refusal.{Refusal}
use Rattle.answer.specs.declared.Refusal.TheVariants as no
use Rattle.guard_list.specs.GuardList.{guards_call}
use Rattle.mark.specs.Layout.{MARKS, standing}
use Rattle.mark.specs.Mark as marking
use Rattle.mark.specs.Mark.{Number, Marking, Returning, Retaining, mark_call, return_call, retain_call}
use Rattle.meaning.specs.Value.{Env, size, integer_of, of_type, valued, and_then, Operand, unary_means, binary_means, slice_means, concat_means, value}

-- ---- the calls

-- a call of demand 3 with any arguments; a retain has its keep list and the mapping lent, a return the mark's number, a list of guards its conditions and answers
pub data Action : Type 0 where
  request : Request → Action
  retain : List ℕ → List ℕ → Action
  mark : Action
  return_to : ℕ → Action
  guards : List ℕ → List ℕ → Action

-- the end of a range as the signed number of its 128-bit pattern
abbrev pub signed_end : ℤ → ℤ
signed_end z = signed 128 (residue 128 z)

-- a range whose ends are 128-bit numbers
abbrev pub signed_ends : Option Interval → Option Interval
signed_ends None = None
signed_ends (Some a) = Some (record { low = signed_end a.low; high = signed_end a.high })

-- a value handed in is a 128-bit pattern: a constant's, and the ends of an input's range
abbrev pub patterned : Request → Request
patterned (asks.constant t v) = asks.constant t (v % 2 ^ 128)
patterned (asks.input i t r) = asks.input i t (signed_ends r)
patterned (asks.effect i t) = asks.effect i t
patterned (asks.unary t o v) = asks.unary t o v
patterned (asks.binary t o l r) = asks.binary t o l r
patterned (asks.slice v o w) = asks.slice v o w
patterned (asks.concat h l v w) = asks.concat h l v w
patterned (asks.unsigned_range v low high) = asks.unsigned_range v low high
patterned (asks.guard n e) = asks.guard n e
patterned (asks.unnamed ws is) = asks.unnamed ws is

-- the single guards of a list: each condition with its answer
abbrev pub singles : List ℕ → List ℕ → List Request
singles [] es = []
singles (c ∷ cs) [] = []
singles (c ∷ cs) (e ∷ es) = asks.guard c (eqb e 1) ∷ singles cs es

-- ---- the plain operations

-- of a request, over what its ids stand for; a guard and codes that name nothing have no value
abbrev pub request_means : Env → (ℕ → Operand) → Request → Option ℕ
request_means ρ look (asks.constant t v) = valued t v
request_means ρ look (asks.input i t r) = of_type t (ρ.input i)
request_means ρ look (asks.effect i t) = of_type t (ρ.effect i)
request_means ρ look (asks.unary t o v) = unary_means t o (look v).val
request_means ρ look (asks.binary t o l r) = binary_means t o (look l).val (look r).val
request_means ρ look (asks.slice v o w) = slice_means (ty.Bits w) o (look v).val
request_means ρ look (asks.concat h l v w) = concat_means (ty.Bits w) v (look h).val (look l).val
request_means ρ look (asks.unsigned_range v low high) = and_then (look v).val (λ x. Some (from_bool (leb low x && leb x high)))
request_means ρ look (asks.guard n e) = None
request_means ρ look (asks.unnamed ws is) = None

-- ---- the book

-- an id with a value, or none
pub record Line : Type 0 where
  pub id : ℕ
  pub val : Option ℕ

-- what is taken of the values: an input's or an effect's type, and the range given, if one is; that a guard holds, by its condition's value
pub data Condition : Type 0 where
  input_is : ℕ → ScalarType → Option Interval → Condition
  effect_is : ℕ → ScalarType → Condition
  holds : Option ℕ → Bool → Condition

-- lines and conditions
pub record Book : Type 0 where
  pub lines : List Line
  pub conditions : List Condition

-- the value of the first line that has this id and a value
abbrev pub first : List Line → ℕ → Option ℕ
first [] n = None
first (l ∷ ls) n = cond (eqb l.id n) (or_else l.val (first ls n)) (first ls n)

-- an id handed in: its node's type, and its line's value, without such a line its node's, in the graph that the call finds
abbrev pub handed : Env → List ℕ → List Line → ℕ → Operand
handed ρ g ls n = record { type = type_at g n; val = or_else (first ls n) (value ρ g n) }

-- the conditions that a request adds
abbrev pub request_conditions : (ℕ → Operand) → Request → List Condition
request_conditions look (asks.constant t v) = []
request_conditions look (asks.input i t r) = input_is i t r ∷ []
request_conditions look (asks.effect i t) = effect_is i t ∷ []
request_conditions look (asks.unary t o v) = []
request_conditions look (asks.binary t o l r) = []
request_conditions look (asks.slice v o w) = []
request_conditions look (asks.concat h l v w) = []
request_conditions look (asks.unsigned_range v low high) = []
request_conditions look (asks.guard n e) = holds (look n).val e ∷ []
request_conditions look (asks.unnamed ws is) = []

-- a call that returned an id adds a line and conditions, a guard that is done its condition; a call refused, or answered None, adds nothing
abbrev pub adds : Response → Option ℕ → List Condition → Book → Book
adds (calls.id n) v cs b = record { lines = b.lines ++ (record { id = n; val = v } ∷ []); conditions = cs ++ b.conditions }
adds calls.nothing v cs b = b
adds calls.done v cs b = record { lines = b.lines; conditions = cs ++ b.conditions }
adds (calls.refused r) v cs b = b

-- is node n kept? Its keep element is 1
abbrev pub keeps : List ℕ → ℕ → Bool
keeps keep n = eqb (get_or keep n 0) 1

-- the number of kept ids below n
abbrev pub renumbered : List ℕ → ℕ → ℕ
renumbered [] n = 0
renumbered (k ∷ ks) zero = 0
renumbered (k ∷ ks) (suc n) = cond (eqb k 1) (suc (renumbered ks n)) (renumbered ks n)

-- the lines of dropped ids are struck, a kept id becomes the number of kept ids below it
abbrev pub struck : List ℕ → List Line → List Line
struck keep [] = []
struck keep (l ∷ ls) = cond (keeps keep l.id) (record { id = renumbered keep l.id; val = l.val } ∷ struck keep ls) (struck keep ls)

-- what a retain's mapping has to be: a kept id becomes the number of kept ids below it, the first being `next`; a dropped one 2 ^ 64 - 1
abbrev pub renumbering : ℕ → List ℕ → List ℕ
renumbering next [] = []
renumbering next (k ∷ ks) = cond (eqb k 1) (next ∷ renumbering (suc next) ks) ((2 ^ 64 - 1) ∷ renumbering next ks)

-- a retain that isn't refused; conditions stay
abbrev pub retains : Outcome → List ℕ → Book → Book
retains (retaining.kept n) keep b = record { lines = struck keep b.lines; conditions = b.conditions }
retains (retaining.refused r) keep b = b

-- the book before any call
abbrev pub blank : Book
blank = record { lines = []; conditions = [] }

-- ---- the books at the marks that stand, the first mark's first

-- a mark remembers the book
abbrev pub remembers : Number → Book → List Book → List Book
remembers (marking.number k) b bs = bs ++ (b ∷ [])
remembers (marking.refused r) b bs = bs

-- a return puts the book back to what it was at its mark
abbrev pub put_back : Response → ℕ → List Book → Book → Book
put_back (calls.id n) k bs b = b
put_back calls.nothing k bs b = b
put_back calls.done k bs b = get_or bs k blank
put_back (calls.refused r) k bs b = b

-- it keeps its own mark and drops later ones
abbrev pub forgets : Response → ℕ → List Book → List Book
forgets (calls.id n) k bs = bs
forgets calls.nothing k bs = bs
forgets calls.done k bs = take (suc k) bs
forgets (calls.refused r) k bs = bs

-- a retain that isn't refused drops all marks
abbrev pub drops_all : Outcome → List Book → List Book
drops_all (retaining.kept n) bs = []
drops_all (retaining.refused r) bs = bs

-- ---- playing

-- a graph and the book beside it
pub record State : Type 0 where
  pub graph : List ℕ
  pub book : Book

-- what a list of calls leaves: the graph and the book, the marks' region, and the book at each mark that stands
pub record History : Type 0 where
  pub now : State
  pub marks : List ℕ
  pub books : List Book

-- what a call leaves
abbrev pub called : Called → Option ℕ → List Condition → Book → State
called c v cs b = record { graph = c.words; book = adds c.answer v cs b }

-- what a retain leaves
abbrev pub kept : Retention → List ℕ → Book → State
kept r keep b = record { graph = r.words; book = retains r.outcome keep b }

-- a request and what it leaves
abbrev pub acted : Env → Request → State → State
acted ρ q s =
    called (request_call s.graph q) (request_means ρ (handed ρ s.graph s.book.lines) q)
    (request_conditions (handed ρ s.graph s.book.lines) q) s.book

-- requests one after the other, each in the graph that the one before left
abbrev pub singly : Env → List Request → State → State
singly ρ [] s = s
singly ρ (q ∷ qs) s = singly ρ qs (acted ρ q s)

-- of two books the new one, if a list of guards is done
abbrev pub takes : Response → Book → Book → Book
takes (calls.id n) new old = old
takes calls.nothing new old = old
takes calls.done new old = new
takes (calls.refused r) new old = old

-- what a list of guards leaves: beside its graph a new book, or the old one
abbrev pub listed : Called → Book → Book → State
listed c new old = record { graph = c.words; book = takes c.answer new old }

-- a list of guards and what it leaves: the book is that of its single guards
abbrev pub acted_guards : Env → List ℕ → List ℕ → State → State
acted_guards ρ cs es s = listed (guards_call s.graph cs es) (singly ρ (singles cs es) s).book s.book

-- a retain and what it leaves
abbrev pub retained_by : Retaining → List ℕ → History → History
retained_by c keep h = record { now = kept c.retention keep h.now.book; marks = c.marks; books = drops_all c.retention.outcome h.books }

-- a mark and what it leaves
abbrev pub marked_by : Marking → History → History
marked_by c h = record { now = h.now; marks = c.marks; books = remembers c.answer h.now.book h.books }

-- a return and what it leaves
abbrev pub returned_by : Returning → ℕ → History → History
returned_by c k h =
    record { now = record { graph = c.words; book = put_back c.answer k h.books h.now.book }; marks = c.marks; books = forgets c.answer k h.books }

-- one call
abbrev pub act : Env → Action → History → History
act ρ (request q) h = record { now = acted ρ (patterned q) h.now; marks = h.marks; books = h.books }
act ρ (retain keep mapping) h = retained_by (retain_call h.now.graph h.marks keep mapping) keep h
act ρ mark h = marked_by (mark_call h.now.graph h.marks) h
act ρ (return_to k) h = returned_by (return_call h.now.graph h.marks k) k h
act ρ (guards cs es) h = record { now = acted_guards ρ cs es h.now; marks = h.marks; books = h.books }

-- a list of calls, the latest first, from the region of zeros and a marks' region
unfoldable pub play : Env → List ℕ → List Action → History
play ρ m [] = record { now = record { graph = replicate REGION 0; book = blank }; marks = m; books = [] }
play ρ m (a ∷ before) = act ρ a (play ρ m before)

-- a marks' region in which no mark stands
abbrev pub Unmarked : List ℕ → Type 0
Unmarked m = (length m ≡ MARKS) × (standing m ≡ 0)

-- ---- what demand 3 says

-- a condition holds of the environment
abbrev pub Met : Env → Condition → Type 0
Met ρ (input_is n t r) = (ρ.input n < size t) × ((a : Interval) → r ≡ Some a → (integer_of t (ρ.input n)) ∈ a)
Met ρ (effect_is n t) = ρ.effect n < size t
Met ρ (holds v e) = v ≡ Some (from_bool e)

-- all conditions hold
abbrev pub AllMet : Env → List Condition → Type 0
AllMet ρ [] = Unit {0}
AllMet ρ (c ∷ cs) = Met ρ c × AllMet ρ cs

-- a line's id is a node's, and its value, if it has one, is the node's
pub record Right (ρ : Env) (g : List ℕ) (l : Line) : Type 0 where
  pub here : l.id < count_of g
  pub means : (v : ℕ) → l.val ≡ Some v → value ρ g l.id ≡ Some v

-- all lines
abbrev pub AllRight : Env → List ℕ → List Line → Type 0
AllRight ρ g [] = Unit {0}
AllRight ρ g (l ∷ ls) = Right ρ g l × AllRight ρ g ls

-- every line is right, every defined value lies in its node's range, and a node that a retain keeps means what it meant
pub record Demand3 (ρ : Env) (h : History) : Type 0 where
  pub lines : AllRight ρ h.now.graph h.now.book.lines
  pub ranges : (n : ℕ) → n < count_of h.now.graph → (v : ℕ) → value ρ h.now.graph n ≡ Some v
      → (a : Interval) → range_at h.now.graph n ≡ Some a → (integer_of (type_at h.now.graph n) v) ∈ a
  pub retained : (keep mapping : List ℕ) (k : ℕ) → (retain_call h.now.graph h.marks keep mapping).retention.outcome ≡ retaining.kept k
      → (n : ℕ) → n < count_of h.now.graph → keeps keep n ≡ true
      → value ρ (retain_call h.now.graph h.marks keep mapping).retention.words (renumbered keep n) ≡ value ρ h.now.graph n

-- whatever the values, the mapping of a retain that isn't refused is the book's renumbering
abbrev pub Renumbers : History → Type 0
Renumbers h = (keep mapping : List ℕ) (k : ℕ) → (retain_call h.now.graph h.marks keep mapping).retention.outcome ≡ retaining.kept k
    → (retain_call h.now.graph h.marks keep mapping).retention.mapping ≡ renumbering 0 keep

-- whatever the values, a mark is answered by the number of marks that stand before it, up to sixteen, and a return is refused only if its mark doesn't stand
pub record Marks (h : History) : Type 0 where
  pub set : length h.books < 16 → (mark_call h.now.graph h.marks).answer ≡ marking.number (length h.books)
  pub full : 16 ≤ length h.books → (mark_call h.now.graph h.marks).answer ≡ marking.refused no.Marks
  pub back : (k : ℕ) → k < length h.books → (return_call h.now.graph h.marks k).answer ≡ calls.done
  pub gone : (k : ℕ) → length h.books ≤ k → (return_call h.now.graph h.marks k).answer ≡ calls.refused no.Mark

-- an answer, if it is a refusal, or else what the calls after it are answered
abbrev pub refused_or : Response → Response → Response
refused_or (calls.id n) rest = rest
refused_or calls.nothing rest = rest
refused_or calls.done rest = rest
refused_or (calls.refused r) rest = calls.refused r

-- the first refusal of requests one after the other, or done
abbrev pub answered_singly : Env → List Request → State → Response
answered_singly ρ [] s = calls.done
answered_singly ρ (q ∷ qs) s = refused_or (request_call s.graph q).answer (answered_singly ρ qs (acted ρ q s))

-- a list that can be taken: at most 32 conditions, and one answer, 0 or 1, for each
abbrev pub Takeable : List ℕ → List ℕ → Type 0
Takeable cs es = (length cs ≤ 32) × (length es ≡ length cs) × ((i : ℕ) → get_or es i 0 ≤ 1)

-- whatever the values, a list of guards that can be taken is answered as its single guards are, up to the first that is refused; done, it
-- leaves the graph and the book that they leave, and refused, those that it found
pub record Singly (ρ : Env) (h : History) : Type 0 where
  pub answer : (cs es : List ℕ) → Takeable cs es → (guards_call h.now.graph cs es).answer ≡ answered_singly ρ (singles cs es) h.now
  pub other : (cs es : List ℕ) → (Takeable cs es → ⊥) → (guards_call h.now.graph cs es).answer ≡ calls.refused no.Guards
  pub done : (cs es : List ℕ) → (guards_call h.now.graph cs es).answer ≡ calls.done → (act ρ (guards cs es) h).now ≡ singly ρ (singles cs es) h.now
  pub refused : (cs es : List ℕ) (r : Refusal) → (guards_call h.now.graph cs es).answer ≡ calls.refused r → (act ρ (guards cs es) h).now ≡ h.now

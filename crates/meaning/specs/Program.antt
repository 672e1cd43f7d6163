-- Records one after another, as the program reads them: what they print and leave, and the calls that they name.
use Rattle.std.specs.Prelude.{Bool, false, cond, not, ◌||◌, List, [], ◌∷◌, ◌++◌, ◌≡◌, ℕ, replicate}
use Rattle.std.specs.Prelude.{Option, None, Some}
use Rattle.word.specs.Option.{is_some}
use Rattle.graph.specs.Layout.{REGION}
use Rattle.native.specs.Perform.{request_call}
use Rattle.mark.specs.Mark.{retain_call}
use Rattle.record.specs.Record as records
use Rattle.record.specs.Record.{Bytes, Asked, asked}
use Rattle.record.specs.Line.{BAD, answer_line, retain_line}
use Rattle.record.specs.Perform.{Effect, effect_call}
use Rattle.meaning.specs.Value.{Env}
use Rattle.meaning.specs.Book.{Action, request, retain, mark, return_to, guards, patterned, play, Unmarked}

-- ---- what records print and leave

-- the text so far, whether reading is over, the region and the mapping
pub record Run : Type 0 where
  pub text : List ℕ
  pub is_over : Bool
  pub graph : List ℕ
  pub mapping : List ℕ

-- before the first record: the empty graph
abbrev pub started : List ℕ → Run
started m = record { text = []; is_over = false; graph = replicate REGION 0; mapping = m }

-- a line more
abbrev pub more : Run → Effect → Run
more s e = record { text = s.text ++ e.text; is_over = e.is_last; graph = e.graph; mapping = e.mapping }

-- a record more; after a bad one nothing is read
abbrev pub next : Run → List ℕ → Run
next s r = cond s.is_over s (more s (effect_call s.graph s.mapping r))

-- records, the latest first
unfoldable pub run_of : List ℕ → List (List ℕ) → Run
run_of m [] = started m
run_of m (r ∷ before) = next (run_of m before) r

-- ---- the calls that they name

-- is there a bad record among them?
abbrev pub is_over : List (List ℕ) → Bool
is_over [] = false
is_over (r ∷ before) = is_over before || not (is_some (asked r))

-- a call; the mapping of a retain is the program's own and always fits, so any with a word for each element stands for it
abbrev pub call_of : Asked → Action
call_of (records.request q) = request q
call_of (records.retain keep) = retain keep keep

-- the call of a record, if it is no bad one
abbrev pub with_call : Option Asked → List Action → List Action
with_call None calls = calls
with_call (Some a) calls = call_of a ∷ calls

-- the calls of records, the latest first, up to a bad one
unfoldable pub calls_of : List (List ℕ) → List Action
calls_of [] = []
calls_of (r ∷ before) = cond (is_over before) (calls_of before) (with_call (asked r) (calls_of before))

-- ---- their answers

-- the line of a call's answer on a graph and its marks' region; no record is a mark, a return or a list of guards
abbrev pub line_of : List ℕ → List ℕ → Action → List ℕ
line_of g w (request q) = answer_line (request_call g (patterned q)).answer
line_of g w (retain keep mapping) = retain_line (retain_call g w keep mapping).retention.outcome
line_of g w mark = []
line_of g w (return_to k) = []
line_of g w (guards cs es) = []

-- the answers to a list of calls, each on the graph that the ones before it left, a line for each
unfoldable pub lines_of : Env → List ℕ → List Action → List ℕ
lines_of ρ w [] = []
lines_of ρ w (a ∷ before) = lines_of ρ w before ++ line_of (play ρ w before).now.graph (play ρ w before).marks a

-- ---- what the program's theorem says

-- every record is made of bytes
abbrev pub AllBytes : List (List ℕ) → Type 0
AllBytes [] = Unit {0}
AllBytes (r ∷ rs) = Bytes r × AllBytes rs

-- the region is that of the list of calls beside a marks' region w, each line is its call's answer, and a bad record has the last
pub record Plays (ρ : Env) (w : List ℕ) (rs : List (List ℕ)) (s : Run) : Type 0 where
  pub graph : s.graph ≡ (play ρ w (calls_of rs)).now.graph
  pub text : s.text ≡ lines_of ρ w (calls_of rs) ++ cond (is_over rs) BAD []
  pub over : s.is_over ≡ is_over rs

-- a region that a list of calls leaves from the empty graph with no mark standing
pub record Grown (g : List ℕ) : Type 0 where
  pub env : Env
  pub marks : List ℕ
  pub none : Unmarked marks
  pub calls : List Action
  pub grows : (play env marks calls).now.graph ≡ g

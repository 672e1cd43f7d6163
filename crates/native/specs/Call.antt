-- Answers of the calls, as data and as numbers, and the calls that read one node: literal and resolve.
use Rattle.std.specs.Prelude.{Bool, true, false, cond, List, ℕ, ◌-◌, ◌^◌, ltb}
use Rattle.evaluate.specs.Answer as evaluate
use Rattle.answer.specs.declared.Refusal.{Refusal}
use Rattle.answer.specs.declared.Refusal.TheVariants as no
use Rattle.graph.specs.Insert as graph
use Rattle.graph.specs.Layout.{count_of}
use Rattle.graph.specs.WellFormed.{is_graph}
use Rattle.std.specs.Prelude.{Result, Ok, Err}
use Rattle.native.specs.declared.Answer.{Answer}
use Rattle.native.specs.declared.Answer.TheVariants as answer
use Rattle.answer.specs.Refusal.{refusal_number}

-- ---- answers

-- a node, None, a guard's Done, or a refusal
pub data Response : Type 0 where
  id : ℕ → Response
  nothing : Response
  done : Response
  refused : Refusal → Response

-- what the answer to a call stands for
abbrev pub answer_of : Result Answer Refusal → Response
answer_of (Ok (answer.Id i)) = id i.0
answer_of (Ok answer.None) = nothing
answer_of (Ok answer.Done) = done
answer_of (Err r) = refused r

-- a refusal as an answer's number: they count down from None's
abbrev pub refused_as : Refusal → ℕ
refused_as r = 2 ^ 64 - 1 - refusal_number r

-- an answer as one number
abbrev pub answer_number : Response → ℕ
answer_number (id n) = n
answer_number nothing = 2 ^ 64 - 1
answer_number done = 2 ^ 63
answer_number (refused r) = refused_as r

-- an answer that is no refusal as one number
abbrev pub answer_as : Answer → ℕ
answer_as (answer.Id i) = i.0
answer_as answer.None = 2 ^ 64 - 1
answer_as answer.Done = 2 ^ 63

-- an answer with its number, or a refusal, as one number
abbrev pub numbered : {A : Type 0} → (A → ℕ) → Result A Refusal → ℕ
numbered f (Ok a) = f a
numbered f (Err r) = refused_as r

-- an answer, and the words of the region after the call
pub record Called : Type 0 where
  pub answer : Response
  pub words : List ℕ

-- an answer with the words of the region
abbrev pub called : Response → List ℕ → Called
called a g = record { answer = a; words = g }

-- a refusal leaves the region as it was
abbrev pub refusal : List ℕ → Refusal → Called
refusal g r = called (refused r) g

-- a question that is answered yes, or its refusal
abbrev pub question : List ℕ → Bool → Refusal → Called → Called
question g t r c = cond t c (refusal g r)

-- is an answer a refusal?
abbrev pub is_refused : Response → Bool
is_refused (id n) = false
is_refused nothing = false
is_refused done = false
is_refused (refused r) = true

-- ---- the calls that read one node

-- question 3: is the id below the count?
abbrev pub question3 : {A : Type 0} → List ℕ → ℕ → A → A → A
question3 g n c refusal3 = cond (ltb n (count_of g)) c refusal3

-- the call literal on a graph
unfoldable pub literal_in_graph : List ℕ → ℕ → evaluate.Outcome
literal_in_graph g n = question3 g n (evaluate.answered (graph.literal g n)) (evaluate.refused no.Id)

-- the call literal
unfoldable pub literal_call : List ℕ → ℕ → evaluate.Outcome
literal_call g n = cond (is_graph g) (literal_in_graph g n) (evaluate.refused no.Graph)

-- the call resolve on a graph
unfoldable pub resolve_in_graph : List ℕ → ℕ → Response
resolve_in_graph g n = question3 g n (id (graph.resolve g n)) (refused no.Id)

-- the call resolve
unfoldable pub resolve_call : List ℕ → ℕ → Response
resolve_call g n = cond (is_graph g) (resolve_in_graph g n) (refused no.Graph)

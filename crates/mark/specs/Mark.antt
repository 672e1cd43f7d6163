-- What a mark remembers, what a return gives back, and the calls mark, return_to and retain.
use Rattle.std.specs.Prelude.{cond, List, ◌++◌, ℕ, ◌+◌, ltb, set, take, drop}
use Rattle.answer.specs.declared.Refusal.{Refusal}
use Rattle.answer.specs.declared.Refusal.TheVariants as no
use Rattle.graph.specs.Layout.{LIMIT, count_of}
use Rattle.graph.specs.Alias.{saved, restored}
use Rattle.native.specs.Call as calls
use Rattle.native.specs.Call.{Response, refused_as}
use Rattle.native.specs.Retain as unmarking
use Rattle.native.specs.Retain.{Outcome, Retention, retention}
use Rattle.std.specs.Prelude.{Result, Ok, Err}
use Rattle.mark.specs.declared.MarkId.{MarkId}
use Rattle.mark.specs.Layout.{MOST, mark_start, standing, count_at, aliases_at}
use Rattle.mark.specs.WellFormed.{is_marked}

-- ---- the regions

-- so many marks stand; nothing else of the region changes
abbrev pub standing_only : ℕ → List ℕ → List ℕ
standing_only k m = set m 0 k

-- these words in the place of the alias words of mark k
abbrev pub with_aliases : List ℕ → ℕ → List ℕ → List ℕ
with_aliases m k words = take (mark_start k + 1) m ++ (words ++ drop LIMIT (drop (mark_start k + 1) m))

-- mark k, the last: the number of the graph's nodes and their alias words
unfoldable pub marked : List ℕ → List ℕ → ℕ → List ℕ
marked g m k =
    with_aliases (set (standing_only (k + 1) m) (mark_start k) (count_of g)) k
    (saved g (aliases_at (set (standing_only (k + 1) m) (mark_start k) (count_of g)) k))

-- the graph at mark k: its first nodes alone, with their alias words
unfoldable pub returned : List ℕ → List ℕ → ℕ → List ℕ
returned g m k = restored (count_at m k) (aliases_at m k) g

-- ---- mark

-- the number of the mark that was set, or a refusal
pub data Number : Type 0 where
  number : ℕ → Number
  refused : Refusal → Number

-- what the answer to mark stands for
abbrev pub marking_of : Result MarkId Refusal → Number
marking_of (Ok k) = number k.0
marking_of (Err r) = refused r

-- a mark as an answer's number
abbrev pub mark_number : Number → ℕ
mark_number (number k) = k
mark_number (refused r) = refused_as r

-- an answer, and the words of the marks' region after the call
pub record Marking : Type 0 where
  pub answer : Number
  pub marks : List ℕ

-- an answer with the words of the marks' region
abbrev pub marking : Number → List ℕ → Marking
marking a m = record { answer = a; marks = m }

-- mark on a graph with its marks: the next number, if sixteen do not stand
unfoldable pub mark_in_graph : List ℕ → List ℕ → Marking
mark_in_graph g m = cond (ltb (standing m) MOST) (marking (number (standing m)) (marked g m (standing m))) (marking (refused no.Marks) m)

-- mark: question 1 first
unfoldable pub mark_call : List ℕ → List ℕ → Marking
mark_call g m = cond (is_marked g m) (mark_in_graph g m) (marking (refused no.Graph) m)

-- ---- return_to

-- an answer, and the words of both regions after the call
pub record Returning : Type 0 where
  pub answer : Response
  pub words : List ℕ
  pub marks : List ℕ

-- an answer with the words of both regions
abbrev pub returning : Response → List ℕ → List ℕ → Returning
returning a g m = record { answer = a; words = g; marks = m }

-- a return to mark k, if it stands: the graph as it was, and no later mark
unfoldable pub return_in_graph : List ℕ → List ℕ → ℕ → Returning
return_in_graph g m k =
    cond (ltb k (standing m)) (returning calls.done (returned g m k) (standing_only (k + 1) m))
    (returning (calls.refused no.Mark) g m)

-- a return: question 1 first
unfoldable pub return_call : List ℕ → List ℕ → ℕ → Returning
return_call g m k = cond (is_marked g m) (return_in_graph g m k) (returning (calls.refused no.Graph) g m)

-- ---- retain

-- what is left of the marks: none, if the retain is not refused
abbrev pub unmarked : Outcome → List ℕ → List ℕ
unmarked (unmarking.kept n) m = standing_only 0 m
unmarked (unmarking.refused r) m = m

-- what a retain comes to on its graph, and the words of the marks' region after it
pub record Retaining : Type 0 where
  pub retention : Retention
  pub marks : List ℕ

-- what a retain comes to with the words of the marks' region
abbrev pub retaining : Retention → List ℕ → Retaining
retaining r m = record { retention = r; marks = m }

-- retain on a graph with its marks: as on its region alone, and all marks are dropped
unfoldable pub retain_in_graph : List ℕ → List ℕ → List ℕ → List ℕ → Retaining
retain_in_graph g m keep mapping =
    retaining (unmarking.retain_in_graph g keep mapping) (unmarked (unmarking.retain_in_graph g keep mapping).outcome m)

-- retain: question 1 first
unfoldable pub retain_call : List ℕ → List ℕ → List ℕ → List ℕ → Retaining
retain_call g m keep mapping =
    cond (is_marked g m) (retain_in_graph g m keep mapping) (retaining (retention (unmarking.refused no.Graph) g mapping) m)

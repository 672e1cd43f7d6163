-- One record: the call that it asks for, its line, and whether reading goes on.
use Rattle.std.specs.Prelude.{◌≡◌, ◌≤◌, Bool, true, false, cond, List, ◌++◌, ℕ, min, leb, length, take, drop}
use Rattle.std.specs.Prelude.{Option, None, Some}
use Rattle.text.specs.Text.{placed}
use Rattle.graph.specs.Layout.{count_of}
use Rattle.request.specs.Request.{Request}
use Rattle.native.specs.Call.{Called}
use Rattle.native.specs.Perform.{request_in_graph, request_call}
use Rattle.native.specs.Retain.{Retention, retention, retain_in_graph, retain_call}
use Rattle.record.specs.Record.{Asked, request, retain, asked}
use Rattle.record.specs.Line.{LINE, BAD, answer_line, retain_line}
use Rattle.record.specs.declared.perform.Step.{Step}
use Rattle.record.specs.declared.perform.Step.TheVariants as step

-- a line of so many bytes and reading goes on, or ends; or no room for a line, and nothing was done
pub data Progress : Type 0 where
  goes_on : ℕ → Progress
  ends : ℕ → Progress
  no_room : Progress

-- what a Step stands for, and none of it
abbrev pub progress_of : Option Step → Progress
progress_of (Some (step.Line n)) = goes_on n
progress_of (Some (step.Last n)) = ends n
progress_of None = no_room

-- ---- what a record comes to

-- its line, whether it is the last, and the region and the mapping after it
pub record Effect : Type 0 where
  pub text : List ℕ
  pub is_last : Bool
  pub graph : List ℕ
  pub mapping : List ℕ

-- a line, and reading goes on
abbrev pub says : List ℕ → List ℕ → List ℕ → Effect
says text g m = record { text = text; is_last = false; graph = g; mapping = m }

-- a bad record ends reading and changes nothing
abbrev pub ends_bad : List ℕ → List ℕ → Effect
ends_bad g m = record { text = BAD; is_last = true; graph = g; mapping = m }

-- a request's answer is its line
abbrev pub answered : Called → List ℕ → Effect
answered c m = says (answer_line c.answer) c.words m

-- a retain's outcome is its line
abbrev pub kept_line : Retention → Effect
kept_line r = says (retain_line r.outcome) r.words r.mapping

-- how many words of the mapping are lent to a retain: one for each node, as far as there are
abbrev pub lent_words : List ℕ → List ℕ → ℕ
lent_words g m = min (count_of g) (length m)

-- a retain that was lent the first k words of a mapping, with the words past them
abbrev pub widened : ℕ → List ℕ → Retention → Retention
widened k m r = retention r.outcome r.words (r.mapping ++ drop k m)

-- what is asked for, done by these two calls; none is a bad record
unfoldable pub done_by : (Request → Called) → (List ℕ → List ℕ → Retention) → List ℕ → List ℕ → Option Asked → Effect
done_by call keep g m None = ends_bad g m
done_by call keep g m (Some (request q)) = answered (call q) m
done_by call keep g m (Some (retain bs)) = kept_line (widened (lent_words g m) m (keep bs (take (lent_words g m) m)))

-- a record on a graph
unfoldable pub effect_in_graph : List ℕ → List ℕ → List ℕ → Effect
effect_in_graph g m bs = done_by (request_in_graph g) (retain_in_graph g) g m (asked bs)

-- a record on any region: whether it is a bad one comes before every question, then question 1
unfoldable pub effect_call : List ℕ → List ℕ → List ℕ → Effect
effect_call g m bs = done_by (request_call g) (retain_call g) g m (asked bs)

-- ---- its line in a slice

-- what is left of the slices lent
pub record Left : Type 0 where
  pub progress : Progress
  pub graph : List ℕ
  pub mapping : List ℕ
  pub line : List ℕ

-- a step with the slices
abbrev pub left : Progress → List ℕ → List ℕ → List ℕ → Left
left p g m out = record { progress = p; graph = g; mapping = m; line = out }

-- a line of n bytes, the last or not
abbrev pub line_of : Bool → ℕ → Progress
line_of is_last n = cond is_last (ends n) (goes_on n)

-- an effect with its line at the start of a slice
abbrev pub written : List ℕ → Effect → Left
written out e = left (line_of e.is_last (length e.text)) e.graph e.mapping (placed out e.text)

-- an effect's line fits a slice, and this is what is left
pub record Writes (out : List ℕ) (e : Effect) (after : Left) : Type 0 where
  pub fits : length e.text ≤ length out
  pub same : after ≡ written out e

-- a line needs room; without it nothing is done
unfoldable pub record_in_graph : List ℕ → List ℕ → List ℕ → List ℕ → Left
record_in_graph g m bs out = cond (leb LINE (length out)) (written out (effect_in_graph g m bs)) (left no_room g m out)

-- the same on any region
unfoldable pub record_call : List ℕ → List ℕ → List ℕ → List ℕ → Left
record_call g m bs out = cond (leb LINE (length out)) (written out (effect_call g m bs)) (left no_room g m out)

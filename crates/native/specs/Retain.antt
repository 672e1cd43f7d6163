-- Retain on a graph's region alone: question 6, the nodes left, and the region and the mapping after it.
use Rattle.std.specs.Prelude.{cond, List, ℕ}
use Rattle.answer.specs.declared.Refusal.{Refusal}
use Rattle.answer.specs.declared.Refusal.TheVariants as no
use Rattle.graph.specs.Layout.{count_of}
use Rattle.graph.specs.WellFormed.{is_graph}
use Rattle.retain.specs.Retain.{is_keep_list, kept_below, new_ids, retained}
use Rattle.native.specs.Call.{refused_as}
use Rattle.std.specs.Prelude.{Result, Ok, Err}

-- the number of nodes left, or a refusal
pub data Outcome : Type 0 where
  kept : ℕ → Outcome
  refused : Refusal → Outcome

-- what the answer to retain stands for
abbrev pub outcome_of : Result ℕ Refusal → Outcome
outcome_of (Ok n) = kept n
outcome_of (Err r) = refused r

-- an outcome as one number
abbrev pub outcome_number : Outcome → ℕ
outcome_number (kept n) = n
outcome_number (refused r) = refused_as r

-- an outcome, and the words of the region and the mapping after the call
pub record Retention : Type 0 where
  pub outcome : Outcome
  pub words : List ℕ
  pub mapping : List ℕ

-- an outcome with the words of the region and the mapping
abbrev pub retention : Outcome → List ℕ → List ℕ → Retention
retention o g mapping = record { outcome = o; words = g; mapping = mapping }

-- retain on a graph: question 6, then the work
unfoldable pub retain_in_graph : List ℕ → List ℕ → List ℕ → Retention
retain_in_graph g keep mapping =
    cond (is_keep_list g keep mapping) (retention (kept (kept_below keep (count_of g))) (retained g keep) (new_ids keep (count_of g)))
    (retention (refused no.Keep) g mapping)

-- retain: question 1 first
unfoldable pub retain_call : List ℕ → List ℕ → List ℕ → Retention
retain_call g keep mapping = cond (is_graph g) (retain_in_graph g keep mapping) (retention (refused no.Graph) g mapping)

-- The call guard, which reads: a guard, None, or a refusal.
use Rattle.std.specs.Prelude.{Bool, cond, List, ℕ}
use Rattle.std.specs.Prelude.{Option, None, Some}
use Rattle.range.specs.declared.ScalarType.TheVariants as ty
use Rattle.answer.specs.declared.Refusal.{Refusal}
use Rattle.answer.specs.declared.Refusal.TheVariants as no
use Rattle.graph.specs.Node.{type_at}
use Rattle.graph.specs.WellFormed.{is_graph}
use Rattle.fold.specs.Shape.{same_type}
use Rattle.guard.specs.Guard.{Guard, one_guard_of, guarded}
use Rattle.std.specs.Prelude.{Result, Ok, Err}
use Rattle.guard.specs.declared.Guard as declared
use Rattle.native.specs.Call.{question3}

-- a guard, None, or a refusal
pub data Reading : Type 0 where
  guard : Guard → Reading
  nothing : Reading
  refused : Refusal → Reading

-- what the answer to guard stands for
abbrev pub reading_of : Result (Option declared.Guard) Refusal → Reading
reading_of (Ok (Some q)) = guard (one_guard_of q)
reading_of (Ok None) = nothing
reading_of (Err r) = refused r

-- a guard, or None where there is none
abbrev pub answered : Option Guard → Reading
answered None = nothing
answered (Some q) = guard q

-- guard on a graph: question 3, question 4 (the condition is Bool), then the work
unfoldable pub guard_in_graph : List ℕ → ℕ → Bool → Reading
guard_in_graph g n e = question3 g n (cond (same_type (type_at g n) ty.Bool) (answered (guarded g n e)) (refused no.Typing)) (refused no.Id)

-- guard: question 1 first
unfoldable pub guard_call : List ℕ → ℕ → Bool → Reading
guard_call g n e = cond (is_graph g) (guard_in_graph g n e) (refused no.Graph)

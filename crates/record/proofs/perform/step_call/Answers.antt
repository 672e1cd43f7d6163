-- `record::perform::step_call` meets its contract: a graph, or a region on which what is asked for is refused. Assumes nothing.
use mathlib.Core.Path.{sym, ◌∙◌}
use borrow.Author.Tests.{ne_eqb}
use Rattle.graph.specs.Layout.{REGION}
use Rattle.graph.specs.WellFormed.{is_graph}
use Rattle.record.proofs.Steps.{effect_in_graph_lem}
use Rattle.record.proofs.perform.step_call.Goals as goal

pub returns-in_default : goal.returns-in_default
unfolding is_graph
returns-in_default c = c.refuse.ensures _ _ (rw (ne_eqb _ REGION c.in_default.ensures.cases))

pub returns-then-is_graph : goal.returns-then-is_graph
returns-then-is_graph c =
    rw (← c.in-Some.ensures.cases.same, ← effect_in_graph_lem _ _ _ (sym c.is_graph.ensures ∙ c.if-is_graph.true)) c.step_in_graph.ensures

pub returns-else-is_graph : goal.returns-else-is_graph
returns-else-is_graph c =
    rw (← c.in-Some.ensures.cases.same) (c.refuse-else-is_graph.ensures _ _ (sym c.is_graph.ensures ∙ c.if-is_graph.false))

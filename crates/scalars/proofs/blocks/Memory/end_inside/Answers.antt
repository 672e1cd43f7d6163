-- `scalars::blocks::Memory::end_inside` meets its contract: a line that was written fits. Assumes nothing.
use native.Mathlib.Omega.{arith}
use Rattle.std.specs.Prelude.{Some}
use Rattle.record.specs.declared.perform.Step.TheVariants as step
use Rattle.scalars.proofs.Through.{known_graph, known_after, leaves}
use Rattle.scalars.proofs.blocks.Memory.end_inside.Goals as goal

pub perform_in_graph-requires : goal.perform_in_graph-requires
perform_in_graph-requires c = known_graph c.args.self.now.grown

pub invariant_of-self : goal.invariant_of-self
invariant_of-self c = record {
  grown = known_after _ _ _ _ _ _ _ c.perform_in_graph.auto.line (λ i. omega (arith, c.type_inv.rest i)) c.args.self.now.grown _ c.perform_in_graph.ensures;
}

pub returns-in-Some-Line : goal.returns-in-Some-Line
returns-in-Some-Line c =
    (leaves _ _ _ _ _ _ _ c.perform_in_graph.auto.line (λ i. omega (arith, c.type_inv.rest i)) c.args.self.now.grown (Some (step.Line c.in-Some-Line.n)) (rw c.in-Some-Line.field-0-is at c.in-Some-Line.ensures)).0

pub returns-in-Some-Last : goal.returns-in-Some-Last
returns-in-Some-Last c =
    (leaves _ _ _ _ _ _ _ c.perform_in_graph.auto.line (λ i. omega (arith, c.type_inv.rest i)) c.args.self.now.grown (Some (step.Last c.in-Some-Last.n)) (rw c.in-Some-Last.field-0-is at c.in-Some-Last.ensures)).0

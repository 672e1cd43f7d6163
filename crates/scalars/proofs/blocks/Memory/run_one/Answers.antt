-- `scalars::blocks::Memory::run_one` meets its contract: the first record, if it is whole, is performed on the part that it takes. Assumes nothing.
use mathlib.Core.Logic.{inl}
use mathlib.Core.Path.{refl, sym, ◌∙◌}
use native.Mathlib.Omega.{arith}
use lib.Seq.{length-take-le}
use Rattle.meaning.proofs.Program.{bytes_take}
use Rattle.scalars.proofs.Through.{known_graph, known_after, first_of, one_says, waits_full}
use Rattle.scalars.proofs.blocks.Memory.run_one.Goals as goal

pub slice_bounds-perform_in_graph-end-2 : goal.slice_bounds-perform_in_graph-end-2
slice_bounds-perform_in_graph-end-2 c =
    sym (length-take-le c.in_ok-len.len c.args.bytes.now (first_of _ _ (sym c.first_length.ensures ∙ c.in_ok-len.was)).within)

pub perform_in_graph-requires : goal.perform_in_graph-requires
perform_in_graph-requires c = known_graph c.args.self.now.grown

pub invariant_of-self : goal.invariant_of-self
invariant_of-self c = record {
  grown = known_after _ _ _ _ _ _ _ c.perform_in_graph.auto.line (bytes_take c.in_ok-len.len c.args.bytes.now (λ i. omega (arith, c.type_inv.bytes i))) c.args.self.now.grown _ c.perform_in_graph.ensures;
}

pub returns-in_err-len : goal.returns-in_err-len
returns-in_err-len c = rw c.from_residual.ensures record { why = inl (sym c.first_length.ensures ∙ c.in_err-len.was); graph = refl; mapping = refl; unwritten = refl }

pub returns-in_err-step : goal.returns-in_err-step
returns-in_err-step c =
    let whole = sym c.first_length.ensures ∙ c.in_ok-len.was in
    rw c.from_residual-in_err-step.ensures (waits_full _ _ _ _ _ _ _ _ whole c.perform_in_graph.auto.line c.in_err-step.ensures)

pub returns : goal.returns
returns c =
    let whole = sym c.first_length.ensures ∙ c.in_ok-len.was in
    one_says _ _ _ _ _ _ _ _ whole c.perform_in_graph.auto.line c.in_ok-step.step c.in_ok-step.ensures

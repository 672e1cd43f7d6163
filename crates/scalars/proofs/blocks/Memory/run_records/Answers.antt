use borrow.Author.Rules.{rules}
use native.Mathlib.Omega.{arith}
use Rattle.record.specs.Record.{Bytes}
use Rattle.scalars.proofs.Through.{known_graph, through_turn, turn_reads, step_reads, through_waits, stops_waits}
use Rattle.scalars.proofs.blocks.Memory.run_records.Goals as goal

pub loop-one-preserved : goal.loop-one-preserved
loop-one-preserved c =
    let b : Bytes c.args.input.now = λ k. omega (arith, c.type_inv.input k) in let is = known_graph c.loop-one.self.grown in
    let o = rw c.in-Line.is at c.in-Some.ensures in (
      through_turn b is c.loop-one.invariant.0 c.loop-one.invariant.1 o,
      search rules,
    )

pub overflow_add-read : goal.overflow_add-read
overflow_add-read c =
    let b : Bytes c.args.input.now = λ k. omega (arith, c.type_inv.input k) in let is = known_graph c.loop-one.self.grown in
    omega (arith, step_reads b is c.loop-one.invariant.0 c.loop-one.invariant.1 c.in-Some.one.step _ _ _ c.in-Some.ensures)

pub loop-one-smaller : goal.loop-one-smaller
loop-one-smaller c =
    let b : Bytes c.args.input.now = λ k. omega (arith, c.type_inv.input k) in let is = known_graph c.loop-one.self.grown in
    let o = rw c.in-Line.is at c.in-Some.ensures in
    omega (arith, turn_reads b is c.loop-one.invariant.0 c.loop-one.invariant.1 o)

pub returns-in-Last-clause-through : goal.returns-in-Last-clause-through
returns-in-Last-clause-through c =
    let b : Bytes c.args.input.now = λ k. omega (arith, c.type_inv.input k) in let is = known_graph c.loop-one.self.grown in
    let o = rw c.in-Last.is at c.in-Some.ensures in
    through_turn b is c.loop-one.invariant.0 c.loop-one.invariant.1 o

pub returns : goal.returns
returns c =
    let b : Bytes c.args.input.now = λ k. omega (arith, c.type_inv.input k) in let is = known_graph c.loop-one.self.grown in
    let o = c.in_default.ensures in
    record { through = through_waits b is c.loop-one.invariant.0 c.loop-one.invariant.1 o; stops = stops_waits b is c.loop-one.invariant.0 c.loop-one.invariant.1 o }

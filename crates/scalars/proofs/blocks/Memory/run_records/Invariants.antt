-- `scalars::blocks::Memory::run_records` meets its contract: the invariant is that the records so far were run. Assumes nothing.
use mathlib.Core.Bool.{false}
use mathlib.Core.Path.{◌≡◌}
use Prim.Native.Nat.{◌-◌}
use lib.ListN.{length}
use Rattle.scalars.specs.Blocks.{Through}
use Rattle.scalars.proofs.blocks.Memory.run_records.Given as goal

abbrev pub invariant-loop-one : goal.invariant-loop-one
invariant-loop-one l =
    Through l.initial.self.graph l.initial.self.mapping l.input l.initial.out l.read l.written false l.self.graph l.self.mapping l.out × (length l.out ≡ length l.initial.out)

abbrev pub decreases-loop-one : goal.decreases-loop-one
decreases-loop-one l = length l.input - l.read

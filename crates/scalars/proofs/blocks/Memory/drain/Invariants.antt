-- `scalars::blocks::Memory::drain` meets its contract. The invariant: `done` lies within the block. The measure is what is
-- left of the block. Assumes nothing.
use Prim.Native.Nat.{◌≤◌, ◌-◌}
use lib.ListN.{length}
use Rattle.scalars.proofs.blocks.Memory.drain.Given as goal

abbrev pub invariant-loop-done : goal.invariant-loop-done
invariant-loop-done l = l.done ≤ length l.input

abbrev pub decreases-loop-done : goal.decreases-loop-done
decreases-loop-done l = length l.input - l.done

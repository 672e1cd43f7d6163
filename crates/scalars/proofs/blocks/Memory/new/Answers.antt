-- `scalars::blocks::Memory::new` meets its contract: a region of zeros is the empty graph. Assumes nothing.
use Rattle.meaning.proofs.Program.{empty_grown}
use Rattle.scalars.proofs.blocks.Memory.new.Goals as goal

pub invariant_of-result : goal.invariant_of-result
invariant_of-result c = record { grown = ∣ empty_grown ∣₁ }

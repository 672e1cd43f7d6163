-- `binary_of` meets its contract: what `get` finds, or Add. Assumes nothing.
use Rattle.std.proofs.Common.{le_refl}
use Rattle.evaluate.specs.declared.Binary.TheVariants.{Add}
use Rattle.evaluate.proofs.code.binary_of.Goals as goal

pub returns : goal.returns
returns c = rw (c.unwrap_or.ensures, c.copied.ensures, ← c.saturating_sub-place.ensures) (c.get.ensures.lookup.4 (le_refl _) Add)

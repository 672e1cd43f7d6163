-- `halves` meets its contract.
use Rattle.std.proofs.Common.{refl}
use Rattle.word.specs.Value.{val}
use Rattle.word.proofs.Word.halves.Goals as goal

pub returns : goal.returns
unfolding val
returns c = refl

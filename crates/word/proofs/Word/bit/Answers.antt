-- `Word::bit` meets its contract: a word is odd where its low half is. Assumes nothing.
use Rattle.std.proofs.Common.{arith}
use Rattle.word.specs.Value.{val}
use Rattle.word.proofs.Word.bit.Goals as goal

pub returns : goal.returns
unfolding val
returns c = rw (← c.unbounded_shr.ensures) (omega arith)

-- `bitand` meets its contract, half by half.
use Rattle.word.specs.Value.{val}
use lib.Bits.{and_block}
use Rattle.std.proofs.Common.{sym, arith}
use Rattle.word.proofs.bits.WordBitAnd.bitand.Goals as goal

pub returns : goal.returns
unfolding val
returns c =
    let g = c.args in
    sym (and_block 64 g.self.hi g.rhs.hi g.self.lo g.rhs.lo (omega arith) (omega arith))

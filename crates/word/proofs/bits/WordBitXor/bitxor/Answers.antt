-- `bitxor` meets its contract, half by half.
use Rattle.word.specs.Value.{val}
use lib.Bits.{xor_block}
use Rattle.std.proofs.Common.{sym, arith}
use Rattle.word.proofs.bits.WordBitXor.bitxor.Goals as goal

pub returns : goal.returns
unfolding val
returns c =
    let g = c.args in
    sym (xor_block 64 g.self.hi g.rhs.hi g.self.lo g.rhs.lo (omega arith) (omega arith))

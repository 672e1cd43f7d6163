-- `not` meets its contract, half by half.
use Rattle.word.proofs.Halves.{complement_halves, pred_sub}
use Rattle.word.specs.Value.{val}
use Rattle.std.proofs.Common.{◌+◌, ◌*◌, ◌^◌, sym, ◌∙◌, arith}
use Rattle.word.proofs.bits.WordNot.not.Goals as goal

pub returns : goal.returns
unfolding val
returns c =
    let w = c.args.self in
    (λ i. pred_sub (2 ^ 64) w.hi i * 2 ^ 64 + pred_sub (2 ^ 64) w.lo i) ∙ complement_halves 64 w.hi w.lo (omega arith) (omega arith)
    ∙ sym (pred_sub (2 ^ 128) (val w))

-- `double_add` meets its contract: each half is doubled, and the low half's top bit goes up. Assumes nothing.
use Rattle.std.proofs.Common.{◌≡◌, ◌+◌, ◌*◌, ◌/◌, ◌%◌, ◌^◌, ◌<◌, mod-lt, arith, pow_pos}
use Rattle.word.specs.Value.{val}
use Rattle.word.proofs.Halves.{cut-mod}
use Rattle.word.proofs.Quotients.{double}
use Rattle.word.proofs.quotient.double_add.Goals as goal

pub overflow_add-result-2 : goal.overflow_add-result-2
overflow_add-result-2 c =
    let w = c.args.w in
    rw (double 63 w.hi (w.lo / 2 ^ 63) (omega arith)) (record { fits = mod-lt (2 * w.hi + w.lo / 2 ^ 63) (pow_pos 64) })

pub returns : goal.returns
unfolding val
returns c =
    let w = c.args.w in
    let l = w.lo % 2 ^ 63 * 2 + c.args.bit in
    let b : l < 2 ^ 64 = omega arith in
    let s : 2 * val w + c.args.bit ≡ (2 * w.hi + w.lo / 2 ^ 63) * 2 ^ 64 + l = omega arith in
    rw (s, cut-mod 64 (2 * w.hi + w.lo / 2 ^ 63) l b, ← double 63 w.hi (w.lo / 2 ^ 63) (omega arith))

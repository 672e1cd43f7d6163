-- `Range::sign_extended` meets its contract: the mask of one bit less, and its complement.
use Rattle.range.proofs.Types.{mask_signed, mask_complement}
use Rattle.range.specs.Interval.{sign_extended}
use borrow.Author.Tests.{lt-ltb, le-ltb}
use native.Mathlib.Omega.{arith}
use Prim.Native.Nat.{◌-◌, ◌<◌}
use Rattle.range.proofs.Range.sign_extended.Goals as goal
use Rattle.range.proofs.Range.sign_extended.Goals.{then-width-eq0-via-then-width-eq0, then-width-eq0-via-else-width-eq0+then-width-ge128}

pub returns-then-width-eq0 : goal.returns-then-width-eq0
unfolding sign_extended
returns-then-width-eq0 c = let n = c.args.width in
    elim c.then-width-eq0.branch [
      | then-width-eq0-via-then-width-eq0 w ↦ rw w.if-width-eq0.true
      | then-width-eq0-via-else-width-eq0+then-width-ge128 w ↦ rw (lt-ltb 0 n (omega arith), le-ltb n 128 w.if-width-ge128.true)
    ]

pub returns : goal.returns
unfolding sign_extended
returns c = let n = c.args.width in
    let h : n < 128 = c.if-width-ge128.false in
    let l : n - 1 < 128 = omega arith in
    rw (lt-ltb 0 n (omega arith), lt-ltb n 128 h, c.not.ensures, c.as_signed-max.ensures, mask_signed (n - 1) l c.mask.ensures, mask_complement (n - 1))

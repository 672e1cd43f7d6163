-- `Word::wrapping_mul` meets its contract: what the code leaves out is a multiple of 2 ^ 128. Assumes nothing.
use Rattle.std.proofs.Common.{sym, rules}
use native.Mathlib.Nat.{add-mod-mod}
use Rattle.word.specs.Value.{val}
use Rattle.word.proofs.Products.{low_product}
use Rattle.word.proofs.Word.wrapping_mul.Goals as goal

pub returns : goal.returns
unfolding val
returns c =
    let a = c.args.self in
    let b = c.args.rhs in
    let p = c.product_of_halves-low in
    let x = c.product_of_halves-left in
    let y = c.product_of_halves-right in
    rw (add-mod-mod)
    (sym (low_product 64 a.hi a.lo b.hi b.lo p.result.hi p.result.lo x.result.hi x.result.lo y.result.hi y.result.lo
    (search rules) p.ensures x.ensures y.ensures))

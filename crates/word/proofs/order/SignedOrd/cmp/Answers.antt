-- `cmp` meets its contract: the high halves decide, as signed numbers, then the low ones.
use Rattle.std.proofs.Common.{rules, ◌≡◌}
use Rattle.word.proofs.Compared.{cmp_signed}
use Rattle.word.proofs.SignedHalves.{Held}
use Rattle.word.proofs.order.SignedOrd.cmp.Goals as goal

pub returns : goal.returns
returns c =
    let a = c.args.self.now in
    let b = c.args.rhs.now in
    let f : Held a = record { half = search rules; low = search rules } in
    let g : Held b = record { half = search rules; low = search rules } in
    let high : c.halves-2.result.0 ≡ b.hi = search rules in
    let low : c.halves-2.result.1 ≡ b.lo = search rules in
    rw (← cmp_signed a b f g, c.cmp.ensures, c.halves.ensures.0, high, c.halves.ensures.1, low)

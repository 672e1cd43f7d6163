-- `eq` meets its contract: an integer has one high and one low half.
use Rattle.std.proofs.Common.{rules}
use Rattle.word.proofs.Compared.{eq_signed}
use Rattle.word.proofs.SignedHalves.{Held}
use Rattle.word.proofs.order.SignedPartialEq.eq.Goals as goal

pub returns : goal.returns
returns c =
    let a = c.args.self.now in
    let b = c.args.other.now in
    let f : Held a = record { half = search rules; low = search rules } in
    let g : Held b = record { half = search rules; low = search rules } in
    rw (← eq_signed a b f g, c.eq.ensures, c.halves.ensures.0, c.halves-2.ensures.0, c.halves.ensures.1, c.halves-2.ensures.1)

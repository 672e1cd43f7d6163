-- `Word::checked_rem` meets its contract: the remainder is that of `divide`. Assumes nothing.
use Rattle.std.proofs.Common.{ltb, ap, rules}
use Rattle.word.specs.Value.{val}
use Rattle.word.specs.Division.{divided}
use Rattle.word.proofs.Quotients.{part_given}
use Rattle.word.proofs.Word.checked_rem.Goals as goal

pub returns : goal.returns
unfolding divided
returns c =
    let g = c.args in
    part_given (λ v. v.remainder) (λ x w q. ap val (search rules)) (ltb 0 (val g.rhs)) (divided (val g.self) (val g.rhs)) c.divide.result c.map.result c.divide.ensures c.map.ensures.cases

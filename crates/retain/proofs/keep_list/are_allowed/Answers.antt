-- `keep_list::are_allowed` meets its contract: `all` tests the numbers below the keep list's length.
use Rattle.std.proofs.Common.{length, refl, ◌∙◌, arith, rules, tests}
use Rattle.std.proofs.lemmas.Iterator.{YieldsList-from_range}
use Rattle.std.proofs.lemmas.Iterator.Search.{all_from_yields_List}
use Rattle.graph.proofs.Tests.{passes}
use Rattle.retain.specs.Retain.{is_allowed}
use Rattle.retain.proofs.keep_list.are_allowed.Goals as goal

pub returns : goal.returns
returns c =
    let a = c.args in
    let n = length a.keep.now in
    all_from_yields_List (is_allowed a.g.now a.keep.now) _ _ _ c.all.ensures.ran (YieldsList-from_range 0 n n refl (omega arith)) (λ x b q k. search (rules, tests))
    ∙ passes (is_allowed a.g.now a.keep.now) n

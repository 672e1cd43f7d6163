-- `well_formed::are_nodes` meets its contract: `all` tests the numbers below the count.
use Rattle.std.proofs.Common.{refl, ◌∙◌, arith, rules, tests}
use Rattle.std.proofs.lemmas.Iterator.{YieldsList-from_range}
use Rattle.std.proofs.lemmas.Iterator.Search.{all_from_yields_List}
use Rattle.graph.specs.WellFormed.{is_node}
use Rattle.graph.proofs.Tests.{passes}
use Rattle.graph.proofs.well_formed.are_nodes.Goals as goal

pub returns : goal.returns
returns c =
    let a = c.args in
    all_from_yields_List (is_node a.g.now a.nodes) _ _ _ c.all.ensures.ran (YieldsList-from_range 0 a.nodes a.nodes refl (omega arith)) (λ x b q k. search (rules, tests))
    ∙ passes (is_node a.g.now a.nodes) a.nodes

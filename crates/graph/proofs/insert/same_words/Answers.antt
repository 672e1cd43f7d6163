-- `insert::same_words` meets its contract: `all` compares the key's words.
use Rattle.std.proofs.Common.{refl, ◌∙◌, ◌+◌, rules, tests}
use lib.Dec.{eqb}
use lib.ListN.{get_or}
use Rattle.std.proofs.lemmas.Iterator.{YieldsList-from_range}
use Rattle.std.proofs.lemmas.Iterator.Search.{all_from_yields_List}
use Rattle.graph.specs.Layout.{KEY}
use Rattle.graph.proofs.Search.{same_is}
use Rattle.graph.proofs.insert.same_words.Goals as goal

pub returns : goal.returns
returns c =
    let a = c.args in
    all_from_yields_List (λ k. eqb (get_or a.g.now (a.at + k) 0) (get_or a.words.now k 0)) _ _ _ c.all.ensures.ran (YieldsList-from_range 0 KEY KEY refl refl) (λ x b q k. search (rules, tests))
    ∙ same_is a.g.now a.words.now a.at KEY (search rules)

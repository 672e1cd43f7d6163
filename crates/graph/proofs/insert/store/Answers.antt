use Rattle.std.proofs.Common.{◌≡◌, ◌∙◌, ap, List, ℕ, ◌+◌, arith, rules, set}
use lib.ListN.{get_or, length}
use Rattle.std.proofs.lemmas.List.Edits.{paste_more}
use Rattle.graph.specs.Layout.{WORDS}
use Rattle.graph.proofs.insert.store.Goals as goal

pub loop-k-preserved : goal.loop-k-preserved
loop-k-preserved c =
    let a = c.args in
    let l = c.loop-k in
    let n : length a.words.now ≡ WORDS = search rules in
    ap (λ (x : List ℕ). set x (a.at + l.k) (get_or a.words.now l.k 0)) l.invariant
    ∙ paste_more a.g.now a.at a.words.now l.k 0 (omega arith) (omega arith)

use mathlib.Core.Path.{sym, ◌∙◌}
use Prim.Native.Nat.{◌≤◌}
use lib.Dec.{lit<}
use lib.ListN.{length}
use borrow.Author.Rules.{rules}
use Rattle.graph.specs.Layout.{KEY, X, node_start}
use Rattle.graph.specs.Insert.{same_key}
use Rattle.graph.proofs.Interned.{word_differs}
use Rattle.graph.proofs.Search.{lowest_on}
use Rattle.graph.proofs.insert.find.Goals as goal

pub loop-node-preserved-then-g-at : goal.loop-node-preserved-then-g-at
loop-node-preserved-then-g-at c =
    let a = c.args in
    let l = c.loop-node in
    let k : KEY ≤ length a.words.now = search rules in (
      l.invariant.0,
      l.invariant.1,
      l.invariant.2
          ∙ lowest_on (same_key a.g.now a.words.now) l.node c.min-end.result (search rules)
          (word_differs a.g.now (node_start l.node) KEY a.words.now k X (lit< tt) (rw c.start_of-at.ensures at c.if-g-at.true))
          ∙ sym c.pass_over-node-then-g-at.ensures.1,
    )

use mathlib.Core.Path.{◌∙◌}
use Prim.Native.Nat.{◌<◌}
use native.Mathlib.Omega.{arith}
use Rattle.graph.specs.Layout.{count_of}
use Rattle.graph.proofs.Grown.{graph_facts}
use Rattle.retain.proofs.Operands.{first_below, second_below, keep_list_facts}
use Rattle.retain.proofs.Moving.{moving_next, moving_ends}
use Rattle.retain.proofs.retain.Goals as goal

pub loop-node-preserved : goal.loop-node-preserved
loop-node-preserved c =
    let a = c.args in
    let l = c.loop-node in
    let f = graph_facts a.g.now c.requires.0 in
    let k = keep_list_facts a.g.now a.keep.now a.mapping.now c.requires.1 in
    let more : l.node < count_of a.g.now = omega arith in
    moving_next a.g.now a.keep.now l.g l.mapping l.next l.node l.invariant more f.count (first_below f l.node more)
    (second_below f l.node more) _ _ _ c.place-next.ensures.1 c.place-next.ensures.2 c.place-next.ensures.0

pub returns : goal.returns
returns c =
    let a = c.args in
    let l = c.loop-node in
    let e = moving_ends a.g.now a.keep.now l.g l.mapping l.next l.node l.invariant (omega arith) in
    (e.0, c.clear_to.ensures ∙ e.1, e.2)

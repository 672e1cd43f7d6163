use mathlib.Core.Path.{◌≡◌, sym, ap, ◌∙◌}
use Prim.Native.Nat.{ℕ, suc, ◌+◌, ◌-◌}
use native.Mathlib.Omega.{arith}
use Rattle.bitfield.specs.Bitfield.{bit_at}
use Rattle.bitfield.specs.Turns.{turned_by}
use Rattle.bitfield.proofs.Laws.{bit-reached, turned_more, turned_none}
use Rattle.bitfield.proofs.bits.bit.Goals as goal
use Rattle.bitfield.proofs.bits.bit.Goals.{in-From, in-Flipped}

pub returns-in-Here : goal.returns-in-Here
returns-in-Here c =
    let l = c.loop in
    let e : c.args.left - l.counter ≡ suc (c.args.left - (l.counter + 1)) = omega arith in
    c.turned_by.ensures ∙ ap (turned_by l.turns) (bit-reached c.args.g.now _ _ l.node.0 l.place _ e c.in-Here.ensures) ∙ sym l.invariant

pub loop-preserved : goal.loop-preserved
loop-preserved c =
    let l = c.loop in
    let e : c.args.left - l.counter ≡ suc (c.args.left - (l.counter + 1)) = omega arith in
    elim c.match-bit_step.branch [
      | in-From w ↦
          rw (w.node-is, w.place-is, w.turns-is)
          (l.invariant ∙ ap (turned_by l.turns) (sym (bit-reached c.args.g.now _ _ l.node.0 l.place _ e w.in-From.ensures)))
      | in-Flipped w ↦
          rw (w.node-is, w.place-is, w.turns-is)
          (l.invariant
          ∙ ap (turned_by l.turns) (sym (bit-reached c.args.g.now _ _ l.node.0 l.place _ e w.in-Flipped.ensures))
          ∙ turned_more l.turns w.once_more-turns.result _ w.once_more-turns.ensures)
    ]

pub returns : goal.returns
unfolding bit_at
returns c =
    let l = c.loop in
    let z : c.args.left - l.counter ≡ 0 = omega (arith, c.loop-test.false) in
    turned_none l.turns ∙ sym (l.invariant ∙ ap (λ (k : ℕ). turned_by l.turns (bit_at c.args.g.now k l.node.0 l.place)) z)

use mathlib.Core.Path.{◌≡◌, sym, ap, ◌∙◌}
use Rattle.std.specs.Prelude.{Some}
use Prim.Native.Nat.{suc, ◌+◌, ◌-◌}
use native.Mathlib.Numerals.{unary_clauses}
use native.Mathlib.Omega.{arith}
use lib.Bits.{bit_or}
use Rattle.word.specs.Value.{val}
use Rattle.fold.specs.Shape.{id_of}
use Rattle.bitfield.specs.declared.Bit as declared
use Rattle.bitfield.specs.Bitfield.{one_bit_of}
use Rattle.bitfield.proofs.Laws.{field_known, field_own}
use Rattle.bitfield.proofs.fields.all_bits.Goals as goal
use Rattle.bitfield.proofs.fields.all_bits.Goals.{in-Known, in-Source+else-not-is_own}

pub loop-index-init : goal.loop-index-init
unfolding val
loop-index-init c = simp unary_clauses

pub loop-index-preserved : goal.loop-index-preserved
loop-index-preserved c =
    let a = c.args in
    let l = c.loop-index in
    let e : a.concat.width - l.index ≡ suc (a.concat.width - (l.index + 1)) = omega arith in
    elim c.match-branch-2.branch [
      | in-Known w ↦
          rw (w.base-is, w.keep-is, w.literal-is)
          (l.invariant
          ∙ field_known a.g.now a.concat.high.0 a.concat.low.0 a.concat.low_width l.index (id_of l.base) (val l.keep) (val l.literal) _ _ e _ _
          (sym c.in_ok-value.ensures ∙ ap (λ (b : declared.Bit). Some (one_bit_of b)) w.in-Known.is)
          w.with_known-literal.ensures)
      | in-Source+else-not-is_own w ↦
          rw (w.base-is, w.keep-is, w.literal-is)
          (l.invariant
          ∙ field_own a.g.now a.concat.high.0 a.concat.low.0 a.concat.low_width l.index (id_of l.base) (val l.keep) (val l.literal) _ _ e _ _ _
          (sym c.in_ok-value.ensures ∙ ap (λ (b : declared.Bit). Some (one_bit_of b)) w.in-Source.is)
          (sym w.is_own.ensures ∙ w.if-not-is_own.false)
          (w.bitor-keep.ensures ∙ ap (bit_or (val l.keep)) w.power.ensures))
    ]

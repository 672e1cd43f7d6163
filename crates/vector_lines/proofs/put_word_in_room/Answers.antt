-- `vector_lines::put_word_in_room` meets its contract: the digits of the low half stand behind those of the high one. Assumes nothing.
use Rattle.std.proofs.Common.{◌^◌, ◌<◌, arith, rules, refl, sym, ap, ◌∙◌}
use Rattle.word.specs.Value.{val}
use Rattle.text.proofs.Placing.{placed-behind}
use Rattle.text.specs.Text.{placed}
use Rattle.vector_lines.specs.Text.{hex_digits}
use Rattle.vector_lines.proofs.Spelling.{halves_written, length-hex_digits}
use Rattle.vector_lines.proofs.put_word_in_room.Goals as goal

pub returns : goal.returns
unfolding val
returns c =
    let w = c.args.w in
    let low : w.lo < 2 ^ 64 = search rules in
    let middle = c.put_half-middle.ensures in
    record {
      value = omega arith;
      out_after = placed-behind c.args.out.now (hex_digits 16 w.hi) (hex_digits 16 w.lo) _ _ _ _
          (middle.value ∙ sym (length-hex_digits 16 w.hi)) refl middle.out_after c.put_half.ensures.out_after
          ∙ ap (placed c.args.out.now) (sym (halves_written 16 16 w.hi w.lo low));
    }

-- `vector_lines::put_word_line` meets its contract: the line end stands behind the digits. Assumes nothing.
use Rattle.std.proofs.Common.{[], ◌∷◌, refl, sym, ◌∙◌}
use Rattle.word.specs.Value.{val}
use Rattle.text.proofs.Placing.{placed-behind}
use Rattle.vector_lines.specs.Text.{hex_digits}
use Rattle.vector_lines.proofs.Spelling.{length-hex_digits}
use Rattle.vector_lines.proofs.put_word_line.Goals as goal

pub returns-clause-out_after : goal.returns-clause-out_after
returns-clause-out_after c =
    let word = c.put_word_in_room-end.ensures in
    placed-behind c.args.out.now (hex_digits 32 (val c.args.w)) (10 ∷ []) _ _ _ _
    (word.value ∙ sym (length-hex_digits 32 (val c.args.w))) refl word.out_after c.put_text_in_room.ensures.out_after

-- `vector_lines::put_half` meets its contract: `io::hex` leaves the 16 digits in the array. Assumes nothing.
use mathlib.Core.Path.{◌≡◌, ◌∙◌}
use borrow.Author.Rules.{rules}
use Rattle.vector_lines.specs.Text.{hex_digits}
use Rattle.vector_lines.proofs.Spelling.{half_written}
use Rattle.vector_lines.proofs.put_half.Goals as goal

pub returns-clause-out_after : goal.returns-clause-out_after
returns-clause-out_after c =
    let t : c.hex.new.out ≡ hex_digits 16 c.args.half =
    half_written c.hex.new.out c.hex.result c.args.half (search rules) c.hex.ensures.in_bounds.0
    c.hex.ensures.len.0 c.hex.ensures.digits in
    c.put_text_in_room.ensures.out_after ∙ rw t

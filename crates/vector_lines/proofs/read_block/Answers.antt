-- `vector_lines::read_block` meets its contract: what one read gives comes behind what was given before.
use Rattle.std.proofs.Common.{◌≡◌, ◌-◌, arith, length, take, drop, ◌∙◌, subst, length-take-le, length-drop}
use Rattle.std.proofs.KnownBytes.{Consumes-trans}
use Rattle.std.specs.Io.KnownBytes.{Consumes}
use borrow.Rule.Slice.PartMut.{same_len_mid}
use Rattle.vector_lines.proofs.Replaying.{front}
use Rattle.vector_lines.proofs.read_block.Goals as goal

pub loop-at-preserved : goal.loop-at-preserved
loop-at-preserved g c =
    let l = c.loop-at in
    let room = length l.block - l.at in
    let given = front l.at room c.in-Ok.got l.block c.read.new.buf l.invariant.0 c.in-Ok.ensures.bound.0 in
    let part : length (take room (drop l.at l.block)) ≡ room = length-take-le room (drop l.at l.block) (omega (arith, length-drop l.at l.block)) in
    let whole = same_len_mid l.at room l.block c.read.new.buf c.read.auto.buf in (
      omega (arith, whole, part, c.read.auto.buf, c.in-Ok.ensures.bound.0),
      whole ∙ l.invariant.1,
      subst (Consumes _ _) given (Consumes-trans _ _ _ _ _ l.invariant.2 c.in-Ok.ensures.bytes.0),
    )

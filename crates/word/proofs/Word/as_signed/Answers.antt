-- `Word::as_signed` meets its contract.
use Rattle.word.proofs.SignedHalves.{int_signed}
use mir.ValLaws.{of_z-to_z}
use Rattle.std.proofs.Common.{refl, ap, ◌∙◌, w64, Fits, to_z, of_z, rules}
use Rattle.word.proofs.Word.as_signed.Goals as goal

pub returns : goal.returns
returns c = let w = c.args.self in
    let f : Fits w64 w.hi = search rules in
    int_signed _ w (search rules) (search rules) (ap (λ h. to_z w64 (of_z w64 h)) c.cast_signed.ensures ∙ ap (to_z w64) (of_z-to_z w64 w.hi f)) refl

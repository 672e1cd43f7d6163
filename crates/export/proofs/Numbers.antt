-- Marks and matches as one number, by their parts and by what they stand for.
use Rattle.std.specs.Prelude.{◌≡◌, Bool, Result, Ok, Err, refl}
use Rattle.word.specs.Option.{from_bool}
use Rattle.answer.specs.declared.Refusal.{Refusal}
use Rattle.native.specs.Call.{numbered}
use Rattle.guard.specs.Guard.{match_of}
use Rattle.mark.specs.declared.MarkId.{MarkId}
use Rattle.mark.specs.Mark.{marking_of, mark_number}
use Rattle.export.specs.Reading.{match_number}

pub number_mark : (r : Result MarkId Refusal) → numbered (λ k. k.0) r ≡ mark_number (marking_of r)
number_mark (Ok k) = refl
number_mark (Err r) = refl

pub number_match : (r : Result Bool Refusal) → numbered from_bool r ≡ match_number (match_of r)
number_match (Ok b) = refl
number_match (Err r) = refl

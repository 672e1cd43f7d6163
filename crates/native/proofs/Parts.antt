-- What an answer stands for, by its parts.
use Rattle.std.specs.Prelude.{◌≡◌, Option, Some, None, Result, Ok, Err, refl, is_err}
use Rattle.word.specs.declared.Word.{Word}
use Rattle.word.specs.Value.{number_of}
use Rattle.answer.specs.declared.Refusal.{Refusal}
use Rattle.evaluate.specs.Answer as value
use Rattle.guard.specs.declared.Guard.{Guard}
use Rattle.guard.specs.Guard.{guard_of}
use Rattle.native.specs.declared.Answer.{Answer}
use Rattle.native.specs.declared.Answer.TheVariants as answer
use Rattle.native.specs.Call.{answer_of, is_refused}
use Rattle.native.specs.Guard as reading

pub value_answered : (o : Option Word) → value.outcome_of (Ok o) ≡ value.answered (number_of o)
value_answered None = refl
value_answered (Some w) = refl

pub guard_answered : (o : Option Guard) → reading.reading_of (Ok o) ≡ reading.answered (guard_of o)
guard_answered None = refl
guard_answered (Some q) = refl

pub refused_is : (r : Result Answer Refusal) → is_refused (answer_of r) ≡ is_err r
refused_is (Ok (answer.Id i)) = refl
refused_is (Ok answer.None) = refl
refused_is (Ok answer.Done) = refl
refused_is (Err r) = refl

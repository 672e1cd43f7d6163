-- An answer as one number, by its parts and by what it stands for.
use Rattle.std.specs.Prelude.{ℕ, ◌≡◌, Result, Ok, Err, refl}
use Rattle.answer.specs.declared.Refusal.{Refusal}
use Rattle.native.specs.declared.Answer.{Answer}
use Rattle.native.specs.declared.Answer.TheVariants as answer
use Rattle.native.specs.Call.{answer_of, answer_number, answer_as, numbered}
use Rattle.native.specs.Retain.{outcome_of, outcome_number}

pub number_answer : (r : Result Answer Refusal) → numbered answer_as r ≡ answer_number (answer_of r)
number_answer (Ok (answer.Id i)) = refl
number_answer (Ok answer.None) = refl
number_answer (Ok answer.Done) = refl
number_answer (Err r) = refl

pub number_kept : (r : Result ℕ Refusal) → numbered (λ n. n) r ≡ outcome_number (outcome_of r)
number_kept (Ok n) = refl
number_kept (Err r) = refl

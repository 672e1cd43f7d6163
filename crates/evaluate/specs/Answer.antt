-- The evaluators as calls: question 2 first, then a value or None.
use Rattle.std.specs.Prelude.{cond, ℕ, leb}
use Rattle.std.specs.Prelude.{Option, None, Some}
use Rattle.word.specs.Value.{val}
use Rattle.answer.specs.declared.Refusal.{Refusal}
use Rattle.answer.specs.declared.Refusal.TheVariants as refusal
use Rattle.range.specs.declared.ScalarType.{ScalarType}
use Rattle.evaluate.specs.declared.Unary.{Unary}
use Rattle.evaluate.specs.declared.Binary.{Binary}
use Rattle.std.specs.Prelude.{Result, Ok, Err}
use Rattle.word.specs.declared.Word.{Word}
use Rattle.evaluate.specs.Evaluate.{unary_value, binary_value}
use Rattle.evaluate.specs.Operator.{WIDEST, unary_width, type_width}

-- a pattern, None, or a refusal
pub data Outcome : Type 0 where
  value : ℕ → Outcome
  nothing : Outcome
  refused : Refusal → Outcome

-- what an evaluator's answer stands for
abbrev pub outcome_of : Result (Option Word) Refusal → Outcome
outcome_of (Ok (Some w)) = value (val w)
outcome_of (Ok None) = nothing
outcome_of (Err r) = refused r

-- an optional value as an outcome
abbrev pub answered : Option ℕ → Outcome
answered None = nothing
answered (Some n) = value n

-- question 2: is the width at most the widest?
abbrev pub asked : ℕ → Outcome → Outcome
asked w o = cond (leb w WIDEST) o (refused refusal.Width)

-- the call evaluate_unary: question 2, then the operator's answer
unfoldable pub evaluate_unary : Unary → ℕ → Outcome
evaluate_unary o v = asked (unary_width o) (answered (unary_value o v))

-- the call evaluate_binary: question 2, then the operator's answer
unfoldable pub evaluate_binary : Binary → ScalarType → ℕ → ℕ → Outcome
evaluate_binary o t a b = asked (type_width t) (answered (binary_value o t a b))

-- The exported calls: every answer is a number.
use Rattle.std.specs.Prelude.{List, ℕ, ◌+◌, ◌^◌}
use Rattle.native.specs.Call.{answer_number, Called}

-- a number, and the words after the call
pub record Exported : Type 0 where
  pub number : ℕ
  pub words : List ℕ

-- a number with the words after the call
abbrev pub exported : ℕ → List ℕ → Exported
exported n g = record { number = n; words = g }

-- a request's answer as a number, with the words after it
abbrev pub numbered : Called → Exported
numbered c = exported (answer_number c.answer) c.words

-- the answer where a slice lent for words has another length than these: no refusal's number, no id
abbrev pub WRONG_LENGTH : ℕ
WRONG_LENGTH = 2 ^ 63 + 1

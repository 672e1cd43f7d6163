-- The exported calls on a graph with its marks: every answer is a number.
use Rattle.std.specs.Prelude.{List, ◌≡◌, ℕ}
use Rattle.native.specs.Call.{answer_number}
use Rattle.native.specs.Retain.{outcome_number}
use Rattle.mark.specs.Mark.{mark_number, Marking, Returning, Retaining}

-- a number and the marks' region are those of a call of mark
abbrev pub MarkedAs : ℕ → List ℕ → Marking → Type 0
MarkedAs n m c = (n ≡ mark_number c.answer) × (m ≡ c.marks)

-- a number and both regions are those of a return
abbrev pub ReturnedAs : ℕ → List ℕ → List ℕ → Returning → Type 0
ReturnedAs n g m c = (n ≡ answer_number c.answer) × (g ≡ c.words) × (m ≡ c.marks)

-- a number, both regions and a mapping are those of a call of retain
abbrev pub KeptAs : ℕ → List ℕ → List ℕ → List ℕ → Retaining → Type 0
KeptAs n g m mapping c = (n ≡ outcome_number c.retention.outcome) × (g ≡ c.retention.words) × (m ≡ c.marks) × (mapping ≡ c.retention.mapping)

-- The numbers of the refusals, and what they say.
use Rattle.std.specs.Prelude.{List, ℕ, codes}
use Rattle.answer.specs.declared.Refusal.{Refusal}
use Rattle.answer.specs.declared.Refusal.TheVariants as refusal

-- the number of the question that each refusal answers no to
abbrev pub refusal_number : Refusal → ℕ
refusal_number refusal.Graph = 1
refusal_number refusal.Width = 2
refusal_number refusal.Id = 3
refusal_number refusal.Typing = 4
refusal_number refusal.Value = 5
refusal_number refusal.Keep = 6
refusal_number refusal.Room = 7
refusal_number refusal.Units = 8
refusal_number refusal.Marks = 9
refusal_number refusal.Mark = 10
refusal_number refusal.Guards = 11

-- what each refusal says to a reader
abbrev pub refusal_text : Refusal → List ℕ
refusal_text refusal.Graph = codes "the region is no graph"
refusal_text refusal.Width = codes "a width is above 128"
refusal_text refusal.Id = codes "an id is not below the number of nodes"
refusal_text refusal.Typing = codes "the operator and the types do not fit"
refusal_text refusal.Value = codes "a Bool constant is not 0 or 1, or a range is empty or outside its type"
refusal_text refusal.Keep = codes "the list does not fit the nodes, or an operand of a kept node is dropped"
refusal_text refusal.Room = codes "there is no room for another node: a graph holds 512"
refusal_text refusal.Units = codes "the call needs more than 1,024 steps"
refusal_text refusal.Marks = codes "sixteen marks stand already"
refusal_text refusal.Mark = codes "the mark does not stand"
refusal_text refusal.Guards = codes "the list has more than 32 guards, or not one answer, 0 or 1, for each"

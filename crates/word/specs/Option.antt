-- Answers that may be none, and truth values as numbers.
use Rattle.std.specs.Prelude.{ℕ, Bool, true, false}
use Rattle.std.specs.Prelude.{Option, None, Some}

-- an answer if a test holds, else none
abbrev pub provided : {A : Type 0} → Bool → Option A → Option A
provided true o = o
provided false o = None

-- a value if a test holds, else none
abbrev pub only : {A : Type 0} → Bool → A → Option A
only t a = provided t (Some a)

-- a function of an answer that is there
abbrev pub mapped : {A B : Type 0} → (A → B) → Option A → Option B
mapped f None = None
mapped f (Some a) = Some (f a)

-- what follows from an answer that is there, or else
abbrev pub given : {A B : Type 0} → Option A → (A → B) → B → B
given None f b = b
given (Some a) f b = f a

-- what follows from two answers that are there
abbrev pub both_given : {A B C : Type 0} → Option A → Option B → (A → B → Option C) → Option C
both_given None b f = None
both_given (Some a) None f = None
both_given (Some a) (Some b) f = f a b

-- the first answer, or else the second
abbrev pub or_else : {A : Type 0} → Option A → Option A → Option A
or_else None o = o
or_else (Some a) o = Some a

-- an answer, or 0
abbrev pub or_zero : Option ℕ → ℕ
or_zero None = 0
or_zero (Some n) = n

-- is there an answer?
abbrev pub is_some : {A : Type 0} → Option A → Bool
is_some None = false
is_some (Some a) = true

-- 1 for true and 0 for false
abbrev pub from_bool : Bool → ℕ
from_bool true = 1
from_bool false = 0

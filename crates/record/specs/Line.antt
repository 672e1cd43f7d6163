-- The lines of the program, each ended by a newline.
use Rattle.std.specs.Prelude.{◌≡◌, ◌≤◌, List, [], ◌∷◌, ◌++◌, ℕ, length}
use Rattle.text.specs.Text.{placed, decimal}
use Rattle.answer.specs.Refusal.{refusal_number}
use Rattle.native.specs.Call as calls
use Rattle.native.specs.Call.{Response}
use Rattle.native.specs.Retain as retaining
use Rattle.native.specs.Retain.{Outcome}

-- a newline
abbrev pub NEWLINE : List ℕ
NEWLINE = 10 ∷ []

-- `id `
abbrev pub ID : List ℕ
ID = 105 ∷ 100 ∷ 32 ∷ []

-- `none`
abbrev pub NONE : List ℕ
NONE = 110 ∷ 111 ∷ 110 ∷ 101 ∷ 10 ∷ []

-- `done`
abbrev pub DONE : List ℕ
DONE = 100 ∷ 111 ∷ 110 ∷ 101 ∷ 10 ∷ []

-- `kept `
abbrev pub KEPT : List ℕ
KEPT = 107 ∷ 101 ∷ 112 ∷ 116 ∷ 32 ∷ []

-- `refused `
abbrev pub REFUSED : List ℕ
REFUSED = 114 ∷ 101 ∷ 102 ∷ 117 ∷ 115 ∷ 101 ∷ 100 ∷ 32 ∷ []

-- `nodes `
abbrev pub NODES : List ℕ
NODES = 110 ∷ 111 ∷ 100 ∷ 101 ∷ 115 ∷ 32 ∷ []

-- `bad record`
abbrev pub BAD : List ℕ
BAD = 98 ∷ 97 ∷ 100 ∷ 32 ∷ 114 ∷ 101 ∷ 99 ∷ 111 ∷ 114 ∷ 100 ∷ 10 ∷ []

-- a word, a number and a newline
unfoldable pub numbered : List ℕ → ℕ → List ℕ
numbered word n = (word ++ decimal n) ++ NEWLINE

-- the line of a request's answer
abbrev pub answer_line : Response → List ℕ
answer_line (calls.id n) = numbered ID n
answer_line calls.nothing = NONE
answer_line calls.done = DONE
answer_line (calls.refused r) = numbered REFUSED (refusal_number r)

-- the line of a retain's outcome: the nodes left, or a refusal
abbrev pub retain_line : Outcome → List ℕ
retain_line (retaining.kept n) = numbered KEPT n
retain_line (retaining.refused r) = numbered REFUSED (refusal_number r)

-- the last line: the number of nodes
abbrev pub nodes_line : ℕ → List ℕ
nodes_line n = numbered NODES n

-- room for any line: a word of at most 11 bytes, a number of 64 bits and a newline
abbrev pub LINE : ℕ
LINE = 32

-- a text of n bytes stands at the start of a slice that has room for it
pub record Puts (text before after : List ℕ) (n : ℕ) : Type 0 where
  pub len : n ≡ length text
  pub slice : after ≡ placed before text
  pub fits : length text ≤ length before

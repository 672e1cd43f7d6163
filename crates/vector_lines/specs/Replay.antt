-- What a replay reads, and what it writes for it. A line's answer is what a call of a function leaves at the start of a slice.
use Rattle.std.specs.Prelude.{◌≡◌, ℕ, ◌<◌, ◌⊎◌, leb, List, [], ◌∷◌, ◌++◌, Option, None, Some, length, take}
use Rattle.std.specs.Borrow.{Bor, MutBor}
use Rattle.std.specs.Fn.{Mut, Called}
use Rattle.std.specs.Io.KnownBytes.{Appends, Consumes, IsAtEnd}
use Rattle.std.specs.List.{concat}
use Rattle.word.specs.Option.{only}

-- the answer in a slice: as many bytes of it as the number says, and none without a number, or where the slice has not so many
abbrev pub answer_in : Option ℕ → List ℕ → Option (List ℕ)
answer_in None out = None
answer_in (Some end) out = only (leb end (length out)) (take end out)

module _ {F : Type 0} (g : Mut F (Bor (List ℕ) × (MutBor (List ℕ) × Unit {0})) (Option ℕ × (MutBor (List ℕ) × Unit {0}))) where
  -- a call of f at a line may leave that answer, or none, and the function as f'
  pub record Answers (f : F) (line : List ℕ) (answer : Option (List ℕ)) (f' : F) : Type 0 where
    pub shown : Bor (List ℕ)
    pub lent : MutBor (List ℕ)
    pub left : MutBor (List ℕ)
    pub end : Option ℕ
    pub shows : shown.now ≡ line
    pub called : Called g f (shown, (lent, tt)) (end, (left, tt)) f'
    pub leaves : answer_in end left.now ≡ answer

  -- calls from f on, one for each line in their order, may leave that text, answer behind answer, and the function as `last`; a line has `size` bytes
  abbrev pub AnswersAll : ℕ → F → List (List ℕ) → List ℕ → F → Type 0
  AnswersAll size f [] text last = (text ≡ []) × (last ≡ f)
  AnswersAll size f (line ∷ lines) text last =
      (answer rest : List ℕ) × (next : F) × (length line ≡ size) × Answers f line (Some answer) next × AnswersAll size next lines rest last × (text ≡ answer ++ rest)

  -- the bytes are lines, one behind the other, and the text is their answers
  pub record ReplaysAll (size : ℕ) (f : F) (bytes text : List ℕ) (last : F) : Type 0 where
    pub lines : List (List ℕ)
    pub parts : bytes ≡ concat lines
    pub answers : AnswersAll size f lines text last

  -- the same of the bytes before some rest, which is less than a line
  pub record ReplaysWhole (size : ℕ) (f : F) (bytes text : List ℕ) (last : F) : Type 0 where
    pub front : List ℕ
    pub rest : List ℕ
    pub parts : bytes ≡ front ++ rest
    pub replays : ReplaysAll size f front text last
    pub less : length rest < size

  -- the same of the bytes before some rest, which begins with a line that has no answer
  pub record ReplaysSome (size : ℕ) (f : F) (bytes text : List ℕ) : Type 0 where
    pub front : List ℕ
    pub rest : List ℕ
    pub last : F
    pub end : F
    pub parts : bytes ≡ front ++ rest
    pub replays : ReplaysAll size f front text last
    pub none : Answers last (take size rest) None end

  -- what a reader gave was replayed so, all that it had or up to a line that has no answer, and the text is what a writer got
  pub record Replays (size : ℕ) (f : F) (unread left held grown : Option (List ℕ)) : Type 0 where
    pub bytes : List ℕ
    pub text : List ℕ
    pub read : Consumes unread left bytes
    pub written : Appends held grown text
    pub stops : (((last : F) × ReplaysWhole size f bytes text last) × IsAtEnd left) ⊎ ReplaysSome size f bytes text

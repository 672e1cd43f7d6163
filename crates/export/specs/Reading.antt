-- The exported calls that read: what they find goes into a lent slice, and the answer is 1.
use Rattle.std.specs.Prelude.{cond, List, [], ◌∷◌, ℕ, ◌-◌, ◌/◌, ◌%◌, ◌^◌, eqb, leb, length, take, drop}
use Rattle.std.specs.Prelude.{Option, None}
use Rattle.word.specs.Option.{mapped, from_bool, given}
use Rattle.evaluate.specs.Answer as evaluate
use Rattle.evaluate.specs.Answer.{evaluate_unary, evaluate_binary}
use Rattle.evaluate.specs.Operator.{WIDEST, binary_code}
use Rattle.answer.specs.declared.Refusal.TheVariants as no
use Rattle.graph.specs.Layout.{WORDS, node_start}
use Rattle.graph.specs.WellFormed.{is_graph}
use Rattle.guard.specs.Guard as guard
use Rattle.guard.specs.Guard.{Guard, Match, matches_call}
use Rattle.native.specs.Call.{answer_number, refused_as, question3}
use Rattle.native.specs.Call as native
use Rattle.native.specs.Guard as reading
use Rattle.native.specs.Guard.{Reading, guard_in_graph}
use Rattle.request.specs.Codes.{type_by_code, unary_by_code, binary_by_code, truth_by_number}
use Rattle.export.specs.Export.{Exported, exported, WRONG_LENGTH}

-- words go into a slice of that length
abbrev pub put : ℕ → List ℕ → List ℕ → Exported
put n words out = cond (eqb (length out) n) (exported 1 words) (exported WRONG_LENGTH out)

-- ---- values

-- a value goes into a slice of two words, low half first
abbrev pub written : evaluate.Outcome → List ℕ → Exported
written (evaluate.value v) out = put 2 (v % 2 ^ 64 ∷ v / 2 ^ 64 ∷ []) out
written evaluate.nothing out = exported (answer_number native.nothing) out
written (evaluate.refused r) out = exported (refused_as r) out

-- evaluate_unary, by code and parameter: question 2, then what the code names
unfoldable pub unary_evaluated : ℕ → ℕ → ℕ → evaluate.Outcome
unary_evaluated o p v = cond (leb p WIDEST) (given (unary_by_code o p) (λ u. evaluate_unary u v) (evaluate.refused no.Typing)) (evaluate.refused no.Width)

-- evaluate_binary, by code, type and width: question 2, then what the codes name
unfoldable pub binary_evaluated : ℕ → ℕ → ℕ → ℕ → ℕ → evaluate.Outcome
binary_evaluated o code width a b =
    cond (leb width WIDEST)
    (given (type_by_code code width) (λ t. given (binary_by_code o) (λ u. evaluate_binary u t a b) (evaluate.refused no.Typing)) (evaluate.refused no.Typing))
    (evaluate.refused no.Width)

-- mask: the largest number of that many bits, after question 2
unfoldable pub masked : ℕ → evaluate.Outcome
masked w = cond (leb w WIDEST) (evaluate.value (2 ^ w - 1)) (evaluate.refused no.Width)

-- ---- nodes

-- the words of node n
abbrev pub words_at : List ℕ → ℕ → List ℕ
words_at g n = take WORDS (drop (node_start n) g)

-- the words of a node go into a slice of as many, after question 3
unfoldable pub node_in_graph : List ℕ → ℕ → List ℕ → Exported
node_in_graph g n out = question3 g n (put WORDS (words_at g n) out) (exported (refused_as no.Id) out)

-- question 1 first
unfoldable pub node_call : List ℕ → ℕ → List ℕ → Exported
node_call g n out = cond (is_graph g) (node_in_graph g n out) (exported (refused_as no.Graph) out)

-- ---- guards

-- a guard as words: operator, left, right, expected, host64
abbrev pub guard_words : Guard → List ℕ
guard_words q = binary_code q.op ∷ q.left ∷ q.right ∷ from_bool q.expected ∷ from_bool q.host64 ∷ []

-- a guard goes into a slice of five words
abbrev pub guard_written : Reading → List ℕ → Exported
guard_written (reading.guard q) out = put 5 (guard_words q) out
guard_written reading.nothing out = exported (answer_number native.nothing) out
guard_written (reading.refused r) out = exported (refused_as r) out

-- guard on a graph: question 3, then what the expected answer's number names, question 4 and the work
unfoldable pub guard_by_number : List ℕ → ℕ → ℕ → Reading
guard_by_number g n e = question3 g n (given (truth_by_number e) (guard_in_graph g n) (reading.refused no.Typing)) (reading.refused no.Id)

-- guard: question 1 first
unfoldable pub guard_numbered : List ℕ → ℕ → ℕ → Reading
guard_numbered g n e = cond (is_graph g) (guard_by_number g n e) (reading.refused no.Graph)

-- whether values match, as a number
abbrev pub match_number : Match → ℕ
match_number (guard.is b) = from_bool b
match_number (guard.refused r) = refused_as r

-- a guard by its numbers, for values alone: its ids are not looked at. None where a number names nothing
abbrev pub values_guard : ℕ → ℕ → ℕ → Option Guard
values_guard o e h =
    given (binary_by_code o)
    (λ op. given (truth_by_number e) (λ x. mapped (λ y. record { op = op; left = 0; right = 0; expected = x; host64 = y }) (truth_by_number h)) None) None

-- matches, its operator by code
unfoldable pub matches_by_code : ℕ → ℕ → ℕ → ℕ → ℕ → ℕ
matches_by_code o e h a b = given (values_guard o e h) (λ q. match_number (matches_call q a b)) (refused_as no.Typing)

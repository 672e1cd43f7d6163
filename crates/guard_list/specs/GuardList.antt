-- A list of guards: what may be asked, the single guards that it is, and the call.
use Rattle.std.specs.Prelude.{Bool, cond, ◌&&◌, List, [], ◌∷◌, ℕ, eqb, leb, length}
use Rattle.std.specs.List.{list_all}
use Rattle.std.specs.Prelude.{Result, Ok, Err}
use Rattle.answer.specs.declared.Refusal.{Refusal}
use Rattle.answer.specs.declared.Refusal.TheVariants as no
use Rattle.graph.specs.WellFormed.{is_graph}
use Rattle.request.specs.Request.{Request, guard}
use Rattle.native.specs.Call.{Response, done, refused, Called, called, question, is_refused}
use Rattle.native.specs.Perform.{finished, request_in_graph}

-- the most guards of a list
abbrev pub MOST : ℕ
MOST = 32

-- is each answer 0 or 1?
abbrev pub are_answers : List ℕ → Bool
are_answers es = list_all (λ e. leb e 1) es

-- at most 32 conditions, and one answer, 0 or 1, for each
unfoldable pub is_guard_list : List ℕ → List ℕ → Bool
is_guard_list cs es = leb (length cs) MOST && (eqb (length es) (length cs) && are_answers es)

-- the single guards: each condition with its answer
abbrev pub guards_of : List ℕ → List ℕ → List Request
guards_of [] es = []
guards_of (c ∷ cs) [] = []
guards_of (c ∷ cs) (e ∷ es) = guard c (eqb e 1) ∷ guards_of cs es

-- requests one after the other, each on the graph that the one before left; the first refusal ends it
abbrev pub in_turn : List ℕ → List Request → Called
in_turn g [] = called done g
in_turn g (q ∷ qs) = cond (is_refused (request_in_graph g q).answer) (request_in_graph g q) (in_turn (request_in_graph g q).words qs)

-- a list of guards on a graph: all of them, or, after a refusal, the region as it was
unfoldable pub guards_in_graph : List ℕ → List ℕ → List ℕ → Called
guards_in_graph g cs es = question g (is_guard_list cs es) no.Guards (finished g (in_turn g (guards_of cs es)))

-- a list of guards: question 1 first
unfoldable pub guards_call : List ℕ → List ℕ → List ℕ → Called
guards_call g cs es = question g (is_graph g) no.Graph (guards_in_graph g cs es)

-- ---- a step that is done or refused

-- what its answer stands for
abbrev pub done_of : Result (Unit {0}) Refusal → Response
done_of (Ok u) = done
done_of (Err r) = refused r

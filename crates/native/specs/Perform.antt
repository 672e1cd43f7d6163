-- What a request comes to: its questions in their order, the work, and what a refusal leaves.
use Rattle.std.specs.Prelude.{cond, List, ℕ}
use Rattle.evaluate.specs.Operator.{WIDEST}
use Rattle.answer.specs.declared.Refusal.{Refusal}
use Rattle.answer.specs.declared.Refusal.TheVariants as no
use Rattle.graph.specs.Clear.{cleared}
use Rattle.graph.specs.Insert as graph
use Rattle.graph.specs.Insert.{Reply, Made}
use Rattle.graph.specs.Layout.{count_of}
use Rattle.graph.specs.WellFormed.{is_graph}
use Rattle.build.specs.Build as build
use Rattle.build.specs.Build.{Out, out}
use Rattle.assume.specs.Refine as refine
use Rattle.assume.specs.Refine.{Outcome}
use Rattle.assume.specs.Assume.{assumed_guard}
use Rattle.request.specs.Request.{Request, all_up_to, all_below, widths, ids, typed, declarable, constant, input, effect, unary, binary, slice, concat, unsigned_range, guard, unnamed}
use Rattle.native.specs.Call.{Response, id, nothing, done, refused, Called, called, refusal, question, is_refused}

-- ---- the work

-- the units of a call
abbrev pub UNITS : ℕ
UNITS = 1024

-- a builder's answer to a caller, who says what no room is
abbrev pub settled : Refusal → Reply → Response
settled full (graph.id n) = id n
settled full graph.nothing = nothing
settled full graph.room = refused full
settled full graph.units = refused no.Units

-- what a leaf's insertion comes to
abbrev pub leaf_out : Refusal → Made → Called
leaf_out full m = called (settled full m.answer) m.words

-- what a builder comes to
abbrev pub builder_out : Refusal → Out → Called
builder_out full (out a u h) = called (settled full a) h

-- what a guard comes to
abbrev pub guard_out : Refusal → List ℕ → Outcome → List ℕ → Called
guard_out full g refine.unchanged h = called done h
guard_out full g refine.narrowed h = called done h
guard_out full g refine.full h = refusal g full

-- the work on a request whose questions are answered yes
unfoldable pub worked : Refusal → List ℕ → Request → Called
worked full g (constant t v) = leaf_out full (graph.constant g t v)
worked full g (input i t r) = leaf_out full (graph.input g i t r)
worked full g (effect i t) = leaf_out full (graph.effect g i t)
worked full g (unary t o v) = builder_out full (build.build (build.unary t o v) UNITS g)
worked full g (binary t o l r) = builder_out full (build.build (build.binary t o l r) UNITS g)
worked full g (slice v o w) = builder_out full (build.build (build.slice v o w) UNITS g)
worked full g (concat h l v w) = builder_out full (build.build (build.concat h l v w) UNITS g)
worked full g (unsigned_range v low high) = builder_out full (build.unsigned_range v low high UNITS g)
worked full g (guard n e) = guard_out full g (assumed_guard g n e).outcome (assumed_guard g n e).words
worked full g (unnamed ws is) = refusal g no.Typing

-- what a call leaves: after a refusal the region that it was handed
abbrev pub finished : List ℕ → Called → Called
finished g c = called c.answer (cond (is_refused c.answer) g c.words)

-- ---- the call

-- questions 2 to 5, then what c comes to
abbrev pub asked : List ℕ → Request → Called → Called
asked g q c =
    question g (all_up_to WIDEST (widths q)) no.Width
    (question g (all_below (count_of g) (ids q)) no.Id
    (question g (typed g q) no.Typing
    (question g (declarable q) no.Value c)))

-- a request on a graph: questions 2 to 5, then the work; `full` is the answer without room for a node
unfoldable pub performed : Refusal → List ℕ → Request → Called
performed full g q = asked g q (finished g (worked full g q))

-- a request on a graph
unfoldable pub request_in_graph : List ℕ → Request → Called
request_in_graph g q = performed no.Room g q

-- a request: question 1 first
unfoldable pub request_call : List ℕ → Request → Called
request_call g q = question g (is_graph g) no.Graph (request_in_graph g q)

-- ---- taking back what a refused call added

-- what an answer leaves of the words h: after a refusal those of the first n nodes
abbrev pub left : ℕ → Response → List ℕ → List ℕ
left n a h = cond (is_refused a) (cleared n h) h

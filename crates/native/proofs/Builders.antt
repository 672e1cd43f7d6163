-- What a request leaves: a refusal puts back every word, and each answer is the request's. Assumes nothing.
use mathlib.Core.Path.{◌≡◌, refl, sym, ap, ◌∙◌}
use mathlib.Core.Bool.{Bool, true, false, cond, false≢true}
use mathlib.Core.List.{List}
use Prim.Native.Nat.{ℕ}
use native.Mathlib.Omega.{arith}
use native.Mathlib.Nat.{le_refl}
use Rattle.answer.specs.declared.Refusal.{Refusal}
use Rattle.graph.specs.Layout.{count_of}
use Rattle.graph.specs.Insert.{Made}
use Rattle.graph.specs.Insert as graph
use Rattle.graph.specs.WellFormed.{is_graph}
use Rattle.graph.specs.Clear.{cleared}
use Rattle.graph.proofs.Grown.{Graph, graph_facts}
use Rattle.graph.proofs.Kept.{Kept, inserted_kept}
use Rattle.graph.proofs.Wiping.{cleared_one}
use Rattle.assume.specs.Refine as refine
use Rattle.assume.specs.Refine.{Outcome}
use Rattle.assume.specs.Assume.{assumed_guard}
use Rattle.build.specs.Build as build
use Rattle.build.specs.Build.{Out, out}
use Rattle.build.proofs.Laws.{region}
use Rattle.build.proofs.Kept.{build_kept, range_kept}
use Rattle.native.specs.Call.{Response, Called, called, is_refused}
use Rattle.request.specs.Request.{Request, constant, input, effect, unary, binary, slice, concat, unsigned_range, guard, unnamed}
use Rattle.native.specs.Perform.{UNITS, settled, builder_out, guard_out, worked, finished, left}

-- ---- taking back

-- the words of a graph's nodes stand in it
kept_self : (g : List ℕ) → is_graph g ≡ true → Kept (count_of g) g g
kept_self g e = record { size = (graph_facts g e).length; more = le_refl (count_of g); same = λ i p q. refl }

-- a graph with nothing but more nodes, taken back, is the graph
cleared_same : (g h : List ℕ) → is_graph g ≡ true → Kept (count_of g) g h → cleared (count_of g) h ≡ g
cleared_same g h e s =
    sym (cleared_one (count_of g) h g (omega (arith, f.count, s.size)) (record {
      size = f.length ∙ sym s.size;
      count = refl;
      kept = λ i p q. sym (s.same i p q);
      empty = f.rest;
    }))
  where
    f : Graph g
    f = graph_facts g e

-- what taking back gives after the work: the graph, if the answer is a refusal
abbrev Back : List ℕ → Called → Type 0
Back g c = is_refused c.answer ≡ true → cleared (count_of g) c.words ≡ g

leaf_back : (full : Refusal) (g : List ℕ) (m : Made) → is_graph g ≡ true → Kept (count_of g) g m.words → Back g (called (settled full m.answer) m.words)
leaf_back full g m e k r = cleared_same g m.words e k

builder_back : (full : Refusal) (g : List ℕ) (o : Out) → is_graph g ≡ true → Kept (count_of g) g (region o) → Back g (builder_out full o)
builder_back full g (out a u h) e k r = cleared_same g h e k

built_back : (full : Refusal) (g : List ℕ) (c : build.Call) → is_graph g ≡ true → Back g (builder_out full (build.build c UNITS g))
built_back full g c e = builder_back full g (build.build c UNITS g) e (build_kept (count_of g) g c UNITS g (kept_self g e))

-- a guard without room has put its words back itself
guard_back : (full : Refusal) (g : List ℕ) (o : Outcome) (h : List ℕ) → is_graph g ≡ true → Back g (guard_out full g o h)
guard_back full g refine.unchanged h e r = absurd (false≢true r)
guard_back full g refine.narrowed h e r = absurd (false≢true r)
guard_back full g refine.full h e r = cleared_same g g e (kept_self g e)

worked_back : (full : Refusal) (g : List ℕ) (q : Request) → is_graph g ≡ true → Back g (worked full g q)
unfolding worked graph.constant graph.input graph.effect
worked_back full g (constant t v) e = leaf_back full g (graph.constant g t v) e (inserted_kept (count_of g) g g t _ _ (kept_self g e))
worked_back full g (input i t r) e = leaf_back full g (graph.input g i t r) e (inserted_kept (count_of g) g g t _ _ (kept_self g e))
worked_back full g (effect i t) e = leaf_back full g (graph.effect g i t) e (inserted_kept (count_of g) g g t _ _ (kept_self g e))
worked_back full g (unary t o v) e = built_back full g (build.unary t o v) e
worked_back full g (binary t o l r) e = built_back full g (build.binary t o l r) e
worked_back full g (slice v o w) e = built_back full g (build.slice v o w) e
worked_back full g (concat h l v w) e = built_back full g (build.concat h l v w) e
worked_back full g (unsigned_range v low high) e = builder_back full g (build.unsigned_range v low high UNITS g) e (range_kept (count_of g) g v low high UNITS g (kept_self g e))
worked_back full g (guard n b) e = guard_back full g (assumed_guard g n b).outcome (assumed_guard g n b).words e
worked_back full g (unnamed ws is) e = λ r. cleared_same g g e (kept_self g e)

-- the work's answer to a caller, with the region that it leaves
pub taken_finished : (full : Refusal) (g h k : List ℕ) (q : Request) (r : Response) → is_graph g ≡ true → called r h ≡ worked full g q
    → k ≡ left (count_of g) r h → called r k ≡ finished g (worked full g q)
taken_finished full g h k q r e w l = ap (called r) (l ∙ by (is_refused r) refl) ∙ ap (finished g) w
  where
    by : (t : Bool) → is_refused r ≡ t → cond t (cleared (count_of g) h) h ≡ cond t g h
    by true p = rw (← w) at (worked_back full g q e) p
    by false p = refl

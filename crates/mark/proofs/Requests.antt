-- Every request keeps the keys of the nodes that were there: on each graph, whatever it answers. Assumes nothing.
use mathlib.Core.Path.{◌≡◌, refl}
use mathlib.Core.Bool.{Bool, true, false, cond}
use mathlib.Core.List.{List}
use Prim.Native.Nat.{ℕ}
use native.Mathlib.Nat.{le_refl}
use Rattle.answer.specs.declared.Refusal.{Refusal}
use Rattle.answer.specs.declared.Refusal.TheVariants as no
use Rattle.graph.specs.Layout.{count_of}
use Rattle.graph.specs.Insert as graph
use Rattle.graph.specs.WellFormed.{is_graph}
use Rattle.graph.proofs.Grown.{Graph, graph_facts}
use Rattle.graph.proofs.Kept.{Kept}
use Rattle.graph.proofs.Restored.{same_self, inserted_same}
use Rattle.graph.specs.Alias.{Same}
use Rattle.graph.proofs.Earlier.{kept_keys}
use Rattle.assume.specs.Refine as refine
use Rattle.assume.specs.Refine.{Outcome}
use Rattle.assume.specs.Assume.{assumed_guard}
use Rattle.assume.proofs.Same.{assumed_same}
use Rattle.build.specs.Build as build
use Rattle.build.specs.Build.{Out, out}
use Rattle.build.proofs.Laws.{region}
use Rattle.build.proofs.Kept.{build_kept, range_kept}
use Rattle.evaluate.specs.Operator.{WIDEST}
use Rattle.request.specs.Request.{Request, all_up_to, all_below, widths, ids, typed, declarable, constant, input, effect, unary, binary, slice, concat, unsigned_range, guard, unnamed}
use Rattle.native.specs.Call.{Called, is_refused}
use Rattle.native.specs.Perform.{UNITS, builder_out, guard_out, worked, finished, performed, request_in_graph, request_call}

-- what holds of both answers to a test
either_way : {A : Type 0} (P : A → Type 0) (t : Bool) {a b : A} → P a → P b → P (cond t a b)
either_way P true p q = p
either_way P false p q = q

module _ (g : List ℕ) (f : Graph g) where
  -- a call leaves the keys of the graph's nodes
  abbrev Leaves : Called → Type 0
  Leaves c = Same (count_of g) g c.words

  kept_self : Kept (count_of g) g g
  kept_self = record { size = f.length; more = le_refl (count_of g); same = λ i p q. refl }

  out_leaves : (full : Refusal) (o : Out) → Kept (count_of g) g (region o) → Leaves (builder_out full o)
  out_leaves full (out a u h) k = kept_keys k

  built : (full : Refusal) (c : build.Call) → Leaves (builder_out full (build.build c UNITS g))
  built full c = out_leaves full (build.build c UNITS g) (build_kept (count_of g) g c UNITS g kept_self)

  guard_leaves : (full : Refusal) (o : Outcome) (h : List ℕ) → Same (count_of g) g h → Leaves (guard_out full g o h)
  guard_leaves full refine.unchanged h s = s
  guard_leaves full refine.narrowed h s = s
  guard_leaves full refine.full h s = same_self g f

  worked_leaves : (full : Refusal) (q : Request) → Leaves (worked full g q)
  unfolding worked graph.constant graph.input graph.effect
  worked_leaves full (constant t v) = inserted_same (count_of g) g g t _ _ (same_self g f)
  worked_leaves full (input i t r) = inserted_same (count_of g) g g t _ _ (same_self g f)
  worked_leaves full (effect i t) = inserted_same (count_of g) g g t _ _ (same_self g f)
  worked_leaves full (unary t o v) = built full (build.unary t o v)
  worked_leaves full (binary t o l r) = built full (build.binary t o l r)
  worked_leaves full (slice v o w) = built full (build.slice v o w)
  worked_leaves full (concat h l v w) = built full (build.concat h l v w)
  worked_leaves full (unsigned_range v low high) =
      out_leaves full (build.unsigned_range v low high UNITS g) (range_kept (count_of g) g v low high UNITS g kept_self)
  worked_leaves full (guard n e) =
      guard_leaves full (assumed_guard g n e).outcome (assumed_guard g n e).words (assumed_same (same_self g f) n e)
  worked_leaves full (unnamed ws is) = same_self g f

  finished_leaves : (c : Called) → Leaves c → Leaves (finished g c)
  finished_leaves c l = either_way (Same (count_of g) g) (is_refused c.answer) (same_self g f) l

  performed_leaves : (full : Refusal) (q : Request) → Leaves (performed full g q)
  unfolding performed
  performed_leaves full q =
      either_way Leaves (all_up_to WIDEST (widths q))
      (either_way Leaves (all_below (count_of g) (ids q))
      (either_way Leaves (typed g q)
      (either_way Leaves (declarable q) (finished_leaves (worked full g q) (worked_leaves full q)) (same_self g f))
      (same_self g f))
      (same_self g f))
      (same_self g f)

pub request_same : (g : List ℕ) (q : Request) → is_graph g ≡ true → Same (count_of g) g (request_call g q).words
unfolding request_call request_in_graph
request_same g q e =
    let f = graph_facts g e in
    either_way (λ (c : Called). Same (count_of g) g c.words) (is_graph g) (performed_leaves g f no.Room q) (same_self g f)

-- A list of guards keeps the keys of the nodes that were there. Assumes nothing.
use mathlib.Core.Path.{◌≡◌}
use mathlib.Core.Bool.{Bool, true, false, cond}
use mathlib.Core.List.{List, [], ◌∷◌}
use Prim.Native.Nat.{ℕ}
use lib.Dec.{eqb}
use Rattle.graph.specs.Layout.{count_of}
use Rattle.graph.specs.WellFormed.{is_graph}
use Rattle.graph.specs.Alias.{Same}
use Rattle.graph.proofs.Grown.{graph_facts}
use Rattle.graph.proofs.Restored.{same_self}
use Rattle.request.specs.Request.{guard}
use Rattle.native.specs.Call.{Called, is_refused}
use Rattle.native.specs.Perform.{finished, request_in_graph}
use Rattle.native.proofs.Guards.{guard_same}
use Rattle.guard_list.specs.GuardList.{guards_of, in_turn, is_guard_list, guards_in_graph, guards_call}

module _ {k : ℕ} {g : List ℕ} where
  -- whichever answer a question has
  either : (t : Bool) (c d : Called) → Same k g c.words → Same k g d.words → Same k g (cond t c d).words
  either true c d p q = p
  either false c d p q = q

  turns_same : (cs es h : List ℕ) → Same k g h → Same k g (in_turn h (guards_of cs es)).words
  turns_same [] es h s = s
  turns_same (c ∷ cs) [] h s = s
  turns_same (c ∷ cs) (e ∷ es) h s =
      let r = guard_same s c (eqb e 1) in
      either (is_refused (request_in_graph h (guard c (eqb e 1))).answer) _ _ r (turns_same cs es (request_in_graph h (guard c (eqb e 1))).words r)

pub guards_same : (g cs es : List ℕ) → is_graph g ≡ true → Same (count_of g) g (guards_call g cs es).words
unfolding guards_call guards_in_graph
guards_same g cs es e =
    either (is_graph g) _ _ (either (is_guard_list cs es) _ _ (last (in_turn g (guards_of cs es)) (turns_same cs es g s)) s) s
  where
    s : Same (count_of g) g g
    s = same_self g (graph_facts g e)

    last : (c : Called) → Same (count_of g) g c.words → Same (count_of g) g (finished g c).words
    last c p = by (is_refused c.answer)
      where
        by : (t : Bool) → Same (count_of g) g (cond t g c.words)
        by true = s
        by false = p

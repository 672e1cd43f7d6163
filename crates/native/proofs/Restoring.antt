-- A refused guard, or list of guards, hands back every word, the aliases set so far too. Assumes nothing.
use mathlib.Core.Path.{◌≡◌, sym, ap, ◌∙◌, subst}
use mathlib.Core.Bool.{true}
use mathlib.Core.List.{List}
use Prim.Native.Nat.{ℕ, ◌≤◌}
use lib.ListN.{length}
use Rattle.graph.specs.Layout.{count_of}
use Rattle.graph.specs.Alias.{saved, restored, Same}
use Rattle.graph.specs.WellFormed.{is_graph}
use Rattle.graph.proofs.Grown.{graph_facts}
use Rattle.graph.proofs.Restored.{same_self, restored-graph}
use Rattle.assume.specs.Limits.{Pair}
use Rattle.assume.specs.Refine.{Outcome, Assumed, assumed}
use Rattle.assume.specs.Assume.{refined_both}
use Rattle.assume.proofs.Same.{both_same}

-- both operands refined leave the keys
pub refined_same : (g h : List ℕ) (a b : ℕ) (p : Pair) (o : Outcome) → is_graph g ≡ true → assumed o h ≡ refined_both g a b p → Same (count_of g) g h
refined_same g h a b p o q work =
    subst (Same (count_of g) g) (sym (ap (λ (x : Assumed). x.words) work)) (both_same (same_self g (graph_facts g q)) a b p)

-- what is restored by what was saved before, where the keys stayed
pub taken_back : (g s t h k : List ℕ) (nodes : ℕ) → is_graph g ≡ true → count_of g ≤ length s → nodes ≡ count_of g → t ≡ saved g s
    → Same (count_of g) g h → k ≡ restored nodes t h → k ≡ g
taken_back g s t h k nodes q room count save same back = back ∙ (λ i. restored (count i) (save i) h) ∙ restored-graph g h s q room same

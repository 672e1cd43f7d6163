-- An alias set to a node above, of one type and value and with a range inside, keeps the invariant. Assumes nothing.
use mathlib.Core.Path.{◌≡◌, sym, ap, ◌∙◌, subst}
use mathlib.Core.List.{List}
use mathlib.Core.Logic.{◌⊎◌, inl, inr, ⊎_elim}
use Prim.Native.Nat.{ℕ, ◌-◌, ◌<◌}
use native.Mathlib.Omega.{arith}
use lib.ListN.{get_or}
use Rattle.graph.specs.Layout.{ALIAS, count_of}
use Rattle.graph.specs.Node.{Parts, alias_at}
use Rattle.graph.specs.Alias.{aliased}
use Rattle.graph.proofs.Aliases.{each_other, aliased-count, aliased_word, aliased_same_node, aliased_new, aliased-graph}
use Rattle.graph.proofs.Appended.{words_for}
use Rattle.meaning.proofs.Worlds.{World}
use Rattle.meaning.proofs.Invariant.{Leads, Inv, inv_graph, Extends, old_typed, old_refined, old_ends, old_ranged, leads_ext, Kept}

module _ (ρ : World) {g : List ℕ} (i : Inv ρ g) (n m : ℕ) (up : n < m) (to : Leads ρ g n m) where
  abbrev h : List ℕ
  h = aliased g n m

  same_count : count_of h ≡ count_of g
  same_count = aliased-count (inv_graph i) n m up to.here

  on : Extends g h
  on = record { more = omega (arith, same_count); same = λ k l. aliased_same_node (inv_graph i) n m up to.here k }

  leads : (k : ℕ) → k < count_of g → (alias_at h k ≡ 0) ⊎ Leads ρ h k (alias_at h k - 1)
  leads =
      each_other (λ k. k < count_of g → (alias_at h k ≡ 0) ⊎ Leads ρ h k (alias_at h k - 1)) n
      (λ l.
      let e : m ≡ alias_at h n - 1 = omega (arith, aliased_new (inv_graph i) n m up to.here) in
      inr (subst (Leads ρ h n) e (leads_ext ρ on n m l to)))
      (λ k d l.
      rw (aliased_word (inv_graph i) n m up to.here k ALIAS (omega arith) (λ e q. d e))
      (⊎_elim (λ e. inl e) (λ a. inr (leads_ext ρ on k (alias_at g k - 1) l a)) (i.alias k l)))

  back : (k : ℕ) → k < count_of h → k < count_of g
  back k l = omega (arith, same_count)

  aliased_inv : Inv ρ h
  aliased_inv = record {
    graph = aliased-graph (inv_graph i) n m up to.here;
    exact = λ k l j q.
        aliased_word (inv_graph i) n m up to.here k j (omega arith) (λ e r. omega arith) ∙ i.exact k (back k l) j q
        ∙ ap (λ (p : Parts). get_or (words_for p) j 0) (sym (on.same k (back k l)));
    keys = λ a b l q e. i.keys a b l (back b q) (sym (on.same a (omega (arith, back b q))) ∙ e ∙ on.same b (back b q));
    typed = λ k l. old_typed i on k (back k l);
    refined = λ k l. old_refined i on k (back k l);
    ends = λ k l. old_ends i on k (back k l);
    ranged = λ k l. old_ranged i on k (back k l);
    alias = λ k l. leads k (back k l);
  }

  -- the graph left goes on from the one found, and the invariant holds of it
  pub aliased_kept : Kept ρ g (aliased g n m)
  aliased_kept = record { grows = on; inv = aliased_inv }

-- What a retain keeps and how it renumbers is what the book says: its mapping, whole, on every region, and the values of kept nodes. Assumes nothing.
use mathlib.Core.Path.{◌≡◌, refl, sym, ap, ◌∙◌}
use mathlib.Core.Bool.{Bool, true, false, cond}
use mathlib.Core.List.{List, [], ◌∷◌}
use Prim.Native.Nat.{ℕ, zero, suc, ◌+◌, ◌-◌, ◌^◌, ◌<◌}
use native.Mathlib.Nat.{zero-add, add-zero}
use native.Mathlib.Omega.{arith}
use lib.Dec.{eqb}
use lib.ListN.{length, get_or}
use lib.Seq.{ext_get_or}
use Rattle.graph.specs.Layout.{count_of}
use Rattle.graph.specs.WellFormed.{is_graph}
use Rattle.retain.specs.Retain.{is_kept, is_keep_list, kept_below, new_id, new_ids, retained}
use Rattle.retain.proofs.Operands.{KeepList, keep_list_facts}
use Rattle.retain.proofs.Moving.{ids-length, ids_at}
use Rattle.answer.specs.declared.Refusal.{Refusal}
use Rattle.answer.specs.declared.Refusal.TheVariants as no
use Rattle.native.specs.Retain as retaining
use Rattle.native.specs.Retain.{Retention, retention, retain_in_graph, retain_call}
use Rattle.mark.specs.WellFormed.{is_marked}
use Rattle.mark.specs.Mark as marks
use Rattle.mark.proofs.Facts.{marked_both}
use Rattle.meaning.specs.Book.{keeps, renumbered, renumbering}
use Rattle.meaning.proofs.Worlds.{World, value}
use Rattle.meaning.proofs.Answers.{by_test}
use Rattle.meaning.proofs.Invariant.{Inv}
use Rattle.meaning.proofs.Retain.{retain-value}

-- ---- which ids are kept, and the number of those below one

-- retain keeps what the book keeps
pub kept_same : (keep : List ℕ) (n : ℕ) → is_kept keep n ≡ keeps keep n
kept_same keep n = refl

-- one id more
renumbered_next : (keep : List ℕ) (n : ℕ) → renumbered keep (suc n) ≡ cond (keeps keep n) (suc (renumbered keep n)) (renumbered keep n)
renumbered_next [] n = refl
renumbered_next (k ∷ []) zero = refl
renumbered_next (k ∷ j ∷ ks) zero = refl
renumbered_next (k ∷ ks) (suc n) = by (eqb k 1) (keeps ks n) (renumbered_next ks n)
  where
    by : (s t : Bool) → renumbered ks (suc n) ≡ cond t (suc (renumbered ks n)) (renumbered ks n)
        → cond s (suc (renumbered ks (suc n))) (renumbered ks (suc n))
        ≡ cond t (suc (cond s (suc (renumbered ks n)) (renumbered ks n))) (cond s (suc (renumbered ks n)) (renumbered ks n))
    by true true e = ap suc e
    by true false e = ap suc e
    by false true e = e
    by false false e = e

-- retain counts as the book does
pub below_renumbered : (keep : List ℕ) (n : ℕ) → kept_below keep n ≡ renumbered keep n
below_renumbered [] zero = refl
below_renumbered (k ∷ ks) zero = refl
below_renumbered keep (suc n) = ap (λ (k : ℕ). cond (keeps keep n) (suc k) k) (below_renumbered keep n) ∙ sym (renumbered_next keep n)

-- ---- the mapping

-- it has an element for each of the keep list
renumbering-length : (next : ℕ) (keep : List ℕ) → length (renumbering next keep) ≡ length keep
renumbering-length next [] = refl
renumbering-length next (k ∷ ks) = by (eqb k 1) (renumbering-length (suc next) ks) (renumbering-length next ks)
  where
    by : (t : Bool) → length (renumbering (suc next) ks) ≡ length ks → length (renumbering next ks) ≡ length ks
        → length (cond t (next ∷ renumbering (suc next) ks) ((2 ^ 64 - 1) ∷ renumbering next ks)) ≡ suc (length ks)
    by true p q = ap suc p
    by false p q = ap suc q

-- the element of an id
renumbering_at : (next : ℕ) (keep : List ℕ) (n : ℕ) → n < length keep
    → get_or (renumbering next keep) n 0 ≡ cond (keeps keep n) (next + renumbered keep n) (2 ^ 64 - 1)
renumbering_at next [] n l = absurd (omega arith)
renumbering_at next (k ∷ ks) zero l = by (eqb k 1)
  where
    by : (t : Bool) → get_or (cond t (next ∷ renumbering (suc next) ks) ((2 ^ 64 - 1) ∷ renumbering next ks)) 0 0 ≡ cond t (next + 0) (2 ^ 64 - 1)
    by true = sym (add-zero next)
    by false = refl
renumbering_at next (k ∷ ks) (suc n) l =
    by (eqb k 1) (renumbering_at (suc next) ks n (omega arith)) (renumbering_at next ks n (omega arith))
  where
    more : (r : ℕ) → suc next + r ≡ next + suc r
    more r = omega arith

    by : (t : Bool) → get_or (renumbering (suc next) ks) n 0 ≡ cond (keeps ks n) (suc next + renumbered ks n) (2 ^ 64 - 1)
        → get_or (renumbering next ks) n 0 ≡ cond (keeps ks n) (next + renumbered ks n) (2 ^ 64 - 1)
        → get_or (cond t (next ∷ renumbering (suc next) ks) ((2 ^ 64 - 1) ∷ renumbering next ks)) (suc n) 0
        ≡ cond (keeps ks n) (next + cond t (suc (renumbered ks n)) (renumbered ks n)) (2 ^ 64 - 1)
    by true p q = p ∙ ap (λ (m : ℕ). cond (keeps ks n) m (2 ^ 64 - 1)) (more (renumbered ks n))
    by false p q = q

-- what holds of a retain's work, once question 6 is answered, holds of a retain that isn't refused
of_kept : (P : Retention → Type 0) (g keep mapping : List ℕ) (k : ℕ) → (retain_call g keep mapping).outcome ≡ retaining.kept k
    → (KeepList g keep mapping → P (retention (retaining.kept (kept_below keep (count_of g))) (retained g keep) (new_ids keep (count_of g))))
    → P (retain_call g keep mapping)
unfolding retain_call retain_in_graph
of_kept P g keep mapping k q h =
    by_test (λ r. r.outcome ≡ retaining.kept k → P r) (is_graph g)
    (λ e. by_test (λ r. r.outcome ≡ retaining.kept k → P r) (is_keep_list g keep mapping) (λ c p. h (keep_list_facts g keep mapping c)) (λ c. refused no.Keep g mapping))
    (λ e. refused no.Graph g mapping) q
  where
    refused : (a : Refusal) (g mapping : List ℕ) → retaining.refused a ≡ retaining.kept k → P (retention (retaining.refused a) g mapping)
    refused a g mapping p = let z : ◌≡◌ {A = ℕ} 0 1 = cc in absurd (omega arith)

module _ (keep : List ℕ) where
  -- the new id of a node by the book's numbers
  pub new_id_lem : (n : ℕ) → new_id keep n ≡ cond (keeps keep n) (0 + renumbered keep n) (2 ^ 64 - 1)
  new_id_lem n = ap (λ (m : ℕ). cond (keeps keep n) m (2 ^ 64 - 1)) (below_renumbered keep n ∙ sym (zero-add (renumbered keep n)))

  -- all new ids
  ids-renumbering : new_ids keep (length keep) ≡ renumbering 0 keep
  ids-renumbering =
      ext_get_or 0 (new_ids keep (length keep)) (renumbering 0 keep) (ids-length keep (length keep) ∙ sym (renumbering-length 0 keep))
      (λ n l.
      let h : n < length keep = omega (arith, ids-length keep (length keep)) in
      ids_at keep (length keep) n 0 h ∙ new_id_lem n ∙ sym (renumbering_at 0 keep n h))

  module _ (g mapping : List ℕ) (k : ℕ) (q : (retain_call g keep mapping).outcome ≡ retaining.kept k) where
    -- the whole mapping
    pub renumbers : (retain_call g keep mapping).mapping ≡ renumbering 0 keep
    renumbers = of_kept (λ r. r.mapping ≡ renumbering 0 keep) g keep mapping k q (λ f. ap (new_ids keep) (sym f.keeps) ∙ ids-renumbering)

    -- a kept node means what it meant
    pub kept_value : {ρ : World} → Inv ρ g → (n : ℕ) → n < count_of g → keeps keep n ≡ true
        → value ρ (retain_call g keep mapping).words (renumbered keep n) ≡ value ρ g n
    kept_value {ρ} i n l e =
        of_kept (λ r. value ρ r.words (renumbered keep n) ≡ value ρ g n) g keep mapping k q
        (λ f. ap (value ρ (retained g keep)) (sym (below_renumbered keep n)) ∙ retain-value ρ i f n l (kept_same keep n ∙ e))

-- ---- with marks

-- on a graph with its marks a retain is that of the graph's region alone, but for the marks
pub marked-retain : (g m keep mapping : List ℕ) → is_marked g m ≡ true → (marks.retain_call g m keep mapping).retention ≡ retain_call g keep mapping
unfolding marks.retain_call marks.retain_in_graph retain_call
marked-retain g m keep mapping e = rw (e, (marked_both g m e).0)

-- The bound on the steps is never reached on a graph: each step that narrows gives one more node an alias, so that more steps change nothing. Assumes nothing.
use mathlib.Core.Path.{◌≡◌, refl, sym, ap, ◌∙◌}
use mathlib.Core.Bool.{Bool, true, false, cond}
use mathlib.Core.List.{List}
use Rattle.std.specs.Prelude.{Option, None, Some}
use mathlib.Core.Logic.{⊎_elim}
use Prim.Native.Nat.{ℕ, zero, suc, ◌+◌, ◌-◌, ◌≤◌, ◌<◌}
use native.Mathlib.Omega.{arith}
use borrow.Author.Tests.{eq-eqb, ne_eqb}
use lib.Dec.{eqb}
use Rattle.word.proofs.Integer.{lt-or-ge}
use Rattle.graph.specs.Layout.{ALIAS, LIMIT, count_of}
use Rattle.graph.specs.Node.{alias_at}
use Rattle.graph.specs.Insert.{resolve}
use Rattle.graph.specs.WellFormed.{is_graph}
use Rattle.graph.specs.Alias.{aliased}
use Rattle.graph.proofs.Aliases.{aliased-count, aliased_word, aliased_new}
use Rattle.graph.proofs.Grown.{graph_facts, resolve-within, resolve_end}
use Rattle.graph.proofs.Words.{Words}
use Rattle.assume.specs.Limits.{Limits, limited_to}
use Rattle.assume.specs.Refine.{Next, Outcome, unchanged, narrowed, full, Assumed, refine_step, go_on, refine_up_to, refined}
use Rattle.assume.proofs.Grows.{step_cases, step_grows, step_next}

-- ---- the nodes that have an alias

-- their number among the first m
abbrev aliases : List ℕ → ℕ → ℕ
aliases g zero = 0
aliases g (suc m) = cond (eqb (alias_at g m) 0) (aliases g m) (suc (aliases g m))

module _ (g : List ℕ) (m : ℕ) where
  -- a node without one does not count
  none_more : alias_at g m ≡ 0 → aliases g (suc m) ≡ aliases g m
  none_more e = rw (eq-eqb (alias_at g m) 0 e)

  -- a node with one does
  one_more_lem : (alias_at g m ≡ 0 → ⊥) → aliases g (suc m) ≡ suc (aliases g m)
  one_more_lem d = rw (ne_eqb (alias_at g m) 0 d)

-- there are no more than nodes
aliases_le : (g : List ℕ) (m : ℕ) → aliases g m ≤ m
aliases_le g zero = omega arith
aliases_le g (suc m) = by (eqb (alias_at g m) 0) (aliases_le g m)
  where
    by : (t : Bool) → aliases g m ≤ m → cond t (aliases g m) (suc (aliases g m)) ≤ suc m
    by true l = omega arith
    by false l = omega arith

-- and fewer, where a node has none
aliases_lt : (g : List ℕ) (m n : ℕ) → n < m → alias_at g n ≡ 0 → aliases g m < m
aliases_lt g zero n l e = absurd (omega arith)
aliases_lt g (suc m) n l e =
    ⊎_elim (λ (p : n < m). by (eqb (alias_at g m) 0) (aliases_lt g m n p e))
    (λ (p : m ≤ n).
    let d : m ≡ n = omega arith in
    omega (arith, none_more g m (ap (alias_at g) d ∙ e), aliases_le g m))
    (lt-or-ge n m)
  where
    by : (t : Bool) → aliases g m < m → cond t (aliases g m) (suc (aliases g m)) < suc m
    by true q = omega arith
    by false q = omega arith

-- equal aliases count the same
aliases_same : (g h : List ℕ) (m : ℕ) → ((i : ℕ) → i < m → alias_at h i ≡ alias_at g i) → aliases h m ≡ aliases g m
aliases_same g h zero s = refl
aliases_same g h (suc m) s =
    rw (s m (omega arith), aliases_same g h m (λ i l. s i (omega arith)))

-- nodes that have none may be left out
aliases_past : (g : List ℕ) (m k : ℕ) → ((i : ℕ) → m ≤ i → i < m + k → alias_at g i ≡ 0) → aliases g (m + k) ≡ aliases g m
aliases_past g m zero s = let d : m + 0 ≡ m = omega arith in rw d
aliases_past g m (suc k) s =
    let d : m + suc k ≡ suc (m + k) = omega arith in
    rw d (none_more g (m + k) (s (m + k) (omega arith) (omega arith)) ∙ aliases_past g m k (λ i l q. s i l (omega arith)))

-- one node more has one
aliases_one : (g h : List ℕ) (m n : ℕ) → n < m → alias_at g n ≡ 0 → (alias_at h n ≡ 0 → ⊥)
    → ((i : ℕ) → (i ≡ n → ⊥) → alias_at h i ≡ alias_at g i) → aliases h m ≡ suc (aliases g m)
aliases_one g h zero n l e d s = absurd (omega arith)
aliases_one g h (suc m) n l e d s =
    ⊎_elim
    (λ (p : n < m). rw (s m (λ q. omega arith), aliases_one g h m n p e d s) (each (eqb (alias_at g m) 0)))
    (λ (p : m ≤ n).
    let q : m ≡ n = omega arith in
    one_more_lem h m (λ z. d (ap (alias_at h) (sym q) ∙ z))
    ∙ ap suc (aliases_same g h m (λ i j. s i (λ z. omega arith)) ∙ sym (none_more g m (ap (alias_at g) q ∙ e))))
    (lt-or-ge n m)
  where
    each : (t : Bool) → cond t (suc (aliases g m)) (suc (suc (aliases g m))) ≡ suc (cond t (aliases g m) (suc (aliases g m)))
    each true = refl
    each false = refl

-- in a graph with a node there is always one without
aliases_few : (g : List ℕ) → is_graph g ≡ true → (n : ℕ) → n < count_of g → aliases g (count_of g) < LIMIT
aliases_few g e n here =
    let f = graph_facts g e in
    omega (arith, f.count, aliases_lt g (count_of g) (resolve g n) (resolve-within f n here).1 (resolve_end f n here))

-- ---- each step that narrows

module _ (h : List ℕ) (e : is_graph h ≡ true) (w : Words h) (n : ℕ) (here : n < count_of h) (free : alias_at h n ≡ 0) (l : Limits) where
  -- one node more has an alias
  step_aliases : (refine_step h n l).outcome ≡ narrowed
      → aliases (refine_step h n l).words (count_of (refine_step h n l).words) ≡ suc (aliases h (count_of h))
  step_aliases =
      step_cases h e w n here (λ s. s.outcome ≡ narrowed → aliases s.words (count_of s.words) ≡ suc (aliases h (count_of h)))
      (λ o d q. absurd (d q))
      (λ a k m p up below q.
      let f = graph_facts k p.graph in
      let c : count_of h + (count_of k - count_of h) ≡ count_of k = omega (arith, p.more) in
      rw (aliased-count f n m up below)
      (aliases_one k (aliased k n m) (count_of k) n (omega arith) (p.old n here ∙ free) (λ z. omega (arith, aliased_new f n m up below))
      (λ i d. aliased_word f n m up below i ALIAS (omega arith) (λ z j. d z))
      ∙ ap suc
      (ap (aliases k) (sym c)
      ∙ aliases_past k (count_of h) (count_of k - count_of h) (λ i r t. p.new i r (omega arith)) ∙ aliases_same h k (count_of h) p.old)))
      l

-- ---- enough steps

-- what follows a step depends on how it goes on only where it narrows and a node follows
on_same : (so o : Outcome) (x : Option Next) (h : List ℕ) (f g : List ℕ → ℕ → Limits → Assumed)
    → (o ≡ narrowed → (y : Next) → x ≡ Some y → f h y.node (limited_to y.range) ≡ g h y.node (limited_to y.range))
    → go_on so o x h f ≡ go_on so o x h g
on_same so unchanged x h f g s = refl
on_same so full x h f g s = refl
on_same so narrowed None h f g s = refl
on_same so narrowed (Some y) h f g s = s refl y refl

-- as many steps as nodes may still get an alias, or more, do the same
enough : (i j : ℕ) (so : Outcome) (g : List ℕ) (n : ℕ) (l : Limits) → is_graph g ≡ true → Words g → n < count_of g
    → LIMIT ≤ i + aliases g (count_of g) → LIMIT ≤ j + aliases g (count_of g) → refine_up_to i so g n l ≡ refine_up_to j so g n l
enough zero j so g n l e w here p q = absurd (omega (arith, aliases_few g e n here))
enough (suc i) zero so g n l e w here p q = absurd (omega (arith, aliases_few g e n here))
enough (suc i) (suc j) so g n l e w here p q =
    let f = graph_facts g e in
    let m = resolve g n in
    let at = (resolve-within f n here).1 in
    let free = resolve_end f n here in
    let s = refine_step g m l in
    let k = step_grows g e w m at l free in
    on_same so s.outcome s.next s.words (refine_up_to i narrowed) (refine_up_to j narrowed)
    (λ z y x.
    let a = step_aliases g e w m at free l z in
    enough i j narrowed s.words y.node (limited_to y.range) k.graph k.words (step_next g e w m at l y x) (omega arith) (omega arith))

module _ (g : List ℕ) (e : is_graph g ≡ true) (w : Words g) (n : ℕ) (here : n < count_of g) (so : Outcome) (l : Limits) where
  -- more steps than the bound change nothing
  pub refined_enough : (k : ℕ) → refine_up_to (LIMIT + k) so g n l ≡ refined so g n l
  unfolding refined
  refined_enough k = enough (LIMIT + k) LIMIT so g n l e w here (omega arith) (omega arith)

  -- so that there is no bound
  pub refined_on : refined so g n l
      ≡ go_on so (refine_step g (resolve g n) l).outcome (refine_step g (resolve g n) l).next (refine_step g (resolve g n) l).words (refined narrowed)
  unfolding refined
  refined_on = enough LIMIT (suc LIMIT) so g n l e w here (omega arith) (omega arith)

-- A guard keeps question 1 on every graph whose words are below 2 ^ 64, and every alias that was there. Assumes nothing.
use mathlib.Core.Path.{◌≡◌, refl, sym, ap, ◌∙◌, subst}
use mathlib.Core.Bool.{Bool, true, false, not, cond}
use mathlib.Core.List.{List}
use Rattle.std.specs.Prelude.{Option, None, Some}
use Prim.Native.Nat.{ℕ, min, ◌-◌, ◌^◌, ◌≤◌, ◌<◌}
use native.Mathlib.Nat.{le_refl}
use native.Mathlib.Omega.{arith}
use borrow.Author.Tests.{ltb-true}
use lib.Dec.{ltb, lit<, lit≤}
use lib.Signed.{mag, le_z, ◌≤ℤ◌}
use Rattle.word.specs.Option.{given}
use Rattle.range.specs.Interval.{Interval, same_interval}
use Rattle.range.specs.declared.ScalarType.{ScalarType}
use Rattle.range.specs.declared.ScalarType.TheVariants as ty
use Rattle.range.proofs.Answers.{none-some, some_is}
use Rattle.range.proofs.Order.{orders, extremes, between_small}
use Rattle.range.proofs.Sound.{tests, at_most_lem}
use Rattle.range.proofs.Valid.{Valid, part_valid}
use Rattle.graph.specs.Layout.{ALIAS, LIMIT, count_of}
use Rattle.graph.specs.Node as node
use Rattle.graph.specs.Node.{words_of, type_at, range_at, alias_at}
use Rattle.graph.specs.Insert.{Made, start, same_key, interned, resolve, appended}
use Rattle.graph.specs.WellFormed.{is_graph}
use Rattle.graph.specs.Alias.{aliased}
use Rattle.graph.proofs.Aliases.{aliased-graph, aliased-count, aliased_word}
use Rattle.graph.proofs.Appended.{graph-grown, range_valid}
use Rattle.graph.proofs.Codes.{Stored}
use Rattle.graph.proofs.Grown.{Graph, graph_facts, width_of, resolve-within, resolve_end}
use Rattle.graph.proofs.Interned.{lowest-some, inserted-found, inserted_new}
use Rattle.graph.proofs.Nodes.{length-words, appended_made, appended_full, appended-count, appended_new, appended_other}
use Rattle.graph.proofs.Words.{Words, appended-words, aliased-words, node-words, ends_of}
use Rattle.fold.specs.Shape.{same_type}
use Rattle.assume.specs.Limits.{Limits, or_end, meet, narrows}
use Rattle.assume.specs.Refine.{Next, Outcome, unchanged, narrowed, full, Step, step, base_of, alias_to, narrow, refine_step}
use Rattle.assume.specs.Assume.{assumed_guard}
use Rattle.assume.proofs.Below.{base_below, guard_below}
use Rattle.assume.proofs.Same.{assumed_keeps}

-- ---- the range that a node is narrowed to

-- the part of a range between limits lies in it
pub met_inside : (a : Interval) (l : Limits) → (a.low ≤ℤ (meet a l).low) × ((meet a l).high ≤ℤ a.high)
unfolding meet
met_inside a l = ((extremes a.low (or_end l.lower a.low)).2, (extremes a.high (or_end l.upper a.high)).0)

-- where there is something to narrow, something is left
pub narrows_full : (t : ScalarType) (old met : Interval) → narrows t old met ≡ true → met.low ≤ℤ met.high
unfolding narrows
narrows_full t old met e =
    at_most_lem met.low met.high
    (tests (le_z met.low met.high) (not (same_type t ty.Bool)) (tests (not (same_interval met old)) _ e).1).0

-- ---- outcomes

-- no room is not a narrowing
full_narrowed : full ≡ narrowed → ⊥
full_narrowed q = let z : ◌≡◌ {A = ℕ} 0 1 = cc in omega arith

-- nor is no change
unchanged-narrowed : unchanged ≡ narrowed → ⊥
unchanged-narrowed q = let z : ◌≡◌ {A = ℕ} 0 1 = cc in omega arith

-- ---- one step

-- what storing a node leaves: a graph with the aliases that were there and no other
pub record Added (h k : List ℕ) : Type 0 where
  pub graph : is_graph k ≡ true
  pub words : Words k
  pub more : count_of h ≤ count_of k
  pub old : (i : ℕ) → i < count_of h → alias_at k i ≡ alias_at h i
  pub new : (i : ℕ) → count_of h ≤ i → i < count_of k → alias_at k i ≡ 0

-- the words of a Refine of node n
abbrev refine_words : List ℕ → ℕ → Interval → List ℕ
refine_words h n a = words_of (type_at h n) (Some a) (node.refine n)

module _ (h : List ℕ) (e : is_graph h ≡ true) (w : Words h) (n : ℕ) (here : n < count_of h) where
  -- what question 1 says
  f : Graph h
  f = graph_facts h e

  -- nothing is stored
  same_added : Added h h
  same_added = record { graph = e; words = w; more = le_refl (count_of h); old = λ i l. refl; new = λ i l q. absurd (omega arith) }

  -- a range that the node may be narrowed to
  record Met (a : Interval) : Type 0 where
    valid : Valid (type_at h n) a
    low : mag a.low < 2 ^ 127
    high : mag a.high < 2 ^ 127

  -- the part of its range between limits is one
  meets : (old : Interval) (l : Limits) → range_at h n ≡ Some old → narrows (type_at h n) old (meet old l) ≡ true → Met (meet old l)
  meets old l q t =
      let full = narrows_full (type_at h n) old (meet old l) t in
      let i = met_inside old l in
      let d = ends_of h w n old q in
      record {
        valid = part_valid (type_at h n) old (meet old l) (range_valid f n here old q) i.0 full i.1;
        low = between_small (2 ^ 127) old.low old.high (meet old l).low i.0 (omega orders) d.0 d.1;
        high = between_small (2 ^ 127) old.low old.high (meet old l).high (omega orders) i.1 d.0 d.1;
      }

  module _ (P : Step → Type 0) (stays : (o : Outcome) → (o ≡ narrowed → ⊥) → P (step o None h))
      (gets : (a : Interval) (k : List ℕ) (m : ℕ) → Added h k → n < m → m < count_of k → P (step narrowed (base_of (aliased k n m) n a) (aliased k n m))) where
    module _ (a : Interval) (v : Met a) where
      -- words hold the Refine
      stored : Stored (type_at h n) (Some a) (node.refine n)
      stored = let b = width_of f n here in record { width = omega arith; low = v.low; high = v.high; offset = lit< tt; parameter = lit< tt }

      -- a new node, if there is room
      new_case : (t : Bool) → ltb (count_of h) LIMIT ≡ t → P (alias_to n a (appended h (refine_words h n a)).answer (appended h (refine_words h n a)).words)
      new_case true t =
          let room = ltb-true (count_of h) LIMIT t in
          let b = width_of f n here in
          let c = appended-count h (refine_words h n a) f.length (length-words (type_at h n) (Some a) (node.refine n)) room in
          rw (ap (λ (x : Made). x.answer) (appended_made h (refine_words h n a) room))
          (gets a (appended h (refine_words h n a)).words (count_of h)
          (record {
            graph = graph-grown h (type_at h n) (Some a) (node.refine n) f room stored b (omega arith) (lit< tt) (lit≤ tt) (λ x q. subst (Valid (type_at h n)) (some_is q) v.valid);
            words = appended-words h (refine_words h n a) w (node-words (type_at h n) (Some a) (node.refine n) (omega arith) (lit< tt) (omega (arith, f.count)) (lit< tt) (lit< tt));
            more = omega arith;
            old = λ i l. (appended_other h (refine_words h n a) f.length (length-words (type_at h n) (Some a) (node.refine n)) room i (λ q. omega arith)).alias;
            new = λ i l q.
                let d : count_of h ≡ i = omega arith in
                subst (λ (j : ℕ). alias_at (appended h (refine_words h n a)).words j ≡ 0) d (appended_new h (type_at h n) (Some a) (node.refine n) f.length room stored).alias;
          })
          here (omega arith))
      new_case false t = subst (λ (x : Made). P (alias_to n a x.answer x.words)) (sym (appended_full h (refine_words h n a) t)) (stays full full_narrowed)

      -- the node is found past n, or is new
      narrow_case : (x : Option ℕ) → interned h (node.refine n) (refine_words h n a) ≡ x → P (narrow h n a)
      narrow_case None q =
          subst (λ (x : Made). P (alias_to n a x.answer x.words)) (sym (inserted_new h (type_at h n) (Some a) (node.refine n) q))
          (new_case (ltb (count_of h) LIMIT) refl)
      narrow_case (Some i) q =
          let r = lowest-some (same_key h (refine_words h n a)) (min (start (node.refine n)) LIMIT) (min (count_of h) LIMIT - min (start (node.refine n)) LIMIT) i q in
          let c = f.count in
          let l : (n < i) × (i < count_of h) = (omega arith, omega arith) in
          let d = resolve-within f i l.1 in
          subst (λ (x : Made). P (alias_to n a x.answer x.words)) (sym (inserted-found h (type_at h n) (Some a) (node.refine n) i q))
          (gets a h (resolve h i) same_added (omega arith) d.1)

    -- a step changes nothing, or gives the node an alias above it, after a node was stored or not
    pub step_cases : (l : Limits) → P (refine_step h n l)
    unfolding refine_step
    step_cases l = by (range_at h n) refl
      where
        test : (old : Interval) → range_at h n ≡ Some old → (t : Bool) → narrows (type_at h n) old (meet old l) ≡ t
            → P (cond t (narrow h n (meet old l)) (step unchanged None h))
        test old q true t = narrow_case (meet old l) (meets old l q t) (interned h (node.refine n) (refine_words h n (meet old l))) refl
        test old q false t = stays unchanged unchanged-narrowed

        by : (r : Option Interval) → range_at h n ≡ r
            → P (given r (λ old. cond (narrows (type_at h n) old (meet old l)) (narrow h n (meet old l)) (step unchanged None h)) (step unchanged None h))
        by None q = stays unchanged unchanged-narrowed
        by (Some old) q = test old q (narrows (type_at h n) old (meet old l)) refl

-- ---- what refining leaves of a graph

-- a graph with no fewer nodes, and with each alias that was there
pub record Grows (g h : List ℕ) : Type 0 where
  pub graph : is_graph h ≡ true
  pub words : Words h
  pub more : count_of g ≤ count_of h
  pub alias : (m : ℕ) → m < count_of g → (alias_at g m ≡ 0 → ⊥) → alias_at h m ≡ alias_at g m

-- nothing is done
grows_self : (g : List ℕ) → is_graph g ≡ true → Words g → Grows g g
grows_self g e w = record { graph = e; words = w; more = le_refl (count_of g); alias = λ m l d. refl }

-- one after the other
grows_on : {g h k : List ℕ} → Grows g h → Grows h k → Grows g k
grows_on p q = record {
  graph = q.graph;
  words = q.words;
  more = omega (arith, p.more, q.more);
  alias = λ m l d. let s = p.alias m l d in q.alias m (omega (arith, p.more)) (λ z. d (sym s ∙ z)) ∙ s;
}

module _ (h : List ℕ) (e : is_graph h ≡ true) (w : Words h) (n : ℕ) (here : n < count_of h) (l : Limits) where
  -- a step, at a node without an alias
  pub step_grows : alias_at h n ≡ 0 → Grows h (refine_step h n l).words
  step_grows free =
      step_cases h e w n here (λ s. Grows h s.words) (λ o d. grows_self h e w)
      (λ a k m p up below.
      let f = graph_facts k p.graph in
      record {
        graph = aliased-graph f n m up below;
        words = aliased-words k n m p.words;
        more = omega (arith, p.more, aliased-count f n m up below);
        alias = λ i j d. aliased_word f n m up below i ALIAS (omega arith) (λ q z. d (ap (alias_at h) q ∙ free)) ∙ p.old i j;
      })
      l

  -- the node that follows is one of the graph
  pub step_next : (x : Next) → (refine_step h n l).next ≡ Some x → x.node < count_of (refine_step h n l).words
  step_next =
      step_cases h e w n here (λ s. (x : Next) → s.next ≡ Some x → x.node < count_of s.words) (λ o d x q. absurd (none-some q))
      (λ a k m p up below x q.
      let f = graph_facts k p.graph in
      let c : n < count_of (aliased k n m) = omega (arith, aliased-count f n m up below) in
      let b = base_below (graph_facts (aliased k n m) (aliased-graph f n m up below)) n a x c q in
      omega arith)
      l

-- ---- from node to node

module _ (g : List ℕ) (e : is_graph g ≡ true) (w : Words g) where
  -- a step keeps this
  keep : (h : List ℕ) (n : ℕ) (l : Limits) → Grows g h → n < count_of h → Grows g (refine_step h (resolve h n) l).words
  keep h n l p q =
      let f = graph_facts h p.graph in
      grows_on p (step_grows h p.graph p.words (resolve h n) (resolve-within f n q).1 l (resolve_end f n q))

  -- and leads to a node of the graph
  on : (h : List ℕ) (n : ℕ) (l : Limits) → Grows g h → n < count_of h → (x : Next) → (refine_step h (resolve h n) l).next ≡ Some x
      → x.node < count_of (refine_step h (resolve h n) l).words
  on h n l p q = step_next h p.graph p.words (resolve h n) (resolve-within (graph_facts h p.graph) n q).1 l

  module _ (n : ℕ) (here : n < count_of g) (expected : Bool) where
    -- a guard
    pub assumed-grows : Grows g (assumed_guard g n expected).words
    assumed-grows =
        assumed_keeps (Grows g) (λ h m. m < count_of h) keep on g n expected (grows_self g e w)
        (λ c q h p.
        let f = graph_facts g e in
        let b = guard_below f n expected c here q in
        let left = resolve-within f c.left (omega arith) in
        let right = resolve-within f c.right (omega arith) in
        (omega (arith, p.more), omega (arith, p.more)))

    -- the region is still a graph
    pub assumed-graph : is_graph (assumed_guard g n expected).words ≡ true
    assumed-graph = assumed-grows.graph

    -- no alias is written over
    pub assumed_keeps_aliases : (m : ℕ) → m < count_of g → (alias_at g m ≡ 0 → ⊥) → alias_at (assumed_guard g n expected).words m ≡ alias_at g m
    assumed_keeps_aliases = assumed-grows.alias

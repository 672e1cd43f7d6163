-- A node refined to limits that hold of its value: one step, and step by step, keeps the invariant. Assumes nothing.
use mathlib.Core.Path.{◌≡◌, refl, sym, ◌∙◌, subst}
use mathlib.Core.Bool.{true}
use mathlib.Core.List.{List}
use Rattle.std.specs.Prelude.{Option, None, Some}
use Prim.Native.Nat.{ℕ, zero, suc, ◌^◌, ◌<◌}
use native.Mathlib.Omega.{arith}
use lib.IntN.{ℤ}
use lib.Signed.{◌≤ℤ◌}
use Rattle.word.specs.Value.{min_z, max_z}
use Rattle.range.specs.Interval.{Interval, ◌∈◌}
use Rattle.range.specs.declared.ScalarType.{ScalarType}
use Rattle.range.proofs.Order.{orders, le-min, max-le, between_small}
use Rattle.range.proofs.Answers.{some_is}
use Rattle.range.proofs.Valid.{Valid, part_valid}
use Rattle.graph.specs.Layout.{LIMIT, count_of}
use Rattle.graph.specs.Node as node
use Rattle.graph.specs.Node.{type_at, range_at}
use Rattle.graph.specs.Insert as insert
use Rattle.graph.specs.Insert.{Reply, resolve, inserted}
use Rattle.assume.proofs.Grows.{met_inside, narrows_full}
use Rattle.assume.specs.Limits.{Limits, limited_to, or_end, meet, narrows}
use Rattle.assume.specs.Refine.{Next, Outcome, unchanged, narrowed, full, Step, step, alias_to, refine_step, go_on, refine_up_to, refined}
use Rattle.meaning.specs.Value.{integer_of}
use Rattle.meaning.proofs.Worlds.{World, operation_means, operand, value}
use Rattle.meaning.proofs.Values.{then_typed}
use Rattle.meaning.proofs.Answers.{by_test, by_given, Each, each_none, each_some}
use Rattle.meaning.proofs.Invariant.{Ends, Inside, inside_trans, Leads, Inv, inv_width, inv_valid, Extends, ext_here, ext_type, ext_range, ext_value, resolve_leads, Kept, kept_refl, kept_trans, Storable, Answered, insert_leads, insert_good}
use Rattle.meaning.proofs.Aliased.{aliased_kept}
use Rattle.meaning.proofs.Views.{value_small, refine_storable}
use Rattle.meaning.proofs.Undone.{Obeys, Held, Bounded, base_follows}

-- ---- a range met with limits

-- the greater of an end and a limit, if there is one, is at most what both are at most
or_low : (a z : ℤ) (o : Option ℤ) → a ≤ℤ z → ((m : ℤ) → o ≡ Some m → m ≤ℤ z) → max_z a (or_end o a) ≤ℤ z
or_low a z None h k = max-le a a z h h
or_low a z (Some m) h k = max-le a m z h (k m refl)

-- the same of the lesser
or_high : (a z : ℤ) (o : Option ℤ) → z ≤ℤ a → ((m : ℤ) → o ≡ Some m → z ≤ℤ m) → z ≤ℤ min_z a (or_end o a)
or_high a z None h k = le-min a a z h h
or_high a z (Some m) h k = le-min a m z h (k m refl)

-- what lies in a range and between limits lies in what both have in common
meet_in : (z : ℤ) (a : Interval) (l : Limits) → z ∈ a → Obeys z l → z ∈ (meet a l)
unfolding meet
meet_in z a l h k = record { above = or_low a.low z l.lower h.above k.least; below = or_high a.high z l.upper h.below k.most }

-- ---- one step

-- what a step leaves: the invariant, and limits of the node that follows
pub record Stepped (ρ : World) (g : List ℕ) (s : Step) : Type 0 where
  pub kept : Kept ρ g s.words
  pub next : Each (λ x. Bounded ρ s.words x.node (limited_to x.range)) s.next

-- limits of a node hold in a graph that goes on from another
pub bounded_ext : {ρ : World} {g h : List ℕ} → Extends g h → (n : ℕ) (l : Limits) → Bounded ρ g n l → Bounded ρ h n l
bounded_ext {ρ} e n l b = record {
  here = ext_here e n b.here;
  held = λ sure.
      let (v, ev, o) = b.held sure in
      (v, ext_value ρ e n b.here ∙ ev, subst (λ (t : ScalarType). Obeys (integer_of t v) l) (sym (ext_type e n b.here)) o);
}

module _ {ρ : World} {g : List ℕ} (i : Inv ρ g) (n : ℕ) (q : n < count_of g) (l : Limits) (held : Held ρ g n l) where
  -- a step after which no node follows
  still : (o : Outcome) (h : List ℕ) → Kept ρ g h → Stepped ρ g (step o None h)
  still o h k = record { kept = k; next = each_none _ }

  module _ (old : Interval) (e : range_at g n ≡ Some old) (t : narrows (type_at g n) old (meet old l) ≡ true) where
    -- the range of the Refine
    abbrev new : Interval
    new = meet old l

    -- the old one has it inside
    part : Inside (Some new) (Some old)
    part =
        each_some (λ c. (r : Interval) × (Some new ≡ Some r) × (c.low ≤ℤ r.low) × (r.high ≤ℤ c.high)) old
        (new, refl, (met_inside old l).0, (met_inside old l).1)

    -- it lies inside the type
    new_valid : Valid (type_at g n) new
    new_valid =
        let (low, high) = met_inside old l in
        part_valid (type_at g n) old new (inv_valid i n q old e) low (narrows_full (type_at g n) old new t) high

    -- its ends are integers of 128 bits
    new_ends : Ends new
    new_ends =
        let f = i.ends n q old e in
        let (low, high) = met_inside old l in
        let m = new_valid.full in
        record {
          low = between_small (2 ^ 127) old.low old.high new.low low (omega orders) f.low f.high;
          high = between_small (2 ^ 127) old.low old.high new.high (omega orders) high f.low f.high;
        }

    -- the node's value lies in the new range
    has : ρ.IsSure → (v : ℕ) × (value ρ g n ≡ Some v) × ((integer_of (type_at g n) v) ∈ new)
    has sure = let (v, ev, o) = held sure in (v, ev, meet_in _ old l (i.ranged n q sure v ev old e) o)

    -- the Refine may be stored
    storable : Storable ρ g (type_at g n) (Some new) (node.refine n)
    storable =
        refine_storable i n q (type_at g n) (inv_width i n q) new new_valid new_ends
        (λ sure x ex.
        let (v, ev, o) = has sure in
        let s : v ≡ x = some_is (sym ev ∙ ex) in
        (value_small i n q x ex, subst (λ (y : ℕ). (integer_of (type_at g n) y) ∈ new) s o))

    -- the words after the insertion
    abbrev h : List ℕ
    h = (inserted g (type_at g n) (Some new) (node.refine n)).words

    -- whatever it answers
    alias_stepped : (r : Reply) → (inserted g (type_at g n) (Some new) (node.refine n)).answer ≡ r
        → Answered ρ g (type_at g n) (operation_means ρ (type_at g n) (node.refine n) (operand ρ g)) r h → Stepped ρ g (alias_to n new r h)
    alias_stepped (insert.id m) d k =
        let s = insert_leads ρ g (type_at g n) (Some new) (node.refine n) i storable m d in
        let x = k.0.grows in
        let lead : Leads ρ h n m = record {
          here = s.here;
          type = s.type ∙ sym (ext_type x n q);
          means = s.means ∙ then_typed (type_at g n) (value ρ g n) (value_small i n q) ∙ sym (ext_value ρ x n q);
          inside =
              rw (ext_range x n q, e)
              (inside_trans (range_at h m) (Some new) (Some old) s.inside part);
        } in
        let up : n < m = (let b = s.above in omega arith) in
        let w = kept_trans k.0 (aliased_kept ρ k.0.inv n m up lead) in
        let z = w.grows in
        record {
          kept = w;
          next =
              base_follows w.inv n (ext_here z n q) new (rw (ext_type z n q) new_valid)
              (λ sure.
              let (v, ev, o) = has sure in
              (v, ext_value ρ z n q ∙ ev, rw (ext_type z n q) o));
        }
    alias_stepped insert.nothing d k = still full h k
    alias_stepped insert.room d k = still full h k
    alias_stepped insert.units d k = still full h k

  -- a step keeps the invariant, and limits hold of the node that follows
  pub stepped : Stepped ρ g (refine_step g n l)
  unfolding refine_step
  stepped =
      by_given (Stepped ρ g) (range_at g n)
      (λ old e.
      by_test (Stepped ρ g) (narrows (type_at g n) old (meet old l))
      (λ t.
      alias_stepped old e t (inserted g (type_at g n) (Some (meet old l)) (node.refine n)).answer refl
      (insert_good ρ g (type_at g n) (Some (meet old l)) (node.refine n) i (storable old e t)))
      (λ t. still unchanged g (kept_refl i)))
      (λ e. still unchanged g (kept_refl i))

-- ---- step by step

module _ {ρ : World} where
  -- at most k steps
  steps_kept : (k : ℕ) (so : Outcome) {g : List ℕ} → Inv ρ g → (n : ℕ) (l : Limits) → Bounded ρ g n l → Kept ρ g (refine_up_to k so g n l).words
  steps_kept zero so i n l b = kept_refl i
  steps_kept (suc k) so {g} i n l b =
      let d = resolve_leads ρ g i n b.here in
      let s = stepped i (resolve g n) d.here l
      (λ sure.
      let (v, ev, o) = b.held sure in
      (v, d.means ∙ ev, subst (λ (t : ScalarType). Obeys (integer_of t v) l) (sym d.type) o)) in
      go (refine_step g (resolve g n) l).outcome (refine_step g (resolve g n) l).next (refine_step g (resolve g n) l).words s.kept
      (λ j x f. steps_kept k narrowed j x.node (limited_to x.range) (s.next x f))
    where
      go : (o : Outcome) (x : Option Next) (h : List ℕ) → Kept ρ g h
          → (Inv ρ h → Each (λ x. Kept ρ h (refine_up_to k narrowed h x.node (limited_to x.range)).words) x)
          → Kept ρ g (go_on so o x h (refine_up_to k narrowed)).words
      go unchanged x h w f = w
      go full x h w f = w
      go narrowed None h w f = w
      go narrowed (Some x) h w f = kept_trans w (f w.inv x refl)

  -- a node refined to limits that hold of its value
  pub refined_kept : (so : Outcome) {g : List ℕ} → Inv ρ g → (n : ℕ) (l : Limits) → Bounded ρ g n l → Kept ρ g (refined so g n l).words
  unfolding refined
  refined_kept so i n l b = steps_kept LIMIT so i n l b

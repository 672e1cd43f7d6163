-- What holds of a grown graph where the values meet the conditions, and that an insertion keeps it. Assumes nothing.
use mathlib.Core.Path.{◌≡◌, refl, sym, ap, ◌∙◌, subst}
use mathlib.Core.Bool.{Bool, true, cond, false, ◌&&◌}
use mathlib.Core.List.{List}
use mathlib.Core.Logic.{◌⊎◌, inl, inr, ⊎_elim}
use Rattle.std.specs.Prelude.{Option, None, Some}
use Prim.Native.Nat.{ℕ, zero, suc, min, ◌+◌, ◌-◌, ◌^◌, ◌≤◌, ◌<◌}
use native.Mathlib.Decide.{dec_lt}
use native.Mathlib.Nat.{le_refl}
use native.Mathlib.Omega.{arith}
use borrow.Author.Tests.{ltb-true, eq-eqb}
use lib.Dec.{ltb, eqb}
use lib.Signed.{mag, ◌≤ℤ◌}
use Rattle.range.specs.Interval.{Interval, ◌∈◌}
use Rattle.range.specs.declared.ScalarType.{ScalarType}
use Rattle.range.specs.declared.ScalarType.TheVariants as ty
use Rattle.range.proofs.Order.{orders}
use Rattle.range.proofs.Valid.{Valid}
use Rattle.evaluate.specs.Operator.{type_width}
use Rattle.evaluate.specs.declared.Binary.{Binary}
use Rattle.evaluate.specs.declared.Binary.TheVariants as bi
use Rattle.graph.specs.Layout.{LIMIT, count_of}
use Rattle.graph.specs.Node as node
use Rattle.graph.specs.Node.{Op, Parts, node_at, type_at, range_at, operation_at, alias_at, op_z, words_of}
use Rattle.graph.specs.WellFormed.{is_graph}
use Rattle.graph.specs.Insert as insert
use Rattle.graph.specs.Insert.{Reply, Made, start, follow, resolve, same_key, interned, appended, found_or, inserted}
use Rattle.graph.proofs.Codes.{Stored, op_offset}
use Rattle.graph.proofs.Appended.{Exact, Keys, exact_new, exact_old, keys_grown, graph-grown, range_valid}
use Rattle.graph.proofs.Grown.{Graph, graph_facts, width_of, start_le, resolve-within}
use Rattle.graph.proofs.Interned.{same_key_lem, lowest-some}
use Rattle.graph.proofs.Nodes.{Holds, type_read, range_read, operation_read, length-words, appended_made, appended_full, appended-count, appended_other, appended_new, node_other}
use Rattle.fold.specs.Shape.{same_type, narrow_type, same_binary}
use Rattle.request.specs.Typing.{is_number, unary_typed, binary_typed, concat_typed}
use Rattle.meaning.specs.Value.{size, integer_of}
use Rattle.meaning.proofs.Worlds.{World, operation_means, operand, value}
use Rattle.meaning.proofs.Values.{value_same, value_step, means_same}

-- ---- types of stored operations

-- the left operand of a stored shift left: of the result's type, or of fewer bits
abbrev pub shiftable : ScalarType → ScalarType → Bool
shiftable a ty.Bool = false
shiftable a (ty.Bits w) = narrow_type a w
shiftable a ty.Integer = same_type a ty.Integer

-- the typing table of stored binary operations
abbrev pub stored_typed : Binary → ScalarType → ScalarType → ScalarType → Bool
stored_typed o a b t = cond (same_binary o bi.ShiftLeft) (shiftable a t && is_number b) (binary_typed o a b t)

-- an operation of a node of type t: a constant is of its type, a Slice has its type's width, the others by the table
abbrev pub Typed : List ℕ → ScalarType → Op → Type 0
Typed g t (node.constant c) = c < size t
Typed g t (node.input i) = Unit {0}
Typed g t (node.refine i) = Unit {0}
Typed g t (node.effect i) = Unit {0}
Typed g t (node.slice i o w) = t ≡ ty.Bits w
Typed g t (node.concat i j v) = (w : ℕ) × (t ≡ ty.Bits w) × (concat_typed (type_at g i) (type_at g j) v w ≡ true)
Typed g t (node.unary u i) = unary_typed u (type_at g i) t ≡ true
Typed g t (node.binary b i j) = stored_typed b (type_at g i) (type_at g j) t ≡ true

-- ---- ranges

-- both ends are integers of 128 bits
pub record Ends (a : Interval) : Type 0 where
  pub low : mag a.low < 2 ^ 127
  pub high : mag a.high < 2 ^ 127

-- a value of type t lies in the range, if there is one
abbrev pub Within : ScalarType → ℕ → Option Interval → Type 0
Within t v r = (a : Interval) → r ≡ Some a → (integer_of t v) ∈ a

-- a range inside another: where that is one, this is one too, and no wider
abbrev pub Inside : Option Interval → Option Interval → Type 0
Inside r s = (b : Interval) → s ≡ Some b → (a : Interval) × (r ≡ Some a) × (b.low ≤ℤ a.low) × (a.high ≤ℤ b.high)

pub inside_refl : (r : Option Interval) → Inside r r
inside_refl r b e = (b, e, omega orders, omega orders)

pub inside_trans : (r s t : Option Interval) → Inside r s → Inside s t → Inside r t
inside_trans r s t h k c e =
    let (b, q, low, high) = k c e in
    let (a, p, above, below) = h b q in
    (a, p, omega orders, omega orders)

-- ---- the invariant

-- where an alias leads: to a node of the same type and value, with a range inside
pub record Leads (ρ : World) (g : List ℕ) (n m : ℕ) : Type 0 where
  pub here : m < count_of g
  pub type : type_at g m ≡ type_at g n
  pub means : value ρ g m ≡ value ρ g n
  pub inside : Inside (range_at g m) (range_at g n)

-- the source of a Refine has a value of the Refine's type, if any
abbrev pub Refined : (ℕ → Option ℕ) → ScalarType → Op → Type 0
Refined look t (node.constant c) = Unit {0}
Refined look t (node.input i) = Unit {0}
Refined look t (node.refine i) = (v : ℕ) → look i ≡ Some v → v < size t
Refined look t (node.effect i) = Unit {0}
Refined look t (node.slice i o w) = Unit {0}
Refined look t (node.concat i j v) = Unit {0}
Refined look t (node.unary u i) = Unit {0}
Refined look t (node.binary b i j) = Unit {0}

pub record Inv (ρ : World) (g : List ℕ) : Type 0 where
  -- question 1
  pub graph : is_graph g ≡ true
  -- a node's key words are those of what it reads
  pub exact : (n : ℕ) → n < count_of g → Exact g n
  -- no two nodes have one type, range and operation
  pub keys : Keys g
  -- the typing table as stored nodes keep it
  pub typed : (n : ℕ) → n < count_of g → Typed g (type_at g n) (operation_at g n)
  -- a Refine's source has a value of the Refine's type, if any
  pub refined : (n : ℕ) → n < count_of g → ρ.IsSure → Refined (value ρ g) (type_at g n) (operation_at g n)
  -- the ends of ranges are integers of 128 bits
  pub ends : (n : ℕ) → n < count_of g → (a : Interval) → range_at g n ≡ Some a → Ends a
  -- every defined value lies in its node's range
  pub ranged : (n : ℕ) → n < count_of g → ρ.IsSure → (v : ℕ) → value ρ g n ≡ Some v → Within (type_at g n) v (range_at g n)
  -- an alias leads to a node of the same type and value, with a range inside
  pub alias : (n : ℕ) → n < count_of g → (alias_at g n ≡ 0) ⊎ Leads ρ g n (alias_at g n - 1)

module _ {ρ : World} {g : List ℕ} (i : Inv ρ g) where
  -- what question 1 says
  pub inv_graph : Graph g
  inv_graph = graph_facts g i.graph

  pub inv_below : (n : ℕ) → n < count_of g → start (operation_at g n) ≤ n
  inv_below n l = start_le inv_graph n l

  pub inv_width : (n : ℕ) → n < count_of g → type_width (type_at g n) ≤ 128
  inv_width n l = width_of inv_graph n l

pub inv_step : {ρ : World} {g : List ℕ} → Inv ρ g → (n : ℕ) → n < count_of g → value ρ g n ≡ operation_means ρ (type_at g n) (operation_at g n) (operand ρ g)
inv_step {ρ} {g} i n l = value_step ρ.env g n (inv_below i n l)

-- its range, if it has one, passes question 1
pub inv_valid : {ρ : World} {g : List ℕ} → Inv ρ g → (n : ℕ) → n < count_of g → (a : Interval) → range_at g n ≡ Some a → Valid (type_at g n) a
inv_valid {ρ} {g} i = range_valid (inv_graph i)

-- ---- one graph goes on from another: its nodes are there, with their types, ranges and operations

pub record Extends (g h : List ℕ) : Type 0 where
  pub more : count_of g ≤ count_of h
  pub same : (i : ℕ) → i < count_of g → node_at h i ≡ node_at g i

pub ext_refl : (g : List ℕ) → Extends g g
ext_refl g = record { more = le_refl (count_of g); same = λ i l. refl }

pub ext_trans : {g h k : List ℕ} → Extends g h → Extends h k → Extends g k
ext_trans a b = record {
  more = let p = a.more in let q = b.more in omega arith;
  same = λ i l. b.same i (let p = a.more in omega arith) ∙ a.same i l;
}

module _ {g h : List ℕ} (e : Extends g h) (i : ℕ) (l : i < count_of g) where
  pub ext_here : i < count_of h
  ext_here = let m = e.more in omega arith

  pub ext_type : type_at h i ≡ type_at g i
  ext_type = ap (λ (p : Parts). p.type) (e.same i l)

  pub ext_range : range_at h i ≡ range_at g i
  ext_range = ap (λ (p : Parts). p.range) (e.same i l)

  pub ext_operation : operation_at h i ≡ operation_at g i
  ext_operation = ap (λ (p : Parts). p.operation) (e.same i l)

pub ext_value : (ρ : World) {g h : List ℕ} → Extends g h → (i : ℕ) → i < count_of g → value ρ h i ≡ value ρ g i
ext_value ρ {g} {h} e i l = value_same ρ.env g h i (λ j q. ext_type e j (omega arith)) (λ j q. ext_operation e j (omega arith))

ext_operand : (ρ : World) {g h : List ℕ} → Extends g h → (i : ℕ) → i < count_of g → operand ρ h i ≡ operand ρ g i
ext_operand ρ e i l = (λ k. record { type = ext_type e i l k; val = ext_value ρ e i l k })

typed_ext : {g h : List ℕ} → Extends g h → (t : ScalarType) (o : Op) → start o ≤ count_of g → Typed g t o → Typed h t o
typed_ext e t (node.constant c) b w = w
typed_ext e t (node.input i) b w = tt
typed_ext e t (node.refine i) b w = tt
typed_ext e t (node.effect i) b w = tt
typed_ext e t (node.slice i o v) b w = w
typed_ext e t (node.concat i j v) b w =
    (w.0, w.1, (λ k. concat_typed (ext_type e i (omega arith) k) (ext_type e j (omega arith) k) v w.0) ∙ w.2)
typed_ext e t (node.unary u i) b w = ap (λ (a : ScalarType). unary_typed u a t) (ext_type e i (omega arith)) ∙ w
typed_ext e t (node.binary f i j) b w = (λ k. stored_typed f (ext_type e i (omega arith) k) (ext_type e j (omega arith) k) t) ∙ w

refined_ext : (ρ : World) {g h : List ℕ} → Extends g h → (t : ScalarType) (o : Op) → start o ≤ count_of g → Refined (value ρ g) t o → Refined (value ρ h) t o
refined_ext ρ e t (node.constant c) b w = tt
refined_ext ρ e t (node.input i) b w = tt
refined_ext ρ e t (node.refine i) b w = λ v q. w v (sym (ext_value ρ e i (omega arith)) ∙ q)
refined_ext ρ e t (node.effect i) b w = tt
refined_ext ρ e t (node.slice i o v) b w = tt
refined_ext ρ e t (node.concat i j v) b w = tt
refined_ext ρ e t (node.unary u i) b w = tt
refined_ext ρ e t (node.binary f i j) b w = tt

-- the old nodes are still typed, and their values in their ranges
module _ {ρ : World} {g h : List ℕ} (i : Inv ρ g) (e : Extends g h) (n : ℕ) (l : n < count_of g) where
  reaches : start (operation_at g n) ≤ count_of g
  reaches = let b = inv_below i n l in omega arith

  pub old_typed : Typed h (type_at h n) (operation_at h n)
  old_typed = rw (ext_type e n l, ext_operation e n l) (typed_ext e (type_at g n) (operation_at g n) reaches (i.typed n l))

  pub old_refined : ρ.IsSure → Refined (value ρ h) (type_at h n) (operation_at h n)
  old_refined sure = rw (ext_type e n l, ext_operation e n l) (refined_ext ρ e (type_at g n) (operation_at g n) reaches (i.refined n l sure))

  pub old_ends : (a : Interval) → range_at h n ≡ Some a → Ends a
  old_ends a q = i.ends n l a (sym (ext_range e n l) ∙ q)

  pub old_ranged : ρ.IsSure → (v : ℕ) → value ρ h n ≡ Some v → Within (type_at h n) v (range_at h n)
  old_ranged sure v q = rw (ext_type e n l, ext_range e n l) (i.ranged n l sure v (sym (ext_value ρ e n l) ∙ q))

pub leads_ext : (ρ : World) {g h : List ℕ} → Extends g h → (n m : ℕ) → n < count_of g → Leads ρ g n m → Leads ρ h n m
leads_ext ρ e n m l a = record {
  here = ext_here e m a.here;
  type = ext_type e m a.here ∙ a.type ∙ sym (ext_type e n l);
  means = ext_value ρ e m a.here ∙ a.means ∙ sym (ext_value ρ e n l);
  inside = rw (ext_range e m a.here, ext_range e n l) a.inside;
}

-- ---- the end of a chain of aliases

leads_refl : {ρ : World} {g : List ℕ} (n : ℕ) → n < count_of g → Leads ρ g n n
leads_refl {ρ} {g} n l = record { here = l; type = refl; means = refl; inside = inside_refl (range_at g n) }

leads_trans : {ρ : World} {g : List ℕ} (n m k : ℕ) → Leads ρ g n m → Leads ρ g m k → Leads ρ g n k
leads_trans {ρ} {g} n m k a b = record {
  here = b.here;
  type = b.type ∙ a.type;
  means = b.means ∙ a.means;
  inside = inside_trans (range_at g k) (range_at g m) (range_at g n) b.inside a.inside;
}

module _ (ρ : World) (g : List ℕ) (i : Inv ρ g) where
  follow_leads : (k n : ℕ) → n < count_of g → Leads ρ g n (follow g k n)
  follow_leads zero n l = leads_refl n l
  follow_leads (suc k) n l = go (i.alias n l) (λ m q. follow_leads k m q)
    where
      go : (alias_at g n ≡ 0) ⊎ Leads ρ g n (alias_at g n - 1) → ((m : ℕ) → m < count_of g → Leads ρ g m (follow g k m)) → Leads ρ g n (follow g (suc k) n)
      go (inl e) r = rw (eq-eqb (alias_at g n) 0 e) (leads_refl n l)
      go (inr d) r = step (eqb (alias_at g n) 0) refl
        where
          step : (t : Bool) → eqb (alias_at g n) 0 ≡ t → Leads ρ g n (follow g (suc k) n)
          step true q = rw q (leads_refl n l)
          step false q = rw q (leads_trans n (alias_at g n - 1) (follow g k (alias_at g n - 1)) d (r (alias_at g n - 1) d.here))

  pub resolve_leads : (n : ℕ) → n < count_of g → Leads ρ g n (resolve g n)
  unfolding resolve
  resolve_leads n l = follow_leads LIMIT n l

-- ---- an insertion

-- a node that may be stored: its words can be read back and pass question 1, types hold, its value lies in its range
pub record Storable (ρ : World) (g : List ℕ) (t : ScalarType) (r : Option Interval) (o : Op) : Type 0 where
  pub stored : Stored t r o
  pub width : type_width t ≤ 128
  pub below : start o ≤ count_of g
  pub offset : op_offset o < 128
  pub parameter : op_z o ≤ 128
  pub valid : (a : Interval) → r ≡ Some a → Valid t a
  pub typed : Typed g t o
  pub refined : ρ.IsSure → Refined (value ρ g) t o
  pub ends : (a : Interval) → r ≡ Some a → Ends a
  pub within : ρ.IsSure → (v : ℕ) → operation_means ρ t o (operand ρ g) ≡ Some v → Within t v r

-- the graph that a call leaves
pub record Kept (ρ : World) (g h : List ℕ) : Type 0 where
  pub grows : Extends g h
  pub inv : Inv ρ h

pub kept_refl : {ρ : World} {g : List ℕ} → Inv ρ g → Kept ρ g g
kept_refl {g} i = record { grows = ext_refl g; inv = i }

pub kept_trans : {ρ : World} {g h k : List ℕ} → Kept ρ g h → Kept ρ h k → Kept ρ g k
kept_trans a b = record { grows = ext_trans a.grows b.grows; inv = b.inv }

-- a node of type t, whose value is w wherever w is one
pub record Found (ρ : World) (t : ScalarType) (w : Option ℕ) (n : ℕ) (h : List ℕ) : Type 0 where
  pub here : n < count_of h
  pub type : type_at h n ≡ t
  pub means : ρ.IsSure → (v : ℕ) → w ≡ Some v → value ρ h n ≡ Some v

-- what is to hold of an answer and of the graph left, where type t and value w are asked for
abbrev pub Answered : World → List ℕ → ScalarType → Option ℕ → Reply → List ℕ → Type 0
Answered ρ g t w (insert.id n) h = Kept ρ g h × Found ρ t w n h
Answered ρ g t w insert.nothing h = Kept ρ g h
Answered ρ g t w insert.room h = Kept ρ g h
Answered ρ g t w insert.units h = Kept ρ g h

-- the node n of h for an operation on g: above the operands, of the type, with the operation's value and a range inside the one given
pub record Stands (ρ : World) (g : List ℕ) (t : ScalarType) (r : Option Interval) (o : Op) (n : ℕ) (h : List ℕ) : Type 0 where
  pub here : n < count_of h
  pub above : start o ≤ n
  pub type : type_at h n ≡ t
  pub means : value ρ h n ≡ operation_means ρ t o (operand ρ g)
  pub inside : Inside (range_at h n) r

-- what is to hold of an insertion's answer and of the graph left
abbrev Inserted : World → List ℕ → ScalarType → Option Interval → Op → Reply → List ℕ → Type 0
Inserted ρ g t r o (insert.id n) h = Kept ρ g h × Stands ρ g t r o n h
Inserted ρ g t r o insert.nothing h = Kept ρ g h
Inserted ρ g t r o insert.room h = Kept ρ g h
Inserted ρ g t r o insert.units h = Kept ρ g h

module _ (ρ : World) (g : List ℕ) (t : ScalarType) (r : Option Interval) (o : Op) (i : Inv ρ g) (s : Storable ρ g t r o) where
  unfoldable ws : List ℕ
  ws = words_of t r o

  unfoldable grown : List ℕ
  grown = (appended g ws).words

  module _ (room : count_of g < LIMIT) where
    count-grown : count_of grown ≡ count_of g + 1
    unfolding ws grown
    count-grown = appended-count g (words_of t r o) (inv_graph i).length (length-words t r o) room

    grows : Extends g grown
    unfolding ws grown
    grows = record {
      more = omega (arith, count-grown);
      same = λ n l. node_other g (words_of t r o) (inv_graph i).length (length-words t r o) room n (λ e. omega arith);
    }

    new : Holds grown (count_of g) t r o 0
    unfolding ws grown
    new = appended_new g t r o (inv_graph i).length room s.stored

    -- what the new node means
    new_means : value ρ grown (count_of g) ≡ operation_means ρ t o (operand ρ g)
    new_means =
        value_step ρ.env grown (count_of g) (rw new.operation s.below) ∙ (λ k. operation_means ρ (new.type k) (new.operation k) (operand ρ grown))
        ∙ means_same ρ.env t (count_of g) o s.below (operand ρ grown) (operand ρ g) (λ n l. ext_operand ρ grows n l)

    -- what holds of the old nodes and of the new one
    each : (P : ℕ → Type 0) → ((n : ℕ) → n < count_of g → P n) → P (count_of g) → (n : ℕ) → n < count_of grown → P n
    each P a b n l = go (dec_lt n (count_of g))
      where
        go : Dec (n < count_of g) → P n
        go (yes q) = a n q
        go (no q) = let e : count_of g ≡ n = omega (arith, count-grown) in subst P e b

    old_alias : (n : ℕ) → n < count_of g → alias_at grown n ≡ alias_at g n
    unfolding ws grown
    old_alias n l = (appended_other g (words_of t r o) (inv_graph i).length (length-words t r o) room n (λ e. omega arith)).alias

    grown_exact : (n : ℕ) → n < count_of grown → Exact grown n
    unfolding ws grown
    grown_exact =
        each (Exact grown) (λ n l. exact_old g t r o (inv_graph i).length room s.stored n (λ e. omega arith) (i.exact n l))
        (exact_new g t r o (inv_graph i).length room s.stored)

    grown_keys : interned g o ws ≡ None → Keys grown
    unfolding ws grown
    grown_keys e = keys_grown g t r o (inv_graph i).length room s.stored (inv_below i) i.exact e i.keys

    grown-graph : is_graph grown ≡ true
    unfolding ws grown
    grown-graph = graph-grown g t r o (inv_graph i) room s.stored s.width s.below s.offset s.parameter s.valid

    grown_inv : interned g o ws ≡ None → Inv ρ grown
    grown_inv e = record {
      graph = grown-graph;
      exact = grown_exact;
      keys = grown_keys e;
      typed =
          each (λ n. Typed grown (type_at grown n) (operation_at grown n)) (old_typed i grows)
          (rw (new.type, new.operation) (typed_ext grows t o s.below s.typed));
      refined =
          each (λ n. ρ.IsSure → Refined (value ρ grown) (type_at grown n) (operation_at grown n)) (old_refined i grows)
          (λ y. rw (new.type, new.operation) (refined_ext ρ grows t o s.below (s.refined y)));
      ends =
          each (λ n. (a : Interval) → range_at grown n ≡ Some a → Ends a) (old_ends i grows)
          (λ a q. s.ends a (sym new.range ∙ q));
      ranged =
          each (λ n. ρ.IsSure → (v : ℕ) → value ρ grown n ≡ Some v → Within (type_at grown n) v (range_at grown n))
          (old_ranged i grows)
          (λ y v q. rw (new.type, new.range) (s.within y v (sym new_means ∙ q)));
      alias =
          each (λ n. (alias_at grown n ≡ 0) ⊎ Leads ρ grown n (alias_at grown n - 1))
          (λ n l. rw (old_alias n l) (⊎_elim (λ e. inl e) (λ d. inr (leads_ext ρ grows n (alias_at g n - 1) l d)) (i.alias n l)))
          (inl new.alias);
    }

  -- ---- what interning finds

  found : (n : ℕ) → interned g o ws ≡ Some n → Stands ρ g t r o (resolve g n) g
  unfolding ws
  found n e =
      let f = lowest-some (same_key g (words_of t r o)) (min (start o) LIMIT) (min (count_of g) LIMIT - min (start o) LIMIT) n e in
      let l : n < count_of g = omega (arith, f.0, f.1) in
      let key = (same_key_lem g (words_of t r o) n (length-words t r o)).0 f.2 in
      let d = resolve_leads ρ g i n l in
      record {
        here = d.here;
        above = omega (arith, f.0, (inv_graph i).count, (resolve-within (inv_graph i) n l).0);
        type = d.type ∙ type_read g n t r o s.stored key;
        means =
            d.means ∙ inv_step i n l
            ∙ (λ k. operation_means ρ (type_read g n t r o s.stored key k) (operation_read g n t r o s.stored key k) (operand ρ g));
        inside = subst (Inside (range_at g (resolve g n))) (range_read g n t r o s.stored key) d.inside;
      }

  unfoldable MadeGood : Made → Type 0
  MadeGood m = Inserted ρ g t r o m.answer m.words

  new_good : interned g o ws ≡ None → (b : Bool) → ltb (count_of g) LIMIT ≡ b → MadeGood (appended g ws)
  unfolding MadeGood ws grown
  new_good u true e =
      let room = ltb-true (count_of g) LIMIT e in
      let a : (appended g (words_of t r o)).answer ≡ insert.id (count_of g) = ap (λ (m : Made). m.answer) (appended_made g (words_of t r o) room) in
      rw a (
        record { grows = grows room; inv = grown_inv room u },
        record {
          here = omega (arith, count-grown room);
          above = s.below;
          type = (new room).type;
          means = new_means room;
          inside = subst (Inside (range_at grown (count_of g))) (new room).range (inside_refl (range_at grown (count_of g)));
        },
      )
  new_good u false e = rw (appended_full g (words_of t r o) e) (kept_refl i)

  insert_made : Inserted ρ g t r o (inserted g t r o).answer (inserted g t r o).words
  unfolding MadeGood inserted ws
  insert_made = go (interned g o (words_of t r o)) refl
    where
      go : (x : Option ℕ) → interned g o (words_of t r o) ≡ x → MadeGood (found_or g x (appended g (words_of t r o)))
      go None e = new_good e (ltb (count_of g) LIMIT) refl
      go (Some n) e = (kept_refl i, found n e)

  -- the node that an insertion answers
  pub insert_leads : (m : ℕ) → (inserted g t r o).answer ≡ insert.id m → Stands ρ g t r o m (inserted g t r o).words
  insert_leads m e = (subst (λ (a : Reply). Inserted ρ g t r o a (inserted g t r o).words) e insert_made).1

  -- an insertion keeps the invariant, and its node means the operation
  pub insert_good : Answered ρ g t (operation_means ρ t o (operand ρ g)) (inserted g t r o).answer (inserted g t r o).words
  insert_good = go (inserted g t r o).answer insert_made
    where
      go : (a : Reply) → Inserted ρ g t r o a (inserted g t r o).words → Answered ρ g t (operation_means ρ t o (operand ρ g)) a (inserted g t r o).words
      go (insert.id n) k = (k.0, record { here = k.1.here; type = k.1.type; means = λ y v q. k.1.means ∙ q })
      go insert.nothing k = k
      go insert.room k = k
      go insert.units k = k

-- Of every list of calls, where the builders are sound: the invariant of its graph, and every line right where the conditions are met,
-- now and at each mark that stands. Assumes nothing.
use mathlib.Core.Path.{◌≡◌, refl, sym, ap, ◌∙◌, subst}
use mathlib.Core.Bool.{Bool, true, false, cond, false≢true, ◌&&◌}
use mathlib.Core.List.{List, [], ◌∷◌, ◌++◌}
use mathlib.Core.Logic.{◌⊎◌, inl, inr, ⊎_elim}
use Rattle.std.specs.Prelude.{Option, None, Some}
use Prim.Native.Nat.{ℕ, suc, ◌+◌, ◌^◌, ◌≤◌, ◌<◌}
use native.Mathlib.Nat.{mod-lt, le_refl}
use native.Mathlib.Omega.{arith}
use borrow.Author.Tests.{eqb-true, ltb-true, leb-true, le-leb}
use lib.Dec.{eqb, ltb, leb}
use lib.ListN.{length, get_or, take, replicate, length-append, get_or-append}
use lib.Seq.{get_or-append-add, get_or-take, length-take-le}
use lib.Pow.{pow_pos}
use lib.Signed.{le_z}
use Rattle.word.specs.Option.{from_bool, or_else}
use Rattle.word.proofs.Integer.{lt-or-ge}
use Rattle.range.specs.Interval.{Interval, ◌∈◌, type_interval}
use Rattle.range.specs.declared.ScalarType.{ScalarType}
use Rattle.range.specs.declared.ScalarType.TheVariants as ty
use Rattle.range.proofs.Sound.{tests, at_most_lem}
use Rattle.range.proofs.Answers.{none-some, some_is}
use Rattle.range.proofs.Valid.{Valid, type_valid}
use Rattle.evaluate.specs.Evaluate.{reduced}
use Rattle.evaluate.specs.Operator.{WIDEST, type_width, unary_width}
use Rattle.evaluate.specs.declared.Binary.{Binary}
use Rattle.evaluate.specs.declared.Binary.TheVariants as bi
use Rattle.graph.specs.Layout.{REGION, LIMIT, count_of}
use Rattle.graph.specs.Node as node
use Rattle.graph.specs.Node.{Op, type_at, words_of}
use Rattle.graph.specs.WellFormed.{is_graph}
use Rattle.graph.specs.Insert as graph
use Rattle.graph.specs.Insert.{Reply, interned, appended, found_or, inserted}
use Rattle.graph.proofs.Nodes.{appended_made, appended_full}
use Rattle.graph.proofs.Grown.{Graph, graph_facts}
use Rattle.graph.proofs.Restored.{same_self}
use Rattle.graph.specs.Alias.{Same}
use Rattle.fold.specs.Shape.{same_binary}
use Rattle.assume.specs.Refine as refine
use Rattle.assume.specs.Refine.{Outcome}
use Rattle.assume.specs.Assume.{assumed_guard}
use Rattle.build.specs.Build as build
use Rattle.build.specs.Build.{Out, out}
use Rattle.retain.specs.Retain.{is_keep_list, kept_below, retained}
use Rattle.retain.proofs.Operands.{KeepList, keep_list_facts}
use Rattle.answer.specs.declared.Refusal.{Refusal}
use Rattle.answer.specs.declared.Refusal.TheVariants as no
use Rattle.native.specs.Call as calls
use Rattle.native.specs.Call.{Response, Called, refusal, is_refused}
use Rattle.request.specs.Request as asks
use Rattle.request.specs.Request.{Request, all_up_to, all_below, widths, ids, typed, is_bool_value, is_range_of, declarable}
use Rattle.native.specs.Perform.{UNITS, settled, builder_out, guard_out, worked, finished, performed, request_in_graph, request_call}
use Rattle.native.specs.Retain as retaining
use Rattle.native.specs.Retain.{Retention, retain_in_graph}
use Rattle.guard_list.specs.GuardList.{guards_of, in_turn, is_guard_list, guards_in_graph, guards_call}
use Rattle.guard_list.proofs.Lists.{list_parts, parts_list}
use Rattle.guard_list.proofs.Kept.{guards_same}
use Rattle.mark.specs.Layout.{MOST, standing}
use Rattle.mark.specs.WellFormed.{is_marked}
use Rattle.mark.specs.Mark as marks
use Rattle.mark.specs.Mark.{Marking, Returning, Retaining, standing_only, marked, returned, unmarked, mark_call, mark_in_graph, return_call, return_in_graph}
use Rattle.mark.proofs.Facts.{Marks, both_marked, facts_marks}
use Rattle.mark.proofs.Marks.{standing-length, standing_is, marked-standing}
use Rattle.mark.proofs.Moved.{kept_marks, kept_returned, marked-marks, marked-returned, marked_earlier, returned-marks, returned_earlier, none-marks}
use Rattle.mark.proofs.Requests.{request_same}
use Rattle.request.specs.Typing.{is_number, binary_typed}
use Rattle.meaning.specs.Value.{Env, size, integer_of, of_type, valued, Operand, value, operand}
use Rattle.meaning.proofs.Worlds.{World, operation_means}
use Rattle.meaning.specs.Book.{Action, request, retain, mark, return_to, guards, patterned, request_means, Line, Condition, input_is, effect_is, holds, first, handed, request_conditions, keeps, renumbered, struck, retains, Book, blank, drops_all, State, History, called, kept, acted, singles, singly, listed, acted_guards, refused_or, answered_singly, Takeable, retained_by, marked_by, returned_by, act, play, Unmarked, AllMet, Right, AllRight}
use Rattle.meaning.proofs.Values.{typed_is}
use Rattle.graph.proofs.Appended.{empty_graph}
use Rattle.meaning.proofs.Invariant.{shiftable, stored_typed, Ends, Within, Inv, Extends, ext_here, ext_value, Storable, Kept, Answered, insert_good}
use Rattle.meaning.proofs.Constants.{reduced_same, stored_of, constant_storable}
use Rattle.meaning.proofs.Answers.{by_test, each_else, binary_is}
use Rattle.meaning.proofs.Ranges.{type-within, type-ends}
use Rattle.meaning.proofs.Assumed.{assumed_kept}
use Rattle.meaning.proofs.Mapping.{kept_same, below_renumbered}
use Rattle.meaning.proofs.Patterns.{Pattern, patterned_is}
use Rattle.meaning.proofs.Plans.{Covers, then_covers, binary_covers, concat_covers}
use Rattle.meaning.proofs.Retain.{kept_here, retain-value, retain_inv}
use Rattle.meaning.proofs.Tree as Tree
use Rattle.meaning.proofs.Tree.{Sound}
use Rattle.meaning.proofs.Views.{same_type_lem}

-- ---- the world of a state

-- an environment, where it meets conditions
abbrev At : Env → List Condition → World
At ρ cs = record { env = ρ; IsSure = AllMet ρ cs }

-- what holds where these conditions are met holds where more are
weaken : (ρ : Env) (cs ds : List Condition) {g : List ℕ} → (AllMet ρ ds → AllMet ρ cs) → Inv (At ρ cs) g → Inv (At ρ ds) g
weaken ρ cs ds f i = search arith

met_rest : (ρ : Env) (cs ds : List Condition) → AllMet ρ (cs ++ ds) → AllMet ρ ds
met_rest ρ [] ds m = m
met_rest ρ (c ∷ cs) ds m = met_rest ρ cs ds m.1

-- ---- lines

module _ (ρ : Env) where
  lines_ext : {g h : List ℕ} → Extends g h → (ls : List Line) → AllRight ρ g ls → AllRight ρ h ls
  lines_ext e [] r = tt
  lines_ext e (l ∷ ls) r =
      (record { here = ext_here e l.id r.0.here; means = λ v q. ext_value (At ρ []) e l.id r.0.here ∙ r.0.means v q }, lines_ext e ls r.1)

  lines_more : (g : List ℕ) (ls : List Line) (l : Line) → AllRight ρ g ls → Right ρ g l → AllRight ρ g (ls ++ (l ∷ []))
  lines_more g [] l r q = (q, tt)
  lines_more g (k ∷ ls) l r q = (r.0, lines_more g ls l r.1 q)

  else_is : (a b : Option ℕ) (v : ℕ) → or_else a b ≡ Some v → {P : Type 0} → (a ≡ Some v → P) → (b ≡ Some v → P) → P
  else_is None b v e f h = h e
  else_is (Some x) b v e f h = f e

  first_is : (g : List ℕ) (ls : List Line) → AllRight ρ g ls → (n v : ℕ) → first ls n ≡ Some v → value ρ g n ≡ Some v
  first_is g [] r n v e = absurd (none-some e)
  first_is g (l ∷ ls) r n v e = go (eqb l.id n) refl e (λ q. first_is g ls r.1 n v q)
    where
      go : (b : Bool) → eqb l.id n ≡ b → cond b (or_else l.val (first ls n)) (first ls n) ≡ Some v → (first ls n ≡ Some v → value ρ g n ≡ Some v)
          → value ρ g n ≡ Some v
      go true q e ih = else_is l.val (first ls n) v e (λ z. ap (value ρ g) (sym (eqb-true l.id n q)) ∙ r.0.means v z) ih
      go false q e ih = ih e

  -- what an id handed in stands for is its node's value
  handed_is : (g : List ℕ) (ls : List Line) → AllRight ρ g ls → (n : ℕ) → Covers (handed ρ g ls n).val (value ρ g n)
  handed_is g ls r n v e = else_is (first ls n) (value ρ g n) v e (λ z. first_is g ls r n v z) (λ z. z)

-- ---- what a request means goes on where more is defined

request_covers : (ρ : Env) (q : Request) (f h : ℕ → Operand) → ((n : ℕ) → Covers (f n).val (h n).val) → Covers (request_means ρ f q) (request_means ρ h q)
request_covers ρ (asks.constant t v) f h c = λ x e. e
request_covers ρ (asks.input i t r) f h c = λ x e. e
request_covers ρ (asks.effect i t) f h c = λ x e. e
request_covers ρ (asks.unary t o v) f h c = then_covers (f v).val (h v).val _ (c v)
request_covers ρ (asks.binary t o l r) f h c = binary_covers t o (f l).val (f r).val (h l).val (h r).val (c l) (c r)
request_covers ρ (asks.slice v o w) f h c = then_covers (f v).val (h v).val _ (c v)
request_covers ρ (asks.concat a b v w) f h c = concat_covers (ty.Bits w) v (f a).val (f b).val (h a).val (h b).val (c a) (c b)
request_covers ρ (asks.unsigned_range v low high) f h c = then_covers (f v).val (h v).val _ (c v)
request_covers ρ (asks.guard n e) f h c = λ x e. e
request_covers ρ (asks.unnamed ws is) f h c = λ x e. e

-- ---- the table of calls is that of stored nodes

shift_stored : (a b t : ScalarType) → binary_typed bi.ShiftLeft a b t ≡ true → stored_typed bi.ShiftLeft a b t ≡ true
shift_stored a b t e = search (arith, tests, same_type_lem, shiftable, le-leb, le_refl)

table_stored : (o : Binary) (a b t : ScalarType) → binary_typed o a b t ≡ true → stored_typed o a b t ≡ true
table_stored o a b t e = by (same_binary o bi.ShiftLeft) refl
  where
    by : (z : Bool) → same_binary o bi.ShiftLeft ≡ z → cond z (shiftable a t && is_number b) (binary_typed o a b t) ≡ true
    by true q = shift_stored a b t (subst (λ (p : Binary). binary_typed p a b t ≡ true) (binary_is o bi.ShiftLeft q) e)
    by false q = e

-- ---- an insertion answers a node, or that there is no room

abbrev IsPut : Reply → Type 0
IsPut (graph.id n) = Unit {0}
IsPut graph.nothing = ⊥
IsPut graph.room = Unit {0}
IsPut graph.units = ⊥

inserted-put : (g : List ℕ) (t : ScalarType) (r : Option Interval) (o : Op) → IsPut (inserted g t r o).answer
unfolding inserted
inserted-put g t r o = by (interned g o (words_of t r o))
  where
    new : (b : Bool) → ltb (count_of g) LIMIT ≡ b → IsPut (appended g (words_of t r o)).answer
    new true e = rw (appended_made g (words_of t r o) (ltb-true (count_of g) LIMIT e)) tt
    new false e = rw (appended_full g (words_of t r o) e) tt

    by : (x : Option ℕ) → IsPut (found_or g x (appended g (words_of t r o))).answer
    by None = new (ltb (count_of g) LIMIT) refl
    by (Some n) = tt

-- ---- one call

-- the invariant, and every line right, where the conditions are met
abbrev pub Fine : Env → State → Type 0
Fine ρ s = Inv (At ρ s.book.conditions) s.graph × (AllMet ρ s.book.conditions → AllRight ρ s.graph s.book.lines)

module _ (ρ : Env) (s : State) (i : Inv (At ρ s.book.conditions) s.graph) (r : AllMet ρ s.book.conditions → AllRight ρ s.graph s.book.lines) where
  abbrev here : World
  here = At ρ s.book.conditions

  module _ (v : Option ℕ) (cs : List Condition) where
    abbrev After : Called → Type 0
    After c = Fine ρ (called c v cs s.book)

    refused_fine : (k : Refusal) → After (refusal s.graph k)
    refused_fine k = (i, r)

    -- a call that answers a node
    id_fine : (t : ScalarType) (w : Option ℕ) (n : ℕ) (h : List ℕ) → Answered (At ρ (cs ++ s.book.conditions)) s.graph t w (graph.id n) h
        → (AllMet ρ (cs ++ s.book.conditions) → Covers v w) → After (calls.called (calls.id n) h)
    id_fine t w n h k c = search (arith, lines_more, lines_ext, met_rest)

  -- what a builder's answer and words are to the caller
  abbrev Settled : Reply → List ℕ → Called
  Settled a h = finished s.graph (calls.called (settled no.Room a) h)

  answered_fine : (v : Option ℕ) (t : ScalarType) (w : Option ℕ) (a : Reply) (h : List ℕ) → Answered here s.graph t w a h
      → (AllMet ρ s.book.conditions → Covers v w) → After v [] (Settled a h)
  answered_fine v t w (graph.id n) h k c = id_fine v [] t w n h k c
  answered_fine v t w graph.nothing h k c = (k.inv, λ m. lines_ext ρ k.grows s.book.lines (r m))
  answered_fine v t w graph.room h k c = (i, r)
  answered_fine v t w graph.units h k c = (i, r)

  ended_fine : (v : Option ℕ) (t : ScalarType) (w : Option ℕ) (o : Out) → Tree.Ends here s.graph t w o → (AllMet ρ s.book.conditions → Covers v w)
      → After v [] (finished s.graph (builder_out no.Room o))
  ended_fine v t w (out a u h) k c = answered_fine v t w a h k c

  -- ---- leaves

  -- a leaf, whose node may be stored
  leaf_fine : (t : ScalarType) (a : Option Interval) (o : Op) (v : Option ℕ) (cs : List Condition) → Storable (At ρ (cs ++ s.book.conditions)) s.graph t a o
      → Covers v (operation_means here t o (operand ρ s.graph))
      → After v cs (Settled (inserted s.graph t a o).answer (inserted s.graph t a o).words)
  leaf_fine t a o v cs storable c =
      by (inserted s.graph t a o).answer (inserted s.graph t a o).words (inserted-put s.graph t a o)
      (insert_good (At ρ (cs ++ s.book.conditions)) s.graph t a o (weaken ρ s.book.conditions (cs ++ s.book.conditions) (met_rest ρ cs s.book.conditions) i) storable)
    where
      by : (x : Reply) (h : List ℕ) → IsPut x
          → Answered (At ρ (cs ++ s.book.conditions)) s.graph t (operation_means here t o (operand ρ s.graph)) x h → After v cs (Settled x h)
      by (graph.id n) h p k = id_fine v cs t (operation_means here t o (operand ρ s.graph)) n h k (λ m. c)
      by graph.nothing h p k = absurd p
      by graph.room h p k = (i, r)
      by graph.units h p k = absurd p

  number : (t : ScalarType) (x : ℕ) → x < 2 ^ 128 → is_bool_value t x ≡ true → reduced t x < size t
  number ty.Bool x l e = ltb-true x 2 e
  number (ty.Bits w) x l e = mod-lt x (pow_pos w)
  number ty.Integer x l e = l

  constant_fine : (t : ScalarType) (v : ℕ) → v < 2 ^ 128 → type_width t ≤ 128 → is_bool_value t v ≡ true
      → After (valued t v) [] (Settled (graph.constant s.graph t v).answer (graph.constant s.graph t v).words)
  unfolding graph.constant
  constant_fine t v p wide d = search (arith, number, leaf_fine, constant_storable, reduced_same)

  given_valid : (t : ScalarType) (r : Option Interval) → is_range_of t r ≡ true → (a : Interval) → or_else r (type_interval t) ≡ Some a → Valid t a
  given_valid t None d a e = type_valid t a e
  given_valid t (Some b) d a e =
      let c = tests (le_z b.low b.high) _ d in
      subst (Valid t) (some_is e) (record { full = at_most_lem b.low b.high c.0; inside = c.1 })

  input_storable : (n : ℕ) (t : ScalarType) (p : Option Interval) → ((a : Interval) → p ≡ Some a → Ends a) → type_width t ≤ 128 → is_range_of t p ≡ true
      → Storable (At ρ (input_is n t p ∷ s.book.conditions)) s.graph t (or_else p (type_interval t)) (node.input n)
  input_storable n t p bounded wide d =
      let ends = each_else Ends p bounded (type-ends t) in
      record {
        stored = stored_of wide ends (omega arith) (omega arith);
        width = wide;
        below = omega arith;
        offset = omega arith;
        parameter = omega arith;
        valid = given_valid t p d;
        typed = tt;
        refined = λ m. tt;
        ends = ends;
        within = λ m v e.
            let (q, l) = typed_is t (ρ.input n) v e in
            let l : ρ.input n < size t = subst (λ (x : ℕ). x < size t) q l in
            subst (λ (x : ℕ). Within t x (or_else p (type_interval t))) (sym q)
            (each_else (λ (a : Interval). (integer_of t (ρ.input n)) ∈ a) p m.0.1 (type-within t (ρ.input n) l));
      }

  effect_storable : (n : ℕ) (t : ScalarType) → type_width t ≤ 128 → Storable (At ρ (effect_is n t ∷ s.book.conditions)) s.graph t (type_interval t) (node.effect n)
  effect_storable n t wide = record {
    stored = stored_of wide (type-ends t) (omega arith) (omega arith);
    width = wide;
    below = omega arith;
    offset = omega arith;
    parameter = omega arith;
    valid = type_valid t;
    typed = tt;
    refined = λ m. tt;
    ends = type-ends t;
    within = λ m v e. type-within t v (typed_is t (ρ.effect n) v e).1;
  }

  -- ---- guards

  -- what a guard leaves: the lines as they were, in a graph that goes on
  guarded_fine : (cs : List Condition) (o : Outcome) (h : List ℕ) → Kept (At ρ (cs ++ s.book.conditions)) s.graph h
      → After None cs (finished s.graph (guard_out no.Room s.graph o h))
  guarded_fine cs refine.unchanged h k = (k.inv, λ m. lines_ext ρ k.grows s.book.lines (r (met_rest ρ cs s.book.conditions m)))
  guarded_fine cs refine.narrowed h k = (k.inv, λ m. lines_ext ρ k.grows s.book.lines (r (met_rest ρ cs s.book.conditions m)))
  guarded_fine cs refine.full h k = (i, r)

  -- ---- requests

  -- one id, and two, below the count
  one_below : (n : ℕ) → all_below (count_of s.graph) (n ∷ []) ≡ true → n < count_of s.graph
  one_below n b = ltb-true n (count_of s.graph) (tests (ltb n (count_of s.graph)) true b).0

  two_below : (n m : ℕ) → all_below (count_of s.graph) (n ∷ m ∷ []) ≡ true → (n < count_of s.graph) × (m < count_of s.graph)
  two_below n m b =
      let p = tests (ltb n (count_of s.graph)) _ b in
      (ltb-true n (count_of s.graph) p.0, one_below m p.1)

  -- one width, and two, of at most the widest
  one_width : (n : ℕ) → all_up_to WIDEST (n ∷ []) ≡ true → n ≤ WIDEST
  one_width n b = leb-true n WIDEST (tests (leb n WIDEST) true b).0

  two_widths : (n m : ℕ) → all_up_to WIDEST (n ∷ m ∷ []) ≡ true → (n ≤ WIDEST) × (m ≤ WIDEST)
  two_widths n m b =
      let p = tests (leb n WIDEST) _ b in
      (leb-true n WIDEST p.0, one_width m p.1)

  module _ (builds : Sound here build.build)
      (tested : (v low high : ℕ) → v < count_of s.graph
      → Tree.Ends here s.graph ty.Bool (request_means ρ (operand ρ s.graph) (asks.unsigned_range v low high)) (build.unsigned_range v low high UNITS s.graph)) where
    abbrev look : ℕ → Operand
    look = handed ρ s.graph s.book.lines

    -- what the work on a request leaves
    Worked : Request → Type 0
    Worked q = After (request_means ρ look q) (request_conditions look q) (finished s.graph (worked no.Room s.graph q))

    covers : (q : Request) → AllMet ρ s.book.conditions → Covers (request_means ρ look q) (request_means ρ (operand ρ s.graph) q)
    covers q m = request_covers ρ q look (operand ρ s.graph) (handed_is ρ s.graph s.book.lines (r m))

    built_fine : (q : Request) (t : ScalarType) (o : Out) → Tree.Ends here s.graph t (request_means ρ (operand ρ s.graph) q) o
        → After (request_means ρ look q) [] (finished s.graph (builder_out no.Room o))
    built_fine q t o k = ended_fine (request_means ρ look q) t (request_means ρ (operand ρ s.graph) q) o k (covers q)

    -- once its questions are answered yes
    worked_fine : (q : Request) → Pattern q → all_up_to WIDEST (widths q) ≡ true → all_below (count_of s.graph) (ids q) ≡ true → typed s.graph q ≡ true
        → declarable q ≡ true → Worked q
    unfolding Worked worked graph.input graph.effect
    worked_fine (asks.constant t v) p a b c d = constant_fine t v p (one_width (type_width t) a) d
    worked_fine (asks.input n t x) p a b c d =
        leaf_fine t (or_else x (type_interval t)) (node.input n) (of_type t (ρ.input n)) (input_is n t x ∷ []) (input_storable n t x p (one_width (type_width t) a) d) (λ v q. q)
    worked_fine (asks.effect n t) p a b c d =
        leaf_fine t (type_interval t) (node.effect n) (of_type t (ρ.effect n)) (effect_is n t ∷ []) (effect_storable n t (one_width (type_width t) a)) (λ v q. q)
    worked_fine (asks.unary t o v) p a b c d =
        let w = two_widths (type_width t) (unary_width o) a in
        built_fine (asks.unary t o v) t (build.build (build.unary t o v) UNITS s.graph)
        (builds (build.unary t o v) UNITS s.graph i (w.0, w.1, one_below v b, c))
    worked_fine (asks.binary t o l d) p a b c e =
        let k = two_below l d b in
        built_fine (asks.binary t o l d) t (build.build (build.binary t o l d) UNITS s.graph)
        (builds (build.binary t o l d) UNITS s.graph i (one_width (type_width t) a, k.0, k.1, table_stored o (type_at s.graph l) (type_at s.graph d) t c))
    worked_fine (asks.slice v o w) p a b c d =
        built_fine (asks.slice v o w) (ty.Bits w) (build.build (build.slice v o w) UNITS s.graph)
        (builds (build.slice v o w) UNITS s.graph i (one_width w a, one_below v b))
    worked_fine (asks.concat h l v w) p a b c d =
        let k = two_below h l b in
        let m = two_widths v w a in
        built_fine (asks.concat h l v w) (ty.Bits w) (build.build (build.concat h l v w) UNITS s.graph)
        (builds (build.concat h l v w) UNITS s.graph i (m.0, m.1, k.0, k.1, c))
    worked_fine (asks.unsigned_range v low high) p a b c d =
        built_fine (asks.unsigned_range v low high) ty.Bool (build.unsigned_range v low high UNITS s.graph) (tested v low high (one_below v b))
    worked_fine (asks.guard n e) p a b c d =
        let cs = holds (look n).val e ∷ [] in
        guarded_fine cs (assumed_guard s.graph n e).outcome (assumed_guard s.graph n e).words
        (assumed_kept (weaken ρ s.book.conditions (cs ++ s.book.conditions) (λ m. m.1) i) n e (one_below n b)
        (same_type_lem (type_at s.graph n) ty.Bool c)
        (λ m. handed_is ρ s.graph s.book.lines (r m.1) n (from_bool e) m.0))
    worked_fine (asks.unnamed ws is) p a b c d = absurd (false≢true c)

    request_fine : (q : Request) → Pattern q → Fine ρ (acted ρ q s)
    unfolding Worked request_call request_in_graph performed
    request_fine q p =
        let v = request_means ρ look q in
        let cs = request_conditions look q in
        by_test (After v cs) (is_graph s.graph)
        (λ e.
        by_test (After v cs) (all_up_to WIDEST (widths q))
        (λ a.
        by_test (After v cs) (all_below (count_of s.graph) (ids q))
        (λ b.
        by_test (After v cs) (typed s.graph q)
        (λ c.
        by_test (After v cs) (declarable q) (λ d. worked_fine q p a b c d)
        (λ d. refused_fine v cs no.Value))
        (λ c. refused_fine v cs no.Typing))
        (λ b. refused_fine v cs no.Id))
        (λ a. refused_fine v cs no.Width))
        (λ e. refused_fine v cs no.Graph)

  -- ---- retain

  struck_right : (keep mapping : List ℕ) → is_keep_list s.graph keep mapping ≡ true → (ls : List Line) → AllRight ρ s.graph ls
      → AllRight ρ (retained s.graph keep) (struck keep ls)
  struck_right keep mapping c [] d = tt
  struck_right keep mapping c (l ∷ ls) d = go (keeps keep l.id) refl (struck_right keep mapping c ls d.1)
    where
      f : KeepList s.graph keep mapping
      f = keep_list_facts s.graph keep mapping c

      go : (b : Bool) → keeps keep l.id ≡ b → AllRight ρ (retained s.graph keep) (struck keep ls)
          → AllRight ρ (retained s.graph keep) (cond b (record { id = renumbered keep l.id; val = l.val } ∷ struck keep ls) (struck keep ls))
      go true q ih =
          let n = sym (below_renumbered keep l.id) in
          let k = kept_same keep l.id ∙ q in (
            record {
              here = rw n (kept_here here i f l.id d.0.here k);
              means = λ v e. ap (value ρ (retained s.graph keep)) n ∙ retain-value here i f l.id d.0.here k ∙ d.0.means v e;
            },
            ih,
          )
      go false k ih = ih

  retain_fine : (keep mapping : List ℕ) → is_graph s.graph ≡ true → Fine ρ (kept (retain_in_graph s.graph keep mapping) keep s.book)
  unfolding retain_in_graph
  retain_fine keep mapping e =
      by_test (λ k. Fine ρ (kept k keep s.book)) (is_keep_list s.graph keep mapping)
      (λ c. (retain_inv here i (keep_list_facts s.graph keep mapping c), λ m. struck_right keep mapping c s.book.lines (r m)))
      (λ c. (i, r))

-- ---- a graph with its marks

-- the graph and the book at mark k
abbrev pub state_at : History → ℕ → State
state_at h k = record { graph = returned h.now.graph h.marks k; book = get_or h.books k blank }

-- now and at each mark that stands: the invariant, and every line right where the conditions of that book are met
pub record Whole (ρ : Env) (h : History) : Type 0 where
  pub now : Fine ρ h.now
  pub marks : Marks (count_of h.now.graph) h.marks
  pub standing : standing h.marks ≡ length h.books
  pub then : (k : ℕ) → k < length h.books → Fine ρ (state_at h k)

-- a fine state with another graph and book that are equal to its own
fine_same : (ρ : Env) {g h : List ℕ} {a b : Book} → g ≡ h → a ≡ b → Fine ρ (record { graph = h; book = b }) → Fine ρ (record { graph = g; book = a })
fine_same ρ {g} {h} {a} {b} p q f =
    let e : ◌≡◌ {A = State} (record { graph = g; book = a }) (record { graph = h; book = b }) = λ i. record { graph = p i; book = q i } in
    subst (λ (s : State). Fine ρ s) (sym e) f

module _ (ρ : Env) (h : History) (w : Whole ρ h) where
  abbrev g : List ℕ
  g = h.now.graph

  abbrev m : List ℕ
  m = h.marks

  is_it : is_graph g ≡ true
  is_it = w.now.0.graph

  f : Graph g
  f = graph_facts g is_it

  both : is_marked g m ≡ true
  both = both_marked g m is_it (facts_marks (count_of g) m w.marks)

  stands : (k : ℕ) → k < length h.books → k < standing m
  stands k l = omega (arith, w.standing)

  -- a request
  request_whole : (s : State) → Fine ρ s → Same (count_of g) g s.graph → Whole ρ (record { now = s; marks = m; books = h.books })
  request_whole s fine same = search (arith, kept_marks, f, fine_same, kept_returned, stands)

  -- a mark
  set_whole : standing m < MOST → Whole ρ (record { now = h.now; marks = marked g m (standing m); books = h.books ++ (h.now.book ∷ []) })
  set_whole room = record {
    now = w.now;
    marks = marked-marks g m f w.marks room;
    standing = marked-standing g m (standing m) f w.marks.length room ∙ omega (arith, w.standing, more);
    then = λ k l.
        ⊎_elim
        (λ (p : k < length h.books).
        fine_same ρ (marked_earlier g m f w.marks room k (stands k p)) (get_or-append h.books (h.now.book ∷ []) blank k p) (w.then k p))
        (λ (p : length h.books ≤ k).
        let e : standing m ≡ k = omega (arith, w.standing, more) in
        subst (λ (j : ℕ). Fine ρ (record { graph = returned g (marked g m (standing m)) j; book = get_or (h.books ++ (h.now.book ∷ [])) j blank })) e
        (fine_same ρ (marked-returned g m f w.marks room g (same_self g f)) last w.now))
        (lt-or-ge k (length h.books));
  }
    where
      more : length (h.books ++ (h.now.book ∷ [])) ≡ length h.books + 1
      more = length-append h.books (h.now.book ∷ [])

      last : get_or (h.books ++ (h.now.book ∷ [])) (standing m) blank ≡ h.now.book
      last =
          let e : standing m ≡ length h.books + 0 = omega (arith, w.standing) in
          ap (λ (j : ℕ). get_or (h.books ++ (h.now.book ∷ [])) j blank) e ∙ get_or-append-add h.books (h.now.book ∷ []) 0 blank

  mark_whole : Whole ρ (act ρ mark h)
  unfolding mark_call mark_in_graph
  mark_whole =
      by_test (λ (c : Marking). Whole ρ (marked_by c h)) (is_marked g m)
      (λ e. by_test (λ (c : Marking). Whole ρ (marked_by c h)) (ltb (standing m) MOST) (λ l. set_whole (ltb-true (standing m) MOST l)) (λ l. w))
      (λ e. w)

  -- a return
  back_whole : (k : ℕ) → k < standing m
      → Whole ρ (record { now = state_at h k; marks = standing_only (k + 1) m; books = take (suc k) h.books })
  back_whole k l = record {
    now = w.then k here;
    marks = returned-marks g m f w.marks k l;
    standing = standing_is (k + 1) m w.marks.length ∙ omega (arith, less);
    then = λ j p.
        let q : j < suc k = omega (arith, less) in
        fine_same ρ (returned_earlier g m f w.marks k l j (omega arith)) (get_or-take (suc k) h.books j blank q) (w.then j (omega (arith, here)));
  }
    where
      here : k < length h.books
      here = omega (arith, l, w.standing)

      less : length (take (suc k) h.books) ≡ suc k
      less = length-take-le (suc k) h.books (omega (arith, here))

  return_whole : (k : ℕ) → Whole ρ (act ρ (return_to k) h)
  unfolding return_call return_in_graph
  return_whole k =
      by_test (λ (c : Returning). Whole ρ (returned_by c k h)) (is_marked g m)
      (λ e. by_test (λ (c : Returning). Whole ρ (returned_by c k h)) (ltb k (standing m)) (λ l. back_whole k (ltb-true k (standing m) l)) (λ l. w))
      (λ e. w)

  -- a retain
  kept_whole : (r : Retention) (keep : List ℕ) → Fine ρ (kept r keep h.now.book) → (r.words ≡ g) ⊎ ((n : ℕ) × (r.outcome ≡ retaining.kept n))
      → Whole ρ (retained_by (marks.retaining r (unmarked r.outcome m)) keep h)
  kept_whole r keep fine = by r.outcome fine
    where
      dropped : (s : State) → Fine ρ s → Whole ρ (record { now = s; marks = standing_only 0 m; books = [] })
      dropped s fine = record {
        now = fine;
        marks = none-marks (count_of s.graph) (standing_only 0 m) (standing-length 0 m ∙ w.marks.length) (standing_is 0 m w.marks.length);
        standing = standing_is 0 m w.marks.length;
        then = λ k l. absurd (omega arith);
      }

      by : (o : retaining.Outcome) → Fine ρ (record { graph = r.words; book = retains o keep h.now.book }) → (r.words ≡ g) ⊎ ((n : ℕ) × (o ≡ retaining.kept n))
          → Whole ρ (record { now = record { graph = r.words; book = retains o keep h.now.book }; marks = unmarked o m; books = drops_all o h.books })
      by (retaining.kept n) fine c = dropped (record { graph = r.words; book = record { lines = struck keep h.now.book.lines; conditions = h.now.book.conditions } }) fine
      by (retaining.refused a) fine (inl e) = request_whole (record { graph = r.words; book = h.now.book }) fine (subst (Same (count_of g) g) (sym e) (same_self g f))
      by (retaining.refused a) fine (inr (n, e)) = let z : ◌≡◌ {A = ℕ} 0 1 = cc in absurd (omega arith)

  in_graph : (keep mapping : List ℕ)
      → ((retain_in_graph g keep mapping).words ≡ g) ⊎ ((n : ℕ) × ((retain_in_graph g keep mapping).outcome ≡ retaining.kept n))
  unfolding retain_in_graph
  in_graph keep mapping =
      by_test (λ (r : Retention). (r.words ≡ g) ⊎ ((n : ℕ) × (r.outcome ≡ retaining.kept n))) (is_keep_list g keep mapping)
      (λ c. inr (kept_below keep (count_of g), refl)) (λ c. inl refl)

  retain_whole : (keep mapping : List ℕ) → Whole ρ (act ρ (retain keep mapping) h)
  unfolding marks.retain_call marks.retain_in_graph
  retain_whole keep mapping =
      by_test (λ (c : Retaining). Whole ρ (retained_by c keep h)) (is_marked g m)
      (λ e. kept_whole (retain_in_graph g keep mapping) keep (retain_fine ρ h.now w.now.0 w.now.1 keep mapping is_it) (in_graph keep mapping))
      (λ e. w)

-- ---- every list of calls

module _ (builds : (w : World) → Sound w build.build)
    (tested : (w : World) (g : List ℕ) → Inv w g → (v low high : ℕ) → v < count_of g
    → Tree.Ends w g ty.Bool (request_means w.env (operand w.env g) (asks.unsigned_range v low high)) (build.unsigned_range v low high UNITS g)) (ρ : Env) where
  acted_fine : (q : Request) → Pattern q → (s : State) → Fine ρ s → Fine ρ (acted ρ q s)
  acted_fine q p s k = request_fine ρ s k.0 k.1 (builds (At ρ s.book.conditions)) (tested (At ρ s.book.conditions) s.graph k.0) q p

  -- guards one after the other: what they are answered, and, if none is refused, what they leave
  abbrev Turns : List ℕ → List ℕ → State → Called → Type 0
  Turns cs es s c = (c.answer ≡ answered_singly ρ (singles cs es) s)
      × (is_refused c.answer ≡ false
      → (c.answer ≡ calls.done) × Fine ρ (singly ρ (singles cs es) s) × ((singly ρ (singles cs es) s).graph ≡ c.words))

  turns_fine : (cs es : List ℕ) (s : State) → Fine ρ s → Turns cs es s (in_turn s.graph (guards_of cs es))
  unfolding request_call
  turns_fine [] es s k = (refl, λ n. (refl, k, refl))
  turns_fine (c ∷ cs) [] s k = (refl, λ n. (refl, k, refl))
  turns_fine (c ∷ cs) (e ∷ es) s k = by (turns_fine cs es) (request_in_graph s.graph q).answer refl
    where
      q : Request
      q = asks.guard c (eqb e 1)

      t : State
      t = acted ρ q s

      asked : request_call s.graph q ≡ request_in_graph s.graph q
      asked = rw k.0.graph

      same : t.graph ≡ (request_in_graph s.graph q).words
      same = ap (λ (x : Called). x.words) asked

      on : ((u : State) → Fine ρ u → Turns cs es u (in_turn u.graph (guards_of cs es)))
          → Turns cs es t (in_turn (request_in_graph s.graph q).words (guards_of cs es))
      on rest = subst (λ (w : List ℕ). Turns cs es t (in_turn w (guards_of cs es))) same (rest t (acted_fine q tt s k))

      first : (a : Response) → (request_in_graph s.graph q).answer ≡ a
          → refused_or (request_call s.graph q).answer (answered_singly ρ (singles cs es) t) ≡ refused_or a (answered_singly ρ (singles cs es) t)
      first a z = ap (λ (b : Response). refused_or b (answered_singly ρ (singles cs es) t)) (ap (λ (x : Called). x.answer) asked ∙ z)

      by : ((u : State) → Fine ρ u → Turns cs es u (in_turn u.graph (guards_of cs es))) → (a : Response) → (request_in_graph s.graph q).answer ≡ a
          → Turns (c ∷ cs) (e ∷ es) s (cond (is_refused a) (request_in_graph s.graph q) (in_turn (request_in_graph s.graph q).words (guards_of cs es)))
      by rest (calls.refused r) z = (z ∙ sym (first (calls.refused r) z), λ n. absurd (false≢true (sym n ∙ ap is_refused z)))
      by rest (calls.id n) z = let r = on rest in (r.0 ∙ sym (first (calls.id n) z), r.1)
      by rest calls.nothing z = let r = on rest in (r.0 ∙ sym (first calls.nothing z), r.1)
      by rest calls.done z = let r = on rest in (r.0 ∙ sym (first calls.done z), r.1)

  -- a list of guards
  abbrev pub Listed : List ℕ → List ℕ → State → Called → Type 0
  Listed cs es s c = (Takeable cs es → c.answer ≡ answered_singly ρ (singles cs es) s)
      × ((Takeable cs es → ⊥) → c.answer ≡ calls.refused no.Guards)
      × (c.answer ≡ calls.done → listed c (singly ρ (singles cs es) s).book s.book ≡ singly ρ (singles cs es) s)
      × ((r : Refusal) → c.answer ≡ calls.refused r → listed c (singly ρ (singles cs es) s).book s.book ≡ s)
      × Fine ρ (listed c (singly ρ (singles cs es) s).book s.book)

  done_not : (r : Refusal) → calls.done ≡ calls.refused r → ⊥
  done_not r e = false≢true (ap is_refused e)

  pub guards_are : (cs es : List ℕ) (s : State) → Fine ρ s → Listed cs es s (guards_call s.graph cs es)
  unfolding guards_call guards_in_graph
  guards_are cs es s k =
      by_test (Listed cs es s) (is_graph s.graph)
      (λ e. by_test (Listed cs es s) (is_guard_list cs es)
      (λ l. last (list_parts cs es l) c.answer refl)
      (λ l. (λ p. absurd (false≢true (sym l ∙ parts_list cs es p.0 p.1 p.2)), λ n. refl, λ e. absurd (done_not no.Guards (sym e)), λ r e. refl, k)))
      (λ e. absurd (false≢true (sym e ∙ k.0.graph)))
    where
      end : State
      end = singly ρ (singles cs es) s

      c : Called
      c = in_turn s.graph (guards_of cs es)

      r : Turns cs es s c
      r = turns_fine cs es s k

      other : (a : Response) → c.answer ≡ a → is_refused a ≡ false → a ≡ calls.done
      other a z n = sym z ∙ (r.1 (ap is_refused z ∙ n)).0

      done : Takeable cs es → c.answer ≡ calls.done → Listed cs es s (calls.called calls.done c.words)
      done p z =
          let t = r.1 (ap is_refused z) in
          let e : ◌≡◌ {A = State} (record { graph = c.words; book = end.book }) end = λ i. record { graph = sym t.2 i; book = end.book } in
          (λ l. sym z ∙ r.0, λ n. absurd (n p), λ q. e, λ q w. absurd (done_not q w), subst (Fine ρ) (sym e) t.1)

      -- no other answer is one
      done_only : Takeable cs es → (a : Response) → c.answer ≡ a → is_refused a ≡ false → Listed cs es s (calls.called a c.words)
      done_only p a z n =
          let e = other a z n in
          subst (λ (b : Response). Listed cs es s (calls.called b c.words)) (sym e) (done p (z ∙ e))

      last : Takeable cs es → (a : Response) → c.answer ≡ a → Listed cs es s (calls.called a (cond (is_refused a) s.graph c.words))
      last p (calls.refused q) z = (λ l. sym z ∙ r.0, λ n. absurd (n p), λ w. absurd (done_not q (sym w)), λ q w. refl, k)
      last p (calls.id n) z = done_only p (calls.id n) z refl
      last p calls.nothing z = done_only p calls.nothing z refl
      last p calls.done z = done_only p calls.done z refl

  act_whole : (a : Action) (h : History) → Whole ρ h → Whole ρ (act ρ a h)
  act_whole (request q) h w =
      request_whole ρ h w (acted ρ (patterned q) h.now) (acted_fine (patterned q) (patterned_is q) h.now w.now)
      (request_same h.now.graph (patterned q) w.now.0.graph)
  act_whole (retain keep mapping) h w = retain_whole ρ h w keep mapping
  act_whole mark h w = mark_whole ρ h w
  act_whole (return_to k) h w = return_whole ρ h w k
  act_whole (guards cs es) h w =
      request_whole ρ h w (acted_guards ρ cs es h.now) (guards_are cs es h.now w.now).4 (guards_same h.now.graph cs es w.now.0.graph)

  empty_inv : Inv (At ρ []) (replicate REGION 0)
  empty_inv = search (arith, empty_graph)

  pub play_whole : (m : List ℕ) → Unmarked m → (calls : List Action) → Whole ρ (play ρ m calls)
  unfolding play
  play_whole m u [] = record {
    now = (empty_inv, λ m. tt);
    marks = none-marks (count_of (replicate REGION 0)) m u.0 u.1;
    standing = u.1;
    then = λ k l. absurd (omega arith);
  }
  play_whole m u (a ∷ before) = act_whole a (play ρ m before) (play_whole m u before)

-- A slice of a node: slice's plans claim what is asked of them. Assumes nothing.
use mathlib.Core.Path.{◌≡◌, refl, sym, ap, ◌∙◌, subst}
use mathlib.Core.Bool.{Bool, true, false, false≢true, ◌&&◌, ◌||◌}
use mathlib.Core.List.{List}
use mathlib.Core.Logic.{⊎_elim}
use Rattle.std.specs.Prelude.{Option, None, Some}
use Prim.Native.Nat.{ℕ, ◌+◌, ◌-◌, ◌*◌, ◌/◌, ◌%◌, ◌^◌, ◌≤◌, ◌<◌}
use native.Mathlib.Nat.{mod-lt, mod-eq_of_lt, div-one, lt_of_lt_of_le}
use native.Mathlib.Omega.{arith}
use borrow.Author.Tests.{eqb-true, eq-eqb, leb-true, leb-false, ltb-false, le-leb}
use lib.Arith.{digits_lt}
use lib.Dec.{eqb, ltb, leb}
use lib.IntN.{ℤ, pos, negsuc}
use lib.Pow.{pow-add, pow_pos, pow_mono, shr_mono}
use lib.Signed.{mag, ◌≤ℤ◌}
use Rattle.word.specs.Value.{residue}
use Rattle.word.specs.Option.{given}
use Rattle.word.proofs.Integer.{residue-pos}
use Rattle.word.proofs.Shifts.{right_all}
use Rattle.range.specs.Interval.{Interval, nonnegative, inside_bits}
use Rattle.range.specs.declared.ScalarType.{ScalarType}
use Rattle.range.specs.declared.ScalarType.TheVariants as ty
use Rattle.range.proofs.Order.{le_parts}
use Rattle.range.proofs.Sound.{tests, either}
use Rattle.range.proofs.Answers.{some_is}
use Rattle.range.proofs.Valid.{type_valid}
use Rattle.evaluate.specs.Operator.{type_width}
use Rattle.graph.specs.Layout.{count_of}
use Rattle.graph.specs.Node as node
use Rattle.graph.specs.Node.{Op, type_at, range_at, operation_at}
use Rattle.graph.specs.Insert.{literal}
use Rattle.fold.specs.Shape.{same_type}
use Rattle.bitfield.specs.Bitfield.{above}
use Rattle.plan.specs.Plan as plan
use Rattle.plan.specs.Plan.{Plan}
use Rattle.plan_slice.specs.Slice.{lowered, bounded_plan, new_slice, slice_concat, slice_operation, slice_part, slice_plan, slice_first}
use Rattle.build.specs.Rest.{rest_plan}
use Rattle.bit_laws.proofs.Slices.{slice-slice, slice_high, slice_low, slice_split}
use Rattle.meaning.specs.Value.{size, valued, and_then, slice_means, concat_means}
use Rattle.meaning.proofs.Worlds.{World, operand, value}
use Rattle.meaning.proofs.Values.{typed_is, then_is, means_small}
use Rattle.meaning.proofs.Answers.{by_test, by_provided, by_given}
use Rattle.meaning.proofs.Invariant.{Inv, inv_width, ext_here, ext_value, Kept}
use Rattle.meaning.proofs.Constants.{valued_same, stored_of, low_valued}
use Rattle.meaning.proofs.Plans.{Covers, Claim, FirstClaim, bits_number}
use Rattle.meaning.proofs.Views.{same_type_lem, value_small, value_pattern, any_within}
use Rattle.meaning.proofs.Ranges.{type-within, type-ends}
use Rattle.meaning.proofs.Field.{means_at, below_at, typed_at, literal-value, sides}

-- ---- bits of numbers

low_is : (w x v : ℕ) → valued (ty.Bits w) x ≡ Some v → v ≡ x % 2 ^ w
low_is w x v e = (typed_is (ty.Bits w) (x % 2 ^ w) v e).0

at_zero : (x o : ℕ) → o ≡ 0 → x / 2 ^ o ≡ x
at_zero x o e = ap (λ (k : ℕ). x / 2 ^ k) e ∙ div-one x

-- what is lowered from a pattern is what a slice keeps
lowered_is : (x o : ℕ) → x < 2 ^ 128 → lowered x o ≡ x / 2 ^ o
lowered_is x o l =
    by_test (λ (k : ℕ). k ≡ x / 2 ^ o) (ltb o 128) (λ e. refl) (λ e. right_all 128 o x l (ltb-false o 128 e))

above_none : (t : ScalarType) (x o : ℕ) → x < size t → above t o ≡ true → x / 2 ^ o ≡ 0
above_none ty.Bool x o l e = absurd (false≢true e)
above_none (ty.Bits w) x o l e = sym (right_all w o x l (leb-true w o e))
above_none ty.Integer x o l e = absurd (false≢true e)

-- two parts side by side
parts_small : (x y v w : ℕ) → v ≤ w → x < 2 ^ (w - v) → y < 2 ^ v → x * 2 ^ v + y < 2 ^ w
parts_small x y v w h a b =
    let s : w - v + v ≡ w = omega arith in
    subst (λ (k : ℕ). x * 2 ^ v + y < 2 ^ k) s (rw (pow-add 2 (w - v) v) (digits_lt {q = x} a b))

-- ---- tests

neither : (s t : Bool) → s || t ≡ false → s ≡ false
neither true t e = e
neither false t e = refl

-- ---- what a slice asks for

slice_covers : (w o : ℕ) (a b : Option ℕ) → ((x : ℕ) → a ≡ Some x → b ≡ Some (x / 2 ^ o % 2 ^ w)) → Covers (slice_means (ty.Bits w) o a) b
slice_covers w o a b f v e =
    let p = then_is a (λ x. valued (ty.Bits w) (x / 2 ^ o)) v e in f p.0 p.1 ∙ ap Some (sym (low_is w (p.0 / 2 ^ o) v p.2))

module _ {ρ : World} {g : List ℕ} (i : Inv ρ g) (n o w : ℕ) (l : n < count_of g) (wide : w ≤ 128) where
  abbrev Asked : Plan → Type 0
  Asked p = Claim ρ g (ty.Bits w) (slice_means (ty.Bits w) o (value ρ g n)) p

  abbrev Sliced : Option ℕ → Type 0
  Sliced b = (x : ℕ) → value ρ g n ≡ Some x → b ≡ Some (x / 2 ^ o % 2 ^ w)

  -- a constant
  number_claim : (c : ℕ) → (ρ.IsSure → (x : ℕ) → value ρ g n ≡ Some x → x / 2 ^ o ≡ c) → Asked (plan.constant (ty.Bits w) c)
  number_claim c f = (
    refl,
    bits_number wide c,
    λ sure. slice_covers w o (value ρ g n) (Some (c % 2 ^ w)) (λ x m. ap (λ (k : ℕ). Some (k % 2 ^ w)) (sym (f sure x m))),
  )

  -- another slice
  tail_claim : (m p : ℕ) → m < count_of g → Sliced (slice_means (ty.Bits w) p (value ρ g m)) → Asked (plan.slice m p w)
  tail_claim m p h f = ((wide, h), refl, λ sure. slice_covers w o (value ρ g n) (slice_means (ty.Bits w) p (value ρ g m)) f)

  -- ---- by the range

  module _ (a : Interval) (e : range_at g n ≡ Some a) (up : nonnegative a ≡ true) where
    none_kept : eqb (lowered (residue 128 a.high) o) 0 ≡ true → ρ.IsSure → (x : ℕ) → value ρ g n ≡ Some x → x / 2 ^ o ≡ 0
    none_kept z sure x m =
        let small = value_pattern i n l x m in
        by a.high (eqb-true (lowered (residue 128 a.high) o) 0 z) (i.ends n l a e).high
        (any_within (type_at g n) x a small (i.ends n l a e) up (i.ranged n l sure x m a e) (ty.Bits 0)).below
      where
        by : (h : ℤ) → lowered (residue 128 h) o ≡ 0 → mag h < 2 ^ 127 → pos x ≤ℤ h → x / 2 ^ o ≡ 0
        by (pos k) z s b =
            let q : x ≤ k = omega (arith, le_parts b) in
            let r : k < 2 ^ 128 = lt_of_lt_of_le s (pow_mono {i = 127} {j = 128} (omega arith)) in
            let d : k / 2 ^ o ≡ 0 = sym (lowered_is k o r) ∙ ap (λ (j : ℕ). lowered j o) (sym (residue-pos 128 k r)) ∙ z in
            let c : x / 2 ^ o ≤ k / 2 ^ o = shr_mono o q in
            omega arith
        by (negsuc k) z s b = absurd (omega (arith, le_parts b))

  -- at offset 0, the value at Bits(w)
  start_covers : o ≡ 0 → Covers (slice_means (ty.Bits w) o (value ρ g n)) (and_then (value ρ g n) (valued (ty.Bits w)))
  start_covers z =
      slice_covers w o (value ρ g n) (and_then (value ρ g n) (valued (ty.Bits w)))
      (λ x m. rw m (low_valued w x ∙ ap (λ (k : ℕ). Some (k % 2 ^ w)) (sym (at_zero x o z))))

  bounded_claim : (r : Option Interval) → range_at g n ≡ r → (d : Plan) → Asked d → Asked (given (bounded_plan r n o w) (λ p. p) d)
  bounded_claim None e d k = k
  bounded_claim (Some a) e d k =
      by_provided Decided (nonnegative a)
      (λ up.
      by_test Decided (eqb (lowered (residue 128 a.high) o) 0) (λ z. number_claim 0 (none_kept a e up z))
      (λ z. by_provided Decided (eqb o 0 && inside_bits w a) (λ f. ((wide, l), refl, λ sure. start_covers (eqb-true o 0 (tests (eqb o 0) _ f).0))) k)) k
    where
      Decided : Option Plan → Type 0
      Decided p = Asked (given p (λ q. q) d)

  -- ---- by the operation

  new_claim : o < 128 → Asked (new_slice n o w)
  new_claim small = search (arith, stored_of, type-ends, type_valid, type-within, means_small, operand)

  inner_claim : (m p u : ℕ) → operation_at g n ≡ node.slice m p u → o + w ≤ u → Asked (plan.slice m (p + o) w)
  inner_claim m p u e f =
      tail_claim m (p + o) (let b = below_at ρ g i n l (node.slice m p u) e in omega arith)
      (λ x q.
      let t : type_at g n ≡ ty.Bits u = typed_at ρ g i n l (node.slice m p u) e in
      let s = then_is (value ρ g m) (λ y. valued (type_at g n) (y / 2 ^ p)) x (means_at ρ g i n l x q (node.slice m p u) e) in
      let d : x ≡ s.0 / 2 ^ p % 2 ^ u = low_is u (s.0 / 2 ^ p) x (ap (λ (c : ScalarType). valued c (s.0 / 2 ^ p)) (sym t) ∙ s.2) in
      rw s.1 (low_valued w (s.0 / 2 ^ (p + o)) ∙ ap Some (sym (slice-slice s.0 p u o w f) ∙ ap (λ (k : ℕ). k / 2 ^ o % 2 ^ w) (sym d))))

  -- the parts of a concat, and where they are
  record Joined (h j v : ℕ) : Type 0 where
    high : h < count_of g
    low : j < count_of g
    narrow : v ≤ 128
    parts : (x : ℕ) → value ρ g n ≡ Some x
        → (a : ℕ) × (b : ℕ) × (value ρ g h ≡ Some a) × (value ρ g j ≡ Some b) × (b < 2 ^ v) × (x ≡ a * 2 ^ v + b)

  joined : (h j v : ℕ) → operation_at g n ≡ node.concat h j v → Joined h j v
  joined h j v e =
      let t = typed_at ρ g i n l (node.concat h j v) e in
      let d = sides (type_at g h) (type_at g j) v t.0 t.2 in
      let f = below_at ρ g i n l (node.concat h j v) e in
      let lh : h < count_of g = omega arith in
      let lj : j < count_of g = omega arith in
      let u : t.0 ≤ 128 = subst (λ (c : ScalarType). type_width c ≤ 128) t.1 (inv_width i n l) in
      record {
        high = lh;
        low = lj;
        narrow = (let c = d.narrow in omega arith);
        parts = λ x q.
            let s = then_is (value ρ g h) (λ a. and_then (value ρ g j) (λ b. valued (type_at g n) (a * 2 ^ v + b))) x (means_at ρ g i n l x q (node.concat h j v) e) in
            let r = then_is (value ρ g j) (λ b. valued (type_at g n) (s.0 * 2 ^ v + b)) x s.2 in
            let sa : s.0 < 2 ^ (t.0 - v) = subst (λ (c : ScalarType). s.0 < size c) d.high (value_small i h lh s.0 s.1) in
            let sb : r.0 < 2 ^ v = subst (λ (c : ScalarType). r.0 < size c) d.low (value_small i j lj r.0 r.1) in
            let k : x ≡ (s.0 * 2 ^ v + r.0) % 2 ^ t.0 =
            low_is t.0 (s.0 * 2 ^ v + r.0) x (ap (λ (c : ScalarType). valued c (s.0 * 2 ^ v + r.0)) (sym t.1) ∙ r.2) in
            (s.0, r.0, s.1, r.1, sb, k ∙ mod-eq_of_lt (parts_small s.0 r.0 v t.0 d.narrow sa sb));
      }

  concat_claim : (h j v : ℕ) → Joined h j v → Asked (slice_concat h j v o w)
  concat_claim h j v d =
      by_test Asked (leb v o)
      (λ f.
      tail_claim h (o - v) d.high
      (λ x q.
      let (a, b, ea, eb, sb, s) = d.parts x q in
      rw ea (low_valued w (a / 2 ^ (o - v)) ∙ ap Some (sym (slice_high a b v o w sb (leb-true v o f)) ∙ ap (λ (k : ℕ). k / 2 ^ o % 2 ^ w) (sym s)))))
      (λ f.
      by_test Asked (leb (o + w) v)
      (λ c.
      tail_claim j o d.low
      (λ x q.
      let (a, b, ea, eb, sb, s) = d.parts x q in
      rw eb (low_valued w (b / 2 ^ o) ∙ ap Some (sym (slice_low a b v o w sb (leb-true (o + w) v c)) ∙ ap (λ (k : ℕ). k / 2 ^ o % 2 ^ w) (sym s)))))
      (λ c. split_claim (leb-false v o f) (leb-false (o + w) v c)))
    where
      split_claim : o < v → v < o + w → Asked (plan.split_concat j o (v - o) h (w - (v - o)) w)
      split_claim f c = (
        ((let q = d.narrow in omega arith), d.low),
        (omega arith, d.high),
        wide,
        rw (le-leb (v - o) w (omega arith), eq-eqb (w - (v - o)) (w - (v - o)) refl, eq-eqb (v - o) (v - o) refl) refl,
        refl,
        λ sure. slice_covers w o (value ρ g n)
            (concat_means (ty.Bits w) (v - o) (slice_means (ty.Bits (w - (v - o))) 0 (value ρ g h)) (slice_means (ty.Bits (v - o)) o (value ρ g j)))
            (λ x q.
            let (a, b, ea, eb, sb, s) = d.parts x q in
            (λ k. concat_means (ty.Bits w) (v - o) (slice_means (ty.Bits (w - (v - o))) 0 (ea k)) (slice_means (ty.Bits (v - o)) o (eb k)))
            ∙ (λ k. concat_means (ty.Bits w) (v - o) (low_valued (w - (v - o)) (a / 2 ^ 0) k) (low_valued (v - o) (b / 2 ^ o) k))
            ∙ ap (valued (ty.Bits w)) (sym (slice_split a b v o w sb f c))
            ∙ valued_same (ty.Bits w) ((a * 2 ^ v + b) / 2 ^ o % 2 ^ w) (mod-lt ((a * 2 ^ v + b) / 2 ^ o) (pow_pos w))
            ∙ ap (λ (k : ℕ). Some (k / 2 ^ o % 2 ^ w)) (sym s)),
      )

  operation_claim : o < 128 → (p : Op) → operation_at g n ≡ p → Asked (slice_operation p n o w)
  operation_claim s (node.constant c) e = new_claim s
  operation_claim s (node.input k) e = new_claim s
  operation_claim s (node.refine m) e = new_claim s
  operation_claim s (node.effect k) e = new_claim s
  operation_claim s (node.slice m p u) e = by_test Asked (leb (o + w) u) (λ f. inner_claim m p u e (leb-true (o + w) u f)) (λ f. new_claim s)
  operation_claim s (node.concat h j v) e = concat_claim h j v (joined h j v e)
  operation_claim s (node.unary u m) e = new_claim s
  operation_claim s (node.binary b m k) e = new_claim s

  part_claim : Asked (slice_part g n o w)
  part_claim =
      by_test Asked (leb 128 o || above (type_at g n) o)
      (λ e. number_claim 0 (λ sure x m.
      ⊎_elim (λ f. sym (right_all 128 o x (value_pattern i n l x m) (leb-true 128 o f)))
      (λ f. above_none (type_at g n) x o (value_small i n l x m) f) (either (leb 128 o) (above (type_at g n) o) e)))
      (λ e.
      by_test Asked (eqb o 0 && same_type (type_at g n) (ty.Bits w))
      (λ f.
      let c = tests (eqb o 0) (same_type (type_at g n) (ty.Bits w)) f in
      let s : type_at g n ≡ ty.Bits w = same_type_lem (type_at g n) (ty.Bits w) c.1 in
      record {
        here = l;
        type = s;
        means = λ sure. slice_covers w o (value ρ g n) (value ρ g n)
            (λ x m.
            let q : x < 2 ^ w = subst (λ (r : ScalarType). x < size r) s (value_small i n l x m) in
            m ∙ ap Some (sym (ap (λ (k : ℕ). k % 2 ^ w) (at_zero x o (eqb-true o 0 c.0)) ∙ mod-eq_of_lt q)));
      })
      (λ f. operation_claim (leb-false 128 o (neither (leb 128 o) (above (type_at g n) o) e)) (operation_at g n) refl))

  slice_plan_claim : Claim ρ g (ty.Bits w) (slice_means (ty.Bits w) o (value ρ g n)) (slice_plan g n o w)
  unfolding slice_plan
  slice_plan_claim = bounded_claim (range_at g n) refl (slice_part g n o w) part_claim

  slice-constant_claim : (c : ℕ) → literal g n ≡ Some c → Claim ρ g (ty.Bits w) (slice_means (ty.Bits w) o (value ρ g n)) (plan.constant (ty.Bits w) (lowered c o))
  slice-constant_claim c e =
      let m : value ρ g n ≡ Some c = literal-value ρ g i n c l e in
      number_claim (lowered c o)
      (λ sure x q. ap (λ (k : ℕ). k / 2 ^ o) (some_is (sym q ∙ m)) ∙ sym (lowered_is c o (value_pattern i n l c m)))

-- ---- what slice does first

module _ {ρ : World} {g : List ℕ} (i : Inv ρ g) (n o w : ℕ) (l : n < count_of g) (wide : w ≤ 128) where
  -- where it goes on
  rest_claim : (h : List ℕ) → Kept ρ g h → Claim ρ h (ty.Bits w) (slice_means (ty.Bits w) o (value ρ g n)) (slice_plan h n o w)
  rest_claim h k =
      subst (λ (a : Option ℕ). Claim ρ h (ty.Bits w) (slice_means (ty.Bits w) o a) (slice_plan h n o w)) (ext_value ρ k.grows n l)
      (slice_plan_claim k.inv n o w (ext_here k.grows n l) wide)

  pub slice_first_claim : FirstClaim ρ g (ty.Bits w) (slice_means (ty.Bits w) o (value ρ g n)) (slice_first g n o w)
  unfolding slice_first rest_plan
  slice_first_claim =
      by_given (FirstClaim ρ g (ty.Bits w) (slice_means (ty.Bits w) o (value ρ g n))) (literal g n) (slice-constant_claim i n o w l wide)
      (λ e.
      by_test (FirstClaim ρ g (ty.Bits w) (slice_means (ty.Bits w) o (value ρ g n))) (eqb o 0)
      (λ z. (((wide, l), refl, λ sure. start_covers i n o w l wide (eqb-true o 0 z)), rest_claim)) (λ z. slice_plan_claim i n o w l wide))

-- Two values side by side: concat's plans claim what is asked of them. Assumes nothing.
use mathlib.Core.Path.{◌≡◌, refl, sym, ap, ◌∙◌, subst}
use mathlib.Core.Bool.{Bool, true, false, cond, ◌&&◌, ◌||◌}
use mathlib.Core.List.{List}
use Rattle.std.specs.Prelude.{Option, None, Some}
use Prim.Native.Nat.{ℕ, zero, suc, ◌+◌, ◌-◌, ◌*◌, ◌/◌, ◌%◌, ◌^◌, ◌≤◌, ◌<◌}
use native.Mathlib.Nat.{mod-mod, mod-eq_of_lt, div-one}
use native.Mathlib.Omega.{arith}
use borrow.Author.Tests.{eqb-true, eqb-false, eq-eqb, lt-ltb}
use lib.Bits.{bit_and, bit_or, or_shifted}
use lib.Dec.{eqb, ltb, leb}
use lib.Pow.{shl_exact}
use Rattle.word.specs.Option.{only, given}
use Rattle.range.specs.Interval.{type_interval}
use Rattle.range.specs.declared.ScalarType.{ScalarType}
use Rattle.range.specs.declared.ScalarType.TheVariants as ty
use Rattle.range.proofs.Sound.{tests}
use Rattle.range.proofs.Answers.{none-some, some_is, provided_is}
use Rattle.range.proofs.Valid.{type_valid}
use Rattle.evaluate.specs.Evaluate.{binary_value}
use Rattle.evaluate.specs.declared.Unary.{Unary}
use Rattle.evaluate.specs.declared.Unary.TheVariants as un
use Rattle.evaluate.specs.declared.Binary.{Binary}
use Rattle.evaluate.specs.declared.Binary.TheVariants as bi
use Rattle.graph.specs.Layout.{count_of}
use Rattle.graph.specs.Node as node
use Rattle.graph.specs.Node.{Op, type_at, operation_at}
use Rattle.graph.specs.Insert.{start, literal}
use Rattle.fold.specs.Shape.{same_type}
use Rattle.bitfield.specs.Bitfield.{Bit, known, source, BitStep, here, from, flipped, has_bit, above, masked_bit, unary_bit, bit_of, bit_step, negated_bit, reached, DEPTH, bit_at, Field, no_bits, same_base, with_bit, concat_bit, field_from, low_fits, fold_bitfield_concat}
use Rattle.plan.specs.Plan as plan
use Rattle.plan.specs.Plan.{Plan, First, does, tries, concat_rest}
use Rattle.plan_slice.specs.Slice.{concat_plan, joined, Cut, cut_of, adjacent, field_plan, concat_field, concat_open, joined_plan, concat_first}
use Rattle.build.specs.Rest.{rest_plan}
use Rattle.build.specs.Build.{concat}
use Rattle.request.specs.Typing.{concat_typed}
use Rattle.bit_laws.proofs.Slices.{slice_high, slice_low, slice_join}
use Rattle.meaning.specs.Value.{valued, and_then, binary_means, slice_means, concat_means}
use Rattle.meaning.proofs.Worlds.{World, operand, value}
use Rattle.meaning.proofs.Values.{typed_is, then_is, means_small}
use Rattle.meaning.proofs.Compared.{mask_value}
use Rattle.meaning.proofs.Answers.{given_is, by_test, by_given}
use Rattle.meaning.proofs.Invariant.{Inv, inv_below, ext_here, ext_type, ext_value, Storable, Kept}
use Rattle.meaning.proofs.Tree.{Callable}
use Rattle.meaning.proofs.Constants.{stored_of, low_valued}
use Rattle.meaning.proofs.Plans.{Claim, FirstClaim, bits_number}
use Rattle.meaning.proofs.Ranges.{type-within, type-ends}
use Rattle.meaning.proofs.Field.{means_at, below_at, literal-value, sides, Gathers, FieldSays, high_small, low_small, field_sound}

-- ---- a new node

concat_storable : (ρ : World) (g : List ℕ) (high low v w : ℕ) → Callable g (concat high low v w)
    → Storable ρ g (ty.Bits w) (type_interval (ty.Bits w)) (node.concat high low v)
concat_storable ρ g high low v w c =
    let narrow = c.0 in
    let wide = c.1 in
    let lh = c.2 in
    let ll = c.3 in
    record {
      stored = stored_of wide (type-ends (ty.Bits w)) (omega arith) narrow;
      width = wide;
      below = omega arith;
      offset = omega arith;
      parameter = narrow;
      valid = type_valid (ty.Bits w);
      typed = (w, refl, c.4);
      refined = λ sure. tt;
      ends = type-ends (ty.Bits w);
      within = λ sure x e. type-within (ty.Bits w) x (means_small ρ.env (ty.Bits w) (node.concat high low v) (operand ρ g) x e);
    }

concat_plan_claim : (ρ : World) (g : List ℕ) (high low v w : ℕ) → Callable g (concat high low v w)
    → Claim ρ g (ty.Bits w) (concat_means (ty.Bits w) v (value ρ g high) (value ρ g low)) (concat_plan high low v w)
unfolding concat_plan
concat_plan_claim ρ g high low v w c = (refl, concat_storable ρ g high low v w c, λ sure x e. e)

-- ---- an operation that is a slice

cut_is : (o : Op) (c : Cut) → cut_of o ≡ Some c → (w : ℕ) × (o ≡ node.slice c.value c.offset w)
cut_is (node.constant n) c e = absurd (none-some e)
cut_is (node.input n) c e = absurd (none-some e)
cut_is (node.refine n) c e = absurd (none-some e)
cut_is (node.effect n) c e = absurd (none-some e)
cut_is (node.slice n o w) c e = (w, λ k. node.slice (some_is e k).value (some_is e k).offset w)
cut_is (node.concat n m w) c e = absurd (none-some e)
cut_is (node.unary u n) c e = absurd (none-some e)
cut_is (node.binary b n m) c e = absurd (none-some e)

-- ---- the node that bits come from is there

abbrev Here : List ℕ → Bit → Type 0
Here g (known b) = Unit {0}
Here g (source m j) = m < count_of g

abbrev StepHere : List ℕ → BitStep → Type 0
StepHere g (here b) = Here g b
StepHere g (from p j) = p < count_of g
StepHere g (flipped p j) = p < count_of g

abbrev BaseHere : List ℕ → Option ℕ → Type 0
BaseHere g None = Unit {0}
BaseHere g (Some m) = m < count_of g

module _ (g : List ℕ) (n i : ℕ) (l : n < count_of g) where
  masked_here : (o : Binary) (set : Bool) (p : ℕ) → p < count_of g → StepHere g (masked_bit o n set p i)
  masked_here o set p q = search (arith, by_test)

  unary_here : (o : Unary) (p : ℕ) → p < count_of g → StepHere g (unary_bit o n p i)
  unary_here un.BoolNot p q = l
  unary_here un.BitNot p q = l
  unary_here un.Negate p q = l
  unary_here (un.Truncate w) p q = by_test (StepHere g) (ltb i w) (λ e. q) (λ e. tt)
  unary_here (un.SignExtend w) p q = l
  unary_here (un.LeadingZeros w) p q = l
  unary_here (un.TrailingZeros w) p q = l

  op_here : (o : Op) → start o ≤ n → StepHere g (bit_of g n i o)
  op_here (node.constant k) b = tt
  op_here (node.input k) b = l
  op_here (node.refine p) b = omega arith
  op_here (node.effect k) b = l
  op_here (node.slice p o w) b = by_test (StepHere g) (leb w i) (λ e. tt) (λ e. omega arith)
  op_here (node.concat h k w) b = by_test (StepHere g) (ltb i w) (λ e. omega arith) (λ e. omega arith)
  op_here (node.unary o p) b = unary_here o p (omega arith)
  op_here (node.binary o p q) b = by_given (StepHere g) (literal g q) (λ k e. masked_here o (has_bit k i) p (omega arith)) (λ e. l)

module _ {ρ : World} {g : List ℕ} (inv : Inv ρ g) where
  step_here : (n i : ℕ) → n < count_of g → StepHere g (bit_step g n i)
  unfolding bit_step
  step_here n i l =
      by_test (StepHere g) (leb 128 i || above (type_at g n) i) (λ e. tt) (λ e. op_here g n i l (operation_at g n) (inv_below inv n l))

  turned_here : (o : Option Bit) (b : Bit) → negated_bit o ≡ Some b → Here g b
  turned_here None b e = absurd (none-some e)
  turned_here (Some (known k)) b e = subst (Here g) (some_is e) tt
  turned_here (Some (source m j)) b e = absurd (none-some e)

  reached_here : (s : BitStep) (r : ℕ → ℕ → Option Bit) → StepHere g s → ((n j : ℕ) → n < count_of g → (b : Bit) → r n j ≡ Some b → Here g b)
      → (b : Bit) → reached s r ≡ Some b → Here g b
  reached_here (here k) r h ih b e = subst (Here g) (some_is e) h
  reached_here (from p j) r h ih b e = ih p j h b e
  reached_here (flipped p j) r h ih b e = turned_here (r p j) b e

  bit_here : (k n i : ℕ) → n < count_of g → (b : Bit) → bit_at g k n i ≡ Some b → Here g b
  unfolding bit_at
  bit_here zero n i l b e = absurd (none-some e)
  bit_here (suc k) n i l b e = reached_here (bit_step g n i) (bit_at g k) (step_here n i l) (λ m j. bit_here k m j) b e

  with_here : (f r : Field) (i : ℕ) (b : Bit) → BaseHere g f.base → Here g b → with_bit f i b ≡ Some r → BaseHere g r.base
  with_here f r i (known k) h q e = subst (λ (d : Field). BaseHere g d.base) (some_is e) h
  with_here f r i (source m j) h q e =
      subst (λ (d : Field). BaseHere g d.base) (some_is (provided_is (eqb j i && same_base f.base m) _ e).1) q

  module _ (high low v : ℕ) (lh : high < count_of g) (ll : low < count_of g) where
    field_here : (k i : ℕ) (f r : Field) → BaseHere g f.base → field_from g high low v i k f ≡ Some r → BaseHere g r.base
    field_here zero i f r h e = subst (λ (d : Field). BaseHere g d.base) (some_is e) h
    field_here (suc k) i f r h e =
        let p = given_is (concat_bit g high low v i) _ e in
        let q = given_is (with_bit f i p.0) _ p.2 in
        field_here k (suc i) q.0 r (with_here f q.0 i p.0 h (at p.0 p.1) q.1) q.2
      where
        at : (b : Bit) → concat_bit g high low v i ≡ Some b → Here g b
        at b =
            by_test (λ (o : Option Bit). o ≡ Some b → Here g b) (ltb i v) (λ q. bit_here DEPTH low i ll b) (λ q. bit_here DEPTH high (i - v) lh b)

    base_here : (w : ℕ) (f : Field) → fold_bitfield_concat g high low v w ≡ Some f → BaseHere g f.base
    unfolding fold_bitfield_concat
    base_here w f e = field_here w 0 no_bits f tt (provided_is (low_fits g low v) (field_from g high low v 0 w no_bits) e).1

-- ---- And with a mask, then Or with a literal

masked-means : (w u keep lit z : ℕ) → keep < 2 ^ w → lit < 2 ^ w → z ≡ bit_or (bit_and u keep) lit % 2 ^ w
    → binary_means (ty.Bits w) bi.Or (binary_means (ty.Bits w) bi.And (Some u) (Some (keep % 2 ^ w))) (Some (lit % 2 ^ w)) ≡ Some z
unfolding binary_value
masked-means w u keep lit z lk ll e =
    (λ k. binary_means (ty.Bits w) bi.Or (mask_value w u keep lk k) (Some (mod-eq_of_lt ll k))) ∙ low_valued w (bit_or (bit_and u keep) lit) ∙ ap Some (sym e)

-- ---- the parts of a value

record Joins (ρ : World) (g : List ℕ) (high low v w z : ℕ) : Type 0 where
  x : ℕ
  y : ℕ
  left : value ρ g high ≡ Some x
  right : value ρ g low ≡ Some y
  above : x < 2 ^ (w - v)
  below : y < 2 ^ v
  means : z ≡ (x * 2 ^ v + y) % 2 ^ w

module _ {ρ : World} {g : List ℕ} (i : Inv ρ g) (high low v w : ℕ) (c : Callable g (concat high low v w)) where
  -- what is to hold of a plan, and of what is done first
  abbrev Claims : Plan → Type 0
  Claims p = Claim ρ g (ty.Bits w) (concat_means (ty.Bits w) v (value ρ g high) (value ρ g low)) p

  abbrev Firsts : First → Type 0
  Firsts f = FirstClaim ρ g (ty.Bits w) (concat_means (ty.Bits w) v (value ρ g high) (value ρ g low)) f

  joins : (z : ℕ) → concat_means (ty.Bits w) v (value ρ g high) (value ρ g low) ≡ Some z → Joins ρ g high low v w z
  joins z e =
      let p = then_is (value ρ g high) (λ x. and_then (value ρ g low) (λ y. valued (ty.Bits w) (x * 2 ^ v + y))) z e in
      let q = then_is (value ρ g low) (λ y. valued (ty.Bits w) (p.0 * 2 ^ v + y)) z p.2 in
      record {
        x = p.0;
        y = q.0;
        left = p.1;
        right = q.1;
        above = high_small ρ g i high low v w p.0 q.0 c.2 c.3 p.1 q.1 c.4 c.1;
        below = low_small ρ g i high low v w p.0 q.0 c.2 c.3 p.1 q.1 c.4 c.1;
        means = (typed_is (ty.Bits w) ((p.0 * 2 ^ v + q.0) % 2 ^ w) z q.2).0;
      }

  -- a constant that every sum of parts is
  constant_claim : (n : ℕ) → ((z : ℕ) (j : Joins ρ g high low v w z) → j.x * 2 ^ v + j.y ≡ n)
      → Claims (plan.constant (ty.Bits w) n)
  constant_claim n k = (refl, bits_number c.1 n, λ sure z e. let j = joins z e in ap Some (sym (j.means ∙ ap (λ (m : ℕ). m % 2 ^ w) (k z j))))

  -- a slice of a node that holds both parts
  slice_claim : (n o : ℕ) → n < count_of g
      → ((z : ℕ) (j : Joins ρ g high low v w z) → (u : ℕ) × (value ρ g n ≡ Some u) × ((j.x * 2 ^ v + j.y) % 2 ^ w ≡ u / 2 ^ o % 2 ^ w))
      → Claims (plan.slice n o w)
  slice_claim n o l k = (
    (c.1, l),
    refl,
    λ sure z e.
        let j = joins z e in
        let s = k z j in
        ap (slice_means (ty.Bits w) o) s.1 ∙ low_valued w (s.0 / 2 ^ o)
        ∙ ap Some (sym (j.means ∙ s.2)),
  )

  whole : (n : ℕ) → n % 2 ^ w ≡ n / 2 ^ 0 % 2 ^ w
  whole n = ap (λ (m : ℕ). m % 2 ^ w) (sym (div-one n))

  low_claim : w ≡ v → Claim ρ g (ty.Bits w) (concat_means (ty.Bits w) v (value ρ g high) (value ρ g low)) (plan.slice low 0 w)
  low_claim e =
      slice_claim low 0 c.3
      (λ z j. (j.y, j.right, whole (j.x * 2 ^ v + j.y) ∙ slice_low j.x j.y v 0 w j.below (omega arith)))

  high_claim : v ≡ 0 → Claim ρ g (ty.Bits w) (concat_means (ty.Bits w) v (value ρ g high) (value ρ g low)) (plan.slice high 0 w)
  high_claim e =
      slice_claim high 0 c.2
      (λ z j. (
        j.x,
        j.left,
        whole (j.x * 2 ^ v + j.y) ∙ slice_high j.x j.y v 0 w j.below (omega arith) ∙ ap (λ (n : ℕ). j.x / 2 ^ n % 2 ^ w) (zero_less v),
      ))
    where
      zero_less : (n : ℕ) → 0 - n ≡ 0
      zero_less n = omega arith

  -- ---- two constants

  joined_claim : (h l : ℕ) → v < 128 → literal g high ≡ Some h → literal g low ≡ Some l
      → Claims (plan.constant (ty.Bits w) (joined h l v))
  joined_claim h l q eh el =
      constant_claim (joined h l v)
      (λ z j.
      let xh : j.x ≡ h = some_is (sym j.left ∙ literal-value ρ g i high h c.2 eh) in
      let yl : j.y ≡ l = some_is (sym j.right ∙ literal-value ρ g i low l c.3 el) in
      let s = sides (type_at g high) (type_at g low) v w c.4 in
      let narrow = s.narrow in
      let wide = c.1 in
      let lh : h < 2 ^ (w - v) = subst (λ (n : ℕ). n < 2 ^ (w - v)) xh j.above in
      let ll : l < 2 ^ v = subst (λ (n : ℕ). n < 2 ^ v) yl j.below in
      (λ k. xh k * 2 ^ v + yl k)
      ∙ sym (ap (λ (b : Bool). bit_or (cond b (h * 2 ^ v % 2 ^ 128) 0) l) (lt-ltb v 128 q)
      ∙ ap (λ (n : ℕ). bit_or n l) (shl_exact (w - v) v 128 lh (omega arith)) ∙ or_shifted h v l ll))

  -- ---- two slices of one node, side by side

  adjacent_claim : (a b : Cut) (s t : ℕ) → operation_at g high ≡ node.slice a.value a.offset s → operation_at g low ≡ node.slice b.value b.offset t
      → a.value ≡ b.value → a.offset ≡ b.offset + v
      → Claims (plan.slice a.value b.offset w)
  adjacent_claim a b s t eh el same next =
      slice_claim a.value b.offset
      (let lh = c.2 in let q = below_at ρ g i high c.2 (node.slice a.value a.offset s) eh in omega arith)
      (λ z j.
      let d = sides (type_at g high) (type_at g low) v w c.4 in
      let p = cut high j.x (w - v) a.value a.offset s c.2 j.left eh d.high in
      let q = cut low j.y v b.value b.offset t c.3 j.right el d.low in
      let u = p.0 in
      let one : q.0 ≡ u = some_is (sym q.1 ∙ ap (value ρ g) (sym same) ∙ p.1) in (
        u,
        p.1,
        ap (λ (n : ℕ). n % 2 ^ w)
            ((λ k. p.2 k * 2 ^ v + q.2 k) ∙ (λ k. u / 2 ^ next k % 2 ^ (w - v) * 2 ^ v + one k / 2 ^ b.offset % 2 ^ v)
            ∙ slice_join u b.offset v w d.narrow)
            ∙ mod-mod (u / 2 ^ b.offset) (2 ^ w),
      ))
    where
      cut : (n r k m o s : ℕ) → n < count_of g → value ρ g n ≡ Some r → operation_at g n ≡ node.slice m o s → type_at g n ≡ ty.Bits k
          → (u : ℕ) × (value ρ g m ≡ Some u) × (r ≡ u / 2 ^ o % 2 ^ k)
      cut n r k m o s l er e et =
          let f : slice_means (ty.Bits k) o (value ρ g m) ≡ Some r =
          subst (λ (t : ScalarType). slice_means t o (value ρ g m) ≡ Some r) et (means_at ρ g i n l r er (node.slice m o s) e) in
          let p = then_is (value ρ g m) (λ u. valued (ty.Bits k) (u / 2 ^ o)) r f in
          (p.0, p.1, (typed_is (ty.Bits k) (p.0 / 2 ^ o % 2 ^ k) r p.2).0)

  -- ---- bits of one node and of constants

  -- a later graph's new node
  rest_claim : (h : List ℕ) → Kept ρ g h
      → Claim ρ h (ty.Bits w) (concat_means (ty.Bits w) v (value ρ g high) (value ρ g low)) (rest_plan h (concat_rest high low v w))
  unfolding rest_plan
  rest_claim h k =
      let e = k.grows in
      subst (λ (m : Option ℕ). Claim ρ h (ty.Bits w) m (concat_plan high low v w))
      (λ z. concat_means (ty.Bits w) v (ext_value ρ e high c.2 z) (ext_value ρ e low c.3 z))
      (concat_plan_claim ρ h high low v w (
        c.0,
        c.1,
        ext_here e high c.2,
        ext_here e low c.3,
        (λ z. concat_typed (ext_type e high c.2 z) (ext_type e low c.3 z) v w) ∙ c.4,
      ))

  says : (f : Field) → fold_bitfield_concat g high low v w ≡ Some f → (z : ℕ) (j : Joins ρ g high low v w z) → FieldSays ρ g (j.x * 2 ^ v + j.y) w f
  says f e z j = field_sound ρ g i high low v w j.x j.y c.2 c.3 j.left j.right c.4 c.1 f e

  based_claim : (f : Field) → fold_bitfield_concat g high low v w ≡ Some f → (b : ℕ) → f.base ≡ Some b → same_type (type_at g b) (ty.Bits w) ≡ true
      → Firsts
      (tries (plan.masked (record { type = ty.Bits w; base = b; mask = f.keep; result = ty.Bits w; op = bi.Or; literal = f.literal }))
      (concat_rest high low v w))
  based_claim f e b eb t =
      let own : eqb w w ≡ true = eq-eqb w w refl in (
        (
          bits_number c.1 f.keep,
          bits_number c.1 f.literal,
          subst (BaseHere g) eb (base_here i high low v c.2 c.3 w f e),
          (λ k. t k && own k),
          refl,
          c.1,
          (λ k. own k && own k),
          λ sure z q.
              let j = joins z q in
              let s = says f e z j in
              let d : Gathers ρ g (j.x * 2 ^ v + j.y) (Some b) f.keep f.literal =
              subst (λ (o : Option ℕ). Gathers ρ g (j.x * 2 ^ v + j.y) o f.keep f.literal) eb s.says in
              (λ k.
              binary_means (ty.Bits w) bi.Or (binary_means (ty.Bits w) bi.And (d.2 k) (Some (f.keep % 2 ^ w))) (Some (f.literal % 2 ^ w)))
              ∙ masked-means w d.1 f.keep f.literal z s.keep s.literal (j.means ∙ ap (λ (n : ℕ). n % 2 ^ w) d.3),
        ),
        rest_claim,
      )

  field_claim : (f : Field) → fold_bitfield_concat g high low v w ≡ Some f
      → Firsts (field_plan g high low v w f)
  field_claim f e =
      by_given Firsts f.base
      (λ b eb.
      by_test Firsts (same_type (type_at g b) (ty.Bits w))
      (λ t. based_claim f e b eb t) (λ t. concat_plan_claim ρ g high low v w c))
      (λ eb.
      constant_claim f.literal
      (λ z j. subst (λ (o : Option ℕ). Gathers ρ g (j.x * 2 ^ v + j.y) o f.keep f.literal) eb (says f e z j).says))

  -- ---- what concat does first

  open_claim : (a b : Option Cut) → cut_of (operation_at g high) ≡ a → cut_of (operation_at g low) ≡ b
      → Firsts (concat_field g high low v w)
      → Firsts (given (adjacent a b v w) does (concat_field g high low v w))
  open_claim None b p q k = k
  open_claim (Some a) None p q k = k
  open_claim (Some a) (Some b) p q k = go (eqb a.value b.value && eqb a.offset (b.offset + v)) refl
    where
      go : (t : Bool) → eqb a.value b.value && eqb a.offset (b.offset + v) ≡ t
          → Firsts
          (given (only t (plan.slice a.value b.offset w)) does (concat_field g high low v w))
      go true e =
          let d = tests (eqb a.value b.value) (eqb a.offset (b.offset + v)) e in
          let m = cut_is (operation_at g high) a p in
          let n = cut_is (operation_at g low) b q in
          adjacent_claim a b m.0 n.0 m.1 n.1 (eqb-true a.value b.value d.0)
          (eqb-true a.offset (b.offset + v) d.1)
      go false e = k

  constants_claim : v < 128 → (h l : Option ℕ) → literal g high ≡ h → literal g low ≡ l
      → Firsts (concat_open g high low v w)
      → Firsts (given (joined_plan h l v w) does (concat_open g high low v w))
  constants_claim q None l eh el k = k
  constants_claim q (Some h) None eh el k = k
  constants_claim q (Some h) (Some l) eh el k = joined_claim h l q eh el

  pub concat_first_claim : FirstClaim ρ g (ty.Bits w) (concat_means (ty.Bits w) v (value ρ g high) (value ρ g low)) (concat_first g high low v w)
  unfolding concat_first
  concat_first_claim =
      by_test Firsts (eqb w v)
      (λ e. low_claim (eqb-true w v e))
      (λ e.
      by_test Firsts (eqb v 0)
      (λ f. high_claim (eqb-true v 0 f))
      (λ f.
      constants_claim (let s = sides (type_at g high) (type_at g low) v w c.4 in let n = s.narrow in let x = eqb-false w v e in let l = c.1 in omega arith) (literal g high)
      (literal g low) refl refl
      (open_claim (cut_of (operation_at g high)) (cut_of (operation_at g low)) refl refl
      (by_given Firsts (fold_bitfield_concat g high low v w) field_claim
      (λ n. concat_plan_claim ρ g high low v w c)))))

-- What is told of single bits of nodes is so, and with it the two folds of bitfields. Assumes nothing.
use mathlib.Core.Path.{◌≡◌, refl, sym, ap, ◌∙◌, subst}
use mathlib.Core.Bool.{Bool, true, false, cond, ◌&&◌, ◌||◌}
use mathlib.Core.List.{List}
use mathlib.Core.Logic.{◌⊎◌, inl, inr, ⊎_elim}
use Rattle.std.specs.Prelude.{Option, None, Some}
use Prim.Native.Nat.{ℕ, zero, suc, min, max, ◌+◌, ◌-◌, ◌*◌, ◌/◌, ◌%◌, ◌^◌, ◌≤◌, ◌<◌}
use native.Mathlib.Decide.{dec_lt}
use native.Mathlib.Nat.{mod-lt, mod-eq_of_lt, zero-add, add-zero, one-mul, two-pow-succ, lt_of_le_of_lt}
use native.Mathlib.Omega.{arith}
use borrow.Author.Tests.{leb-true, leb-false, ltb-true, ltb-false, eqb-true, eqb-false, eq-eqb, ne_eqb}
use lib.Bits.{bit_and, bit_or, bit_xor, or_shifted_r, or_zero_r, and_le_r, or_lt, and_mask}
use lib.Dec.{eqb, ltb, leb}
use lib.Pow.{pow_pos, pow-lt, not_mod}
use Rattle.word.specs.Option.{from_bool, given}
use Rattle.range.specs.declared.ScalarType.{ScalarType}
use Rattle.range.specs.declared.ScalarType.TheVariants as ty
use Rattle.evaluate.specs.Evaluate.{unary_value, binary_value}
use Rattle.evaluate.specs.Operator.{type_width}
use Rattle.evaluate.specs.U128 as u128
use Rattle.evaluate.specs.declared.Unary.{Unary}
use Rattle.evaluate.specs.declared.Unary.TheVariants as un
use Rattle.evaluate.specs.declared.Binary.{Binary}
use Rattle.evaluate.specs.declared.Binary.TheVariants as bi
use Rattle.graph.specs.Layout.{count_of}
use Rattle.graph.specs.Node as node
use Rattle.graph.specs.Node.{Op, type_at, operation_at}
use Rattle.graph.specs.Insert.{start, literal_of, literal}
use Rattle.fold.specs.Shape.{same_type, same_binary, mask, ByConstant, with_constant, by_constant_of, by_constant_at}
use Rattle.bitfield.specs.Bitfield.{Bit, known, source, BitStep, here, from, flipped, has_bit, above, masked_bit, unary_bit, bit_of, bit_step, negated_bit, reached, DEPTH, bit_at, Field, no_bits, power, same_base, with_bit, concat_bit, field_from, low_fits, fold_bitfield_concat, Mask, Update, update_of, update_at, PairFold, next, end, found, keeps, changed_bits, fold_typed, fold_pair, first_found, fold_masked_comparison}
use Rattle.request.specs.Typing.{concat_typed}
use Rattle.range.proofs.Sound.{tests}
use Rattle.range.proofs.Answers.{none-some, some_is, provided_is}
use Rattle.bit_laws.specs.Bit.{bit}
use Rattle.bit_laws.proofs.Bit.{bit-lt, bit-zero, bit_ext, bit-and, bit-or, bit-xor, bit_big, bit-shr, bit-mod, bit-mod_big, bit_high, bit_low_part}
use Rattle.bit_laws.proofs.Logic.{field_kept, kept_field}
use Rattle.meaning.specs.Value.{size, of_type, valued, and_then, binary_means}
use Rattle.meaning.proofs.Worlds.{World, operation_means, operand, value}
use Rattle.meaning.proofs.Answers.{binary_is, by_test, by_given, given_is}
use Rattle.meaning.proofs.Values.{typed_is, typed_of, then_is}
use Rattle.meaning.proofs.Invariant.{stored_typed, Typed, Inv, inv_below, inv_width, inv_step}
use Rattle.meaning.proofs.Constants.{reduced_same}
use Rattle.meaning.proofs.Views.{same_type_lem, value_small}

-- ---- what is told of a bit

-- of bit i of v
abbrev pub Says : World → List ℕ → ℕ → ℕ → Bit → Type 0
Says ρ g v i (known b) = bit v i ≡ from_bool b
Says ρ g v i (source m j) = (m < count_of g) × (u : ℕ) × (value ρ g m ≡ Some u) × (bit v i ≡ bit u j)

-- by one step
abbrev StepSays : World → List ℕ → ℕ → ℕ → BitStep → Type 0
StepSays ρ g v i (here b) = Says ρ g v i b
StepSays ρ g v i (from p j) = (p < count_of g) × (u : ℕ) × (value ρ g p ≡ Some u) × (bit v i ≡ bit u j)
StepSays ρ g v i (flipped p j) = (p < count_of g) × (u : ℕ) × (value ρ g p ≡ Some u) × (bit v i ≡ 1 - bit u j)

says_same : (ρ : World) (g : List ℕ) (v u i j : ℕ) (b : Bit) → bit v i ≡ bit u j → Says ρ g u j b → Says ρ g v i b
says_same ρ g v u i j (known b) e h = e ∙ h
says_same ρ g v u i j (source m k) e h = (h.0, h.1, h.2, e ∙ h.3)

-- ---- bits of numbers

set_is : (v i : ℕ) → from_bool (has_bit v i) ≡ bit v i
unfolding bit
set_is v i = search (arith, mod-lt, eqb-true, eqb-false)

valued-bit : (t : ScalarType) (z v i : ℕ) → valued t z ≡ Some v → above t i ≡ false → bit v i ≡ bit z i
valued-bit ty.Bool z v i e a = ap (λ (n : ℕ). bit n i) (typed_is ty.Bool z v e).0
valued-bit (ty.Bits w) z v i e a = ap (λ (n : ℕ). bit n i) (typed_is (ty.Bits w) (z % 2 ^ w) v e).0 ∙ bit-mod z w i (leb-false w i a)
valued-bit ty.Integer z v i e a = ap (λ (n : ℕ). bit n i) (typed_is ty.Integer z v e).0

above_zero : (t : ScalarType) (v i : ℕ) → v < size t → above t i ≡ true → bit v i ≡ 0
above_zero ty.Bool v i l e = let z : ◌≡◌ {A = ℕ} 0 1 = cc in absurd (omega arith)
above_zero (ty.Bits w) v i l e = bit_big v w i l (leb-true w i e)
above_zero ty.Integer v i l e = let z : ◌≡◌ {A = ℕ} 0 1 = cc in absurd (omega arith)

past_zero : (t : ScalarType) (v i : ℕ) → type_width t ≤ 128 → v < size t → 128 ≤ i → bit v i ≡ 0
past_zero ty.Bool v i q l e = bit_big v 1 i l (omega arith)
past_zero (ty.Bits w) v i q l e = bit_big v w i l (omega arith)
past_zero ty.Integer v i q l e = bit_big v 128 i l e

-- ---- nodes with values

module _ (ρ : World) (g : List ℕ) (inv : Inv ρ g) where
  -- what a node of this operation means
  pub means_at : (n : ℕ) → n < count_of g → (v : ℕ) → value ρ g n ≡ Some v → (o : Op) → operation_at g n ≡ o → operation_means ρ (type_at g n) o (operand ρ g) ≡ Some v
  means_at n l v ev o e = sym (inv_step inv n l ∙ ap (λ (p : Op). operation_means ρ (type_at g n) p (operand ρ g)) e) ∙ ev

  pub below_at : (n : ℕ) → n < count_of g → (o : Op) → operation_at g n ≡ o → start o ≤ n
  below_at n l o e = subst (λ (p : Op). start p ≤ n) e (inv_below inv n l)

  pub typed_at : (n : ℕ) → n < count_of g → (o : Op) → operation_at g n ≡ o → Typed g (type_at g n) o
  typed_at n l o e = subst (λ (p : Op). Typed g (type_at g n) p) e (inv.typed n l)

  constant-value : (n c : ℕ) → n < count_of g → operation_at g n ≡ node.constant c → value ρ g n ≡ Some c
  constant-value n c l e =
      let s : c < size (type_at g n) = typed_at n l (node.constant c) e in
      inv_step inv n l ∙ ap (λ (p : Op). operation_means ρ (type_at g n) p (operand ρ g)) e ∙ ap (of_type (type_at g n)) (reduced_same (type_at g n) c s)
      ∙ typed_of (type_at g n) c s

  pub literal-value : (n c : ℕ) → n < count_of g → literal g n ≡ Some c → value ρ g n ≡ Some c
  unfolding literal
  literal-value n c l e = go (operation_at g n) refl e
    where
      go : (o : Op) → operation_at g n ≡ o → literal_of o ≡ Some c → value ρ g n ≡ Some c
      go (node.constant d) q e = constant-value n d l q ∙ e
      go (node.input i) q e = absurd (none-some e)
      go (node.refine i) q e = absurd (none-some e)
      go (node.effect i) q e = absurd (none-some e)
      go (node.slice i o w) q e = absurd (none-some e)
      go (node.concat i j w) q e = absurd (none-some e)
      go (node.unary u i) q e = absurd (none-some e)
      go (node.binary b i j) q e = absurd (none-some e)

pub literal_below : {ρ : World} {g : List ℕ} (i : Inv ρ g) (n c : ℕ) (t : ScalarType) → n < count_of g → type_at g n ≡ t → literal g n ≡ Some c → c < size t
literal_below {ρ} {g} i n c t l q e = subst (λ (s : ScalarType). c < size s) q (value_small i n l c (literal-value ρ g i n c l e))

-- the operands of a binary operation with a value
pub record Operands (ρ : World) (g : List ℕ) (t : ScalarType) (o : Binary) (i j v : ℕ) : Type 0 where
  pub x : ℕ
  pub y : ℕ
  pub left : value ρ g i ≡ Some x
  pub right : value ρ g j ≡ Some y
  pub means : and_then (binary_value o t x y) (of_type t) ≡ Some v

pub operands : (ρ : World) (g : List ℕ) (t : ScalarType) (o : Binary) (i j v : ℕ) → binary_means t o (value ρ g i) (value ρ g j) ≡ Some v → Operands ρ g t o i j v
operands ρ g t o i j v e =
    let p = then_is (value ρ g i) (λ x. and_then (value ρ g j) (λ y. and_then (binary_value o t x y) (of_type t))) v e in
    let q = then_is (value ρ g j) (λ y. and_then (binary_value o t p.0 y) (of_type t)) v p.2 in
    record { x = p.0; y = q.0; left = p.1; right = q.1; means = q.2 }

and-means : (t : ScalarType) (x y v : ℕ) → and_then (binary_value bi.And t x y) (of_type t) ≡ Some v → valued t (bit_and x y) ≡ Some v
unfolding binary_value
and-means t x y v e = e

or-means : (t : ScalarType) (x y v : ℕ) → and_then (binary_value bi.Or t x y) (of_type t) ≡ Some v → valued t (bit_or x y) ≡ Some v
unfolding binary_value
or-means t x y v e = e

xor-means : (t : ScalarType) (x y v : ℕ) → and_then (binary_value bi.Xor t x y) (of_type t) ≡ Some v → valued t (bit_xor x y) ≡ Some v
unfolding binary_value
xor-means t x y v e = e

truncated-means : (t : ScalarType) (w x v : ℕ) → and_then (unary_value (un.Truncate w) x) (valued t) ≡ Some v → valued t (x % 2 ^ w) ≡ Some v
unfolding unary_value
truncated-means t w x v e = e

-- a concat's parts
pub record Sides (a b : ScalarType) (v w : ℕ) : Type 0 where
  pub narrow : v ≤ w
  pub high : a ≡ ty.Bits (w - v)
  pub low : b ≡ ty.Bits v

pub sides : (a b : ScalarType) (v w : ℕ) → concat_typed a b v w ≡ true → Sides a b v w
sides a b v w e =
    let p = tests (leb v w) (same_type a (ty.Bits (w - v)) && same_type b (ty.Bits v)) e in
    let q = tests (same_type a (ty.Bits (w - v))) (same_type b (ty.Bits v)) p.1 in
    record { narrow = leb-true v w p.0; high = same_type_lem a (ty.Bits (w - v)) q.0; low = same_type_lem b (ty.Bits v) q.1 }

-- ---- one step

module _ (ρ : World) (g : List ℕ) (inv : Inv ρ g) (n i v : ℕ) (l : n < count_of g) (ev : value ρ g n ≡ Some v) (a : above (type_at g n) i ≡ false) where
  own : Says ρ g v i (source n i)
  own = (l, v, ev, refl)

  -- the left operand of b with a constant, where b is f on single bits
  masked : (o b : Binary) (p q c : ℕ) → operation_at g n ≡ node.binary o p q → literal g q ≡ Some c → same_binary o b ≡ true → (h f : ℕ → ℕ → ℕ)
      → ((x y : ℕ) → and_then (binary_value b (type_at g n) x y) (of_type (type_at g n)) ≡ Some v → valued (type_at g n) (h x y) ≡ Some v)
      → ((x y i : ℕ) → bit (h x y) i ≡ f (bit x i) (bit y i))
      → (x : ℕ) × (p < count_of g) × (value ρ g p ≡ Some x) × (bit v i ≡ f (bit x i) (from_bool (has_bit c i)))
  masked o b p q c e lit same h f means bits =
      let d = e ∙ ap (λ (a : Binary). node.binary a p q) (binary_is o b same) in
      let under = below_at ρ g inv n l (node.binary b p q) d in
      let s = operands ρ g (type_at g n) b p q v (means_at ρ g inv n l v ev (node.binary b p q) d) in
      let yc : s.y ≡ c = some_is (sym s.right ∙ literal-value ρ g inv q c (omega arith) lit) in (
        s.x,
        omega arith,
        s.left,
        valued-bit (type_at g n) (h s.x s.y) v i (means s.x s.y s.means) a ∙ bits s.x s.y i
            ∙ ap (f (bit s.x i)) (ap (λ (z : ℕ). bit z i) yc ∙ sym (set_is c i)),
      )

  module _ (p x : ℕ) (b : p < count_of g) (ex : value ρ g p ≡ Some x) where
    and_says : (h : Bool) → bit v i ≡ min (bit x i) (from_bool h) → StepSays ρ g v i (cond h (from p i) (here (known false)))
    and_says true f = (b, x, ex, omega (arith, bit-lt x i))
    and_says false f = omega arith

    or_says : (h : Bool) → bit v i ≡ max (bit x i) (from_bool h) → StepSays ρ g v i (cond h (here (known true)) (from p i))
    or_says true f = omega (arith, bit-lt x i)
    or_says false f = (b, x, ex, omega arith)

    xor_says : (h : Bool) → bit v i ≡ (bit x i + from_bool h) % 2 → StepSays ρ g v i (cond h (flipped p i) (from p i))
    xor_says true f = (b, x, ex, omega (arith, bit-lt x i))
    xor_says false f = (b, x, ex, omega (arith, bit-lt x i))

  masked_says : (o : Binary) (p q c : ℕ) → operation_at g n ≡ node.binary o p q → literal g q ≡ Some c
      → StepSays ρ g v i (masked_bit o n (has_bit c i) p i)
  masked_says o p q c e lit =
      by_test (StepSays ρ g v i) (same_binary o bi.And)
      (λ s. let (x, b, ex, f) = masked o bi.And p q c e lit s bit_and min (λ x y. and-means (type_at g n) x y v) bit-and in and_says p x b ex (has_bit c i) f)
      (λ s. by_test (StepSays ρ g v i) (same_binary o bi.Or)
      (λ s. let (x, b, ex, f) = masked o bi.Or p q c e lit s bit_or max (λ x y. or-means (type_at g n) x y v) bit-or in or_says p x b ex (has_bit c i) f)
      (λ s. by_test (StepSays ρ g v i) (same_binary o bi.Xor)
      (λ s. let (x, b, ex, f) = masked o bi.Xor p q c e lit s bit_xor (λ a b. (a + b) % 2) (λ x y. xor-means (type_at g n) x y v) bit-xor in xor_says p x b ex (has_bit c i) f)
      (λ s. own)))

  unary_says : (o : Unary) (p : ℕ) → operation_at g n ≡ node.unary o p → StepSays ρ g v i (unary_bit o n p i)
  unary_says un.BoolNot p e = own
  unary_says un.BitNot p e = own
  unary_says un.Negate p e = own
  unary_says (un.Truncate w) p e =
      let s = then_is (value ρ g p) (λ x. and_then (unary_value (un.Truncate w) x) (valued (type_at g n))) v (means_at ρ g inv n l v ev (node.unary (un.Truncate w) p) e) in
      go s.0 s.1 (valued-bit (type_at g n) (s.0 % 2 ^ w) v i (truncated-means (type_at g n) w s.0 v s.2) a) (ltb i w) refl
    where
      go : (x : ℕ) → value ρ g p ≡ Some x → bit v i ≡ bit (x % 2 ^ w) i → (t : Bool) → ltb i w ≡ t → StepSays ρ g v i (cond t (from p i) (here (known false)))
      go x ex f true q =
          let b = below_at ρ g inv n l (node.unary (un.Truncate w) p) e in
          (omega arith, x, ex, f ∙ bit-mod x w i (ltb-true i w q))
      go x ex f false q = f ∙ bit-mod_big x w i (ltb-false i w q)
  unary_says (un.SignExtend w) p e = own
  unary_says (un.LeadingZeros w) p e = own
  unary_says (un.TrailingZeros w) p e = own

  op_says : (o : Op) → operation_at g n ≡ o → StepSays ρ g v i (bit_of g n i o)
  op_says (node.constant c) e = ap (λ (x : ℕ). bit x i) (some_is (sym ev ∙ constant-value ρ g inv n c l e)) ∙ sym (set_is c i)
  op_says (node.input k) e = own
  op_says (node.refine p) e =
      let b = below_at ρ g inv n l (node.refine p) e in
      let s = then_is (value ρ g p) (of_type (type_at g n)) v (means_at ρ g inv n l v ev (node.refine p) e) in
      (omega arith, s.0, s.1, ap (λ (x : ℕ). bit x i) (typed_is (type_at g n) s.0 v s.2).0)
  op_says (node.effect k) e = own
  op_says (node.slice p o w) e =
      let s = then_is (value ρ g p) (λ x. valued (type_at g n) (x / 2 ^ o)) v (means_at ρ g inv n l v ev (node.slice p o w) e) in
      go s.0 s.1 (valued-bit (type_at g n) (s.0 / 2 ^ o) v i s.2 a ∙ bit-shr s.0 o i) (leb w i) refl
    where
      go : (x : ℕ) → value ρ g p ≡ Some x → bit v i ≡ bit x (o + i) → (t : Bool) → leb w i ≡ t → StepSays ρ g v i (cond t (here (known false)) (from p (o + i)))
      go x ex f true q =
          let t : type_at g n ≡ ty.Bits w = typed_at ρ g inv n l (node.slice p o w) e in
          bit_big v w i (subst (λ (k : ScalarType). v < size k) t (value_small inv n l v ev)) (leb-true w i q)
      go x ex f false q =
          let b = below_at ρ g inv n l (node.slice p o w) e in
          (omega arith, x, ex, f)
  op_says (node.concat h k w) e =
      let s = then_is (value ρ g h) (λ x. and_then (value ρ g k) (λ y. valued (type_at g n) (x * 2 ^ w + y))) v (means_at ρ g inv n l v ev (node.concat h k w) e) in
      let r = then_is (value ρ g k) (λ y. valued (type_at g n) (s.0 * 2 ^ w + y)) v s.2 in
      let t = typed_at ρ g inv n l (node.concat h k w) e in
      let d = sides (type_at g h) (type_at g k) w t.0 t.2 in
      let b = below_at ρ g inv n l (node.concat h k w) e in
      let small : r.0 < 2 ^ w = subst (λ (c : ScalarType). r.0 < size c) d.low (value_small inv k (omega arith) r.0 r.1) in
      go s.0 r.0 s.1 r.1 small (valued-bit (type_at g n) (s.0 * 2 ^ w + r.0) v i r.2 a) (ltb i w) refl
    where
      go : (x y : ℕ) → value ρ g h ≡ Some x → value ρ g k ≡ Some y → y < 2 ^ w → bit v i ≡ bit (x * 2 ^ w + y) i → (t : Bool) → ltb i w ≡ t
          → StepSays ρ g v i (cond t (from k i) (from h (i - w)))
      go x y ex ey small f true q =
          let b = below_at ρ g inv n l (node.concat h k w) e in
          (omega arith, y, ey, f ∙ bit_low_part x y w i small (ltb-true i w q))
      go x y ex ey small f false q =
          let b = below_at ρ g inv n l (node.concat h k w) e in
          let m : i ≡ w + (i - w) = omega (arith, ltb-false i w q) in
          (omega arith, x, ex, f ∙ ap (bit (x * 2 ^ w + y)) m ∙ bit_high x y w (i - w) small)
  op_says (node.unary o p) e = unary_says o p e
  op_says (node.binary o p q) e = go (literal g q) refl
    where
      go : (x : Option ℕ) → literal g q ≡ x → StepSays ρ g v i (given x (λ c. masked_bit o n (has_bit c i) p i) (here (source n i)))
      go None d = own
      go (Some c) d = masked_says o p q c e d

-- ---- the walk

module _ (ρ : World) (g : List ℕ) (inv : Inv ρ g) where
  step_says : (n i v : ℕ) → n < count_of g → value ρ g n ≡ Some v → StepSays ρ g v i (bit_step g n i)
  unfolding bit_step
  step_says n i v l ev = go (leb 128 i) refl (above (type_at g n) i) refl
    where
      go : (x : Bool) → leb 128 i ≡ x → (y : Bool) → above (type_at g n) i ≡ y → StepSays ρ g v i (cond (x || y) (here (known false)) (bit_of g n i (operation_at g n)))
      go true p y q = past_zero (type_at g n) v i (inv_width inv n l) (value_small inv n l v ev) (leb-true 128 i p)
      go false p true q = above_zero (type_at g n) v i (value_small inv n l v ev) q
      go false p false q = op_says ρ g inv n i v l ev q (operation_at g n) refl

  turned_says : (v u i j : ℕ) (o : Option Bit) → bit v i ≡ 1 - bit u j → ((b : Bit) → o ≡ Some b → Says ρ g u j b) → (b : Bit) → negated_bit o ≡ Some b
      → Says ρ g v i b
  turned_says v u i j None f h b e = absurd (none-some e)
  turned_says v u i j (Some (known true)) f h b e = subst (λ (c : Bit). Says ρ g v i c) (some_is e) (omega (arith, h (known true) refl))
  turned_says v u i j (Some (known false)) f h b e = subst (λ (c : Bit). Says ρ g v i c) (some_is e) (omega (arith, h (known false) refl))
  turned_says v u i j (Some (source m k)) f h b e = absurd (none-some e)

  reached_says : (v i : ℕ) (s : BitStep) (r : ℕ → ℕ → Option Bit) → StepSays ρ g v i s
      → ((n j u : ℕ) → n < count_of g → value ρ g n ≡ Some u → (b : Bit) → r n j ≡ Some b → Says ρ g u j b)
      → (b : Bit) → reached s r ≡ Some b → Says ρ g v i b
  reached_says v i (here c) r h ih b e = subst (λ (c : Bit). Says ρ g v i c) (some_is e) h
  reached_says v i (from p j) r h ih b e = says_same ρ g v h.1 i j b h.3 (ih p j h.1 h.0 h.2 b e)
  reached_says v i (flipped p j) r h ih b e = turned_says v h.1 i j (r p j) h.3 (λ c q. ih p j h.1 h.0 h.2 c q) b e

  -- what the walk tells is so
  pub bit_sound : (k n i v : ℕ) → n < count_of g → value ρ g n ≡ Some v → (b : Bit) → bit_at g k n i ≡ Some b → Says ρ g v i b
  unfolding bit_at
  bit_sound zero n i v l ev b e = absurd (none-some e)
  bit_sound (suc k) n i v l ev b e = reached_says v i (bit_step g n i) (bit_at g k) (step_says n i v l ev) (λ m j u. bit_sound k m j u) b e

-- ---- the bits of a concat

power_is : (i : ℕ) → i < 128 → power i ≡ 1 * 2 ^ i
power_is i l = mod-eq_of_lt (pow-lt l) ∙ sym (one-mul (2 ^ i))

with_power : (x i : ℕ) → i < 128 → x < 2 ^ i → bit_or x (power i) ≡ 1 * 2 ^ i + x
with_power x i l q = ap (bit_or x) (power_is i l) ∙ or_shifted_r 1 i x q

set_below : (x i j : ℕ) → x < 2 ^ i → j < i → bit (1 * 2 ^ i + x) j ≡ bit x j
set_below x i j l q = bit_low_part 1 x i j l q

set_here : (x i : ℕ) → x < 2 ^ i → bit (1 * 2 ^ i + x) i ≡ 1
unfolding bit
set_here x i l = ap (bit (1 * 2 ^ i + x)) (sym (add-zero i)) ∙ bit_high 1 x i 0 l

-- a statement of the places below i and of i
one_more_lem : (i j : ℕ) → j < suc i → (P : ℕ → Type 0) → (j < i → P j) → P i → P j
one_more_lem i j l P a b = go (dec_lt j i)
  where
    go : Dec (j < i) → P j
    go (yes q) = a q
    go (no q) = let e : i ≡ j = omega arith in subst P e b

-- the value of the node that bits come from, if there is one yet
abbrev From : World → List ℕ → Option ℕ → ℕ → Type 0
From ρ g None u = Unit {0}
From ρ g (Some m) u = (m < count_of g) × (value ρ g m ≡ Some u)

-- the i lowest bits of x
record Parts (ρ : World) (g : List ℕ) (x i : ℕ) (o : Option ℕ) (keep lit : ℕ) : Type 0 where
  pub base : ℕ
  origin : From ρ g o base
  bare : o ≡ None → keep ≡ 0
  small : (keep < 2 ^ i) × (lit < 2 ^ i)
  places : (j : ℕ) → j < i → bit x j ≡ max (min (bit base j) (bit keep j)) (bit lit j)

-- what a whole field tells of x
abbrev pub Gathers : World → List ℕ → ℕ → Option ℕ → ℕ → ℕ → Type 0
Gathers ρ g x None keep lit = x ≡ lit
Gathers ρ g x (Some m) keep lit = (m < count_of g) × (u : ℕ) × (value ρ g m ≡ Some u) × (x ≡ bit_or (bit_and u keep) lit)

pub record FieldSays (ρ : World) (g : List ℕ) (x w : ℕ) (f : Field) : Type 0 where
  pub keep : f.keep < 2 ^ w
  pub literal : f.literal < 2 ^ w
  pub says : Gathers ρ g x f.base f.keep f.literal

module _ (ρ : World) (g : List ℕ) (x i : ℕ) where
  -- the places so far, of the node so far, or of any where nothing of it is kept
  of_base : (m u keep lit : ℕ) (o : Option ℕ) → (h : Parts ρ g x i o keep lit) → value ρ g m ≡ Some u → same_base o m ≡ true
      → (j : ℕ) → j < i → bit x j ≡ max (min (bit u j) (bit keep j)) (bit lit j)
  of_base m u keep lit None h eu q j p =
      let z : keep ≡ 0 = h.bare refl in
      omega (arith, h.places j p, ap (λ (y : ℕ). bit y j) z, bit-zero j)
  of_base m u keep lit (Some c) h eu q j p =
      let e : c ≡ m = eqb-true c m q in
      let ub : h.base ≡ u = some_is (sym h.origin.1 ∙ ap (value ρ g) e ∙ eu) in
      omega (arith, h.places j p, ap (λ (y : ℕ). bit y j) ub)

  -- a bit of a node: of the one so far, or of the first
  kept_place : (m u keep lit : ℕ) (o : Option ℕ) → Parts ρ g x i o keep lit → m < count_of g → value ρ g m ≡ Some u → bit x i ≡ bit u i
      → same_base o m ≡ true → Parts ρ g x (suc i) (Some m) (1 * 2 ^ i + keep) lit
  kept_place m u keep lit o h lm eu b q =
      let s = h.small in
      let lk = s.0 in
      let ll = s.1 in
      record {
        base = u;
        origin = (lm, eu);
        bare = λ e. absurd (none-some (sym e));
        small = (omega (arith, two-pow-succ i), omega (arith, two-pow-succ i));
        places = λ j l.
            one_more_lem i j l (λ k. bit x k ≡ max (min (bit u k) (bit (1 * 2 ^ i + keep) k)) (bit lit k))
            (λ p. omega (arith, of_base m u keep lit o h eu q j p, set_below keep i j lk p))
            (omega (arith, b, set_here keep i lk, bit_big lit i i ll (omega arith), bit-lt u i));
      }

  set_place : (o : Option ℕ) (keep lit : ℕ) → Parts ρ g x i o keep lit → bit x i ≡ 1 → Parts ρ g x (suc i) o keep (1 * 2 ^ i + lit)
  set_place o keep lit h b =
      let s = h.small in
      let lk = s.0 in
      let ll = s.1 in
      record {
        base = h.base;
        origin = h.origin;
        bare = h.bare;
        small = (omega (arith, two-pow-succ i), omega (arith, two-pow-succ i));
        places = λ j l.
            one_more_lem i j l (λ k. bit x k ≡ max (min (bit h.base k) (bit keep k)) (bit (1 * 2 ^ i + lit) k))
            (λ p. omega (arith, h.places j p, set_below lit i j ll p))
            (omega (arith, b, set_here lit i ll, bit-lt h.base i, bit-lt keep i));
      }

  clear_place : (o : Option ℕ) (keep lit : ℕ) → Parts ρ g x i o keep lit → bit x i ≡ 0 → Parts ρ g x (suc i) o keep lit
  clear_place o keep lit h b = search (arith, two-pow-succ, one_more_lem, bit_big)

  with_bit_lem : (f r : Field) (b : Bit) → i < 128 → Parts ρ g x i f.base f.keep f.literal → Says ρ g x i b → with_bit f i b ≡ Some r
      → Parts ρ g x (suc i) r.base r.keep r.literal
  with_bit_lem f r (known true) l h t e =
      subst (λ (k : Field). Parts ρ g x (suc i) k.base k.keep k.literal) (some_is e)
      (rw (with_power f.literal i l h.small.1) (set_place f.base f.keep f.literal h t))
  with_bit_lem f r (known false) l h t e =
      subst (λ (k : Field). Parts ρ g x (suc i) k.base k.keep k.literal) (some_is e) (clear_place f.base f.keep f.literal h t)
  with_bit_lem f r (source m j) l h t e =
      let p = provided_is (eqb j i && same_base f.base m) _ e in
      let q = tests (eqb j i) (same_base f.base m) p.0 in
      subst (λ (k : Field). Parts ρ g x (suc i) k.base k.keep k.literal) (some_is p.1)
      (rw (with_power f.keep i l h.small.0)
      (kept_place m t.1 f.keep f.literal f.base h t.0 t.2 (t.3 ∙ ap (bit t.1) (eqb-true j i q.0)) q.1))

field_from_lem : (ρ : World) (g : List ℕ) (x high low v : ℕ) → ((i : ℕ) (b : Bit) → concat_bit g high low v i ≡ Some b → Says ρ g x i b)
    → (k i : ℕ) (f r : Field) → i + k ≤ 128 → Parts ρ g x i f.base f.keep f.literal → field_from g high low v i k f ≡ Some r
    → Parts ρ g x (i + k) r.base r.keep r.literal
field_from_lem ρ g x high low v says zero i f r l h e =
    rw (add-zero i) (subst (λ (k : Field). Parts ρ g x i k.base k.keep k.literal) (some_is e) h)
field_from_lem ρ g x high low v says (suc k) i f r l h e =
    let p = given_is (concat_bit g high low v i) _ e in
    let q = given_is (with_bit f i p.0) _ p.2 in
    let s : suc i + k ≡ i + suc k = omega arith in
    subst (λ (n : ℕ). Parts ρ g x n r.base r.keep r.literal) s
    (field_from_lem ρ g x high low v says k (suc i) q.0 r (omega arith)
    (with_bit_lem ρ g x i f q.0 p.0 (omega arith) h (says i p.0 p.1) q.1) q.2)

gathers : (ρ : World) (g : List ℕ) (x w : ℕ) (o : Option ℕ) (keep lit : ℕ) → Parts ρ g x w o keep lit → ((i : ℕ) → w ≤ i → bit x i ≡ 0) → Gathers ρ g x o keep lit
gathers ρ g x w None keep lit h past = bit_ext x lit (λ i. go i (dec_lt i w))
  where
    go : (i : ℕ) → Dec (i < w) → bit x i ≡ bit lit i
    go i (yes p) = omega (arith, h.places i p, ap (λ (y : ℕ). bit y i) (h.bare refl), bit-zero i, bit-lt h.base i)
    go i (no p) = past i (omega arith) ∙ sym (bit_big lit w i h.small.1 (omega arith))
gathers ρ g x w (Some m) keep lit h past =
    (h.origin.0, h.base, h.origin.1, bit_ext x (bit_or (bit_and h.base keep) lit) (λ i. go i (dec_lt i w)))
  where
    go : (i : ℕ) → Dec (i < w) → bit x i ≡ bit (bit_or (bit_and h.base keep) lit) i
    go i (yes p) = h.places i p ∙ sym (bit-or (bit_and h.base keep) lit i ∙ ap (λ (y : ℕ). max y (bit lit i)) (bit-and h.base keep i))
    go i (no p) =
        omega (
          arith,
          bit-or (bit_and h.base keep) lit i ∙ ap (λ (y : ℕ). max y (bit lit i)) (bit-and h.base keep i),
          past i (omega arith),
          bit_big keep w i h.small.0 (omega arith),
          bit_big lit w i h.small.1 (omega arith),
        )

module _ (ρ : World) (g : List ℕ) (inv : Inv ρ g) (high low v w a b : ℕ) (lh : high < count_of g) (ll : low < count_of g)
    (eh : value ρ g high ≡ Some a) (el : value ρ g low ≡ Some b) (typed : concat_typed (type_at g high) (type_at g low) v w ≡ true) (lw : w ≤ 128)
  where
    parted : Sides (type_at g high) (type_at g low) v w
    parted = sides (type_at g high) (type_at g low) v w typed

    pub high_small : a < 2 ^ (w - v)
    high_small = subst (λ (t : ScalarType). a < size t) parted.high (value_small inv high lh a eh)

    pub low_small : b < 2 ^ v
    low_small = subst (λ (t : ScalarType). b < size t) parted.low (value_small inv low ll b el)

    upper : (i : ℕ) → v ≤ i → bit (a * 2 ^ v + b) i ≡ bit a (i - v)
    upper i l = let e : i ≡ v + (i - v) = omega arith in ap (bit (a * 2 ^ v + b)) e ∙ bit_high a b v (i - v) low_small

    past : (i : ℕ) → w ≤ i → bit (a * 2 ^ v + b) i ≡ 0
    past i l = let q = parted.narrow in upper i (omega arith) ∙ bit_big a (w - v) (i - v) high_small (omega arith)

    concat_says : (i : ℕ) (c : Bit) → concat_bit g high low v i ≡ Some c → Says ρ g (a * 2 ^ v + b) i c
    concat_says i c =
        by_test (λ (o : Option Bit). o ≡ Some c → Says ρ g (a * 2 ^ v + b) i c) (ltb i v)
        (λ q e. says_same ρ g (a * 2 ^ v + b) b i i c (bit_low_part a b v i low_small (ltb-true i v q)) (bit_sound ρ g inv DEPTH low i b ll el c e))
        (λ q e. says_same ρ g (a * 2 ^ v + b) a i (i - v) c (upper i (ltb-false i v q)) (bit_sound ρ g inv DEPTH high (i - v) a lh eh c e))

    -- a concat gathered as bits of one node and of a literal
    pub field_sound : (f : Field) → fold_bitfield_concat g high low v w ≡ Some f → FieldSays ρ g (a * 2 ^ v + b) w f
    unfolding fold_bitfield_concat
    field_sound f e =
        let none_yet : Parts ρ g (a * 2 ^ v + b) 0 None 0 0 =
        record { base = 0; origin = tt; bare = λ q. refl; small = (omega arith, omega arith); places = λ j q. absurd (omega arith) } in
        let p : Parts ρ g (a * 2 ^ v + b) w f.base f.keep f.literal =
        rw (← zero-add w)
        (field_from_lem ρ g (a * 2 ^ v + b) high low v concat_says w 0 no_bits f (omega arith) none_yet
        (provided_is (low_fits g low v) (field_from g high low v 0 w no_bits) e).1) in
        record { keep = p.small.0; literal = p.small.1; says = gathers ρ g (a * 2 ^ v + b) w f.base f.keep f.literal p past }

-- ---- a base compared with itself under a mask

mask_is : (w k : ℕ) → w ≤ 128 → k < 2 ^ w → bit_and (u128.not k) (mask w) ≡ 2 ^ w - 1 - k
mask_is w k l q =
    let m : min w 128 ≡ w = omega arith in
    let n : 128 - w + w ≡ 128 = omega arith in
    ap (λ (i : ℕ). bit_and (u128.not k) (2 ^ i - 1)) m ∙ and_mask (u128.not k) w ∙ sym (ap (λ (i : ℕ). (2 ^ i - 1 - k) % 2 ^ w) n) ∙ not_mod (128 - w) w q

not_small : (n k : ℕ) → 0 < n → n - 1 - k < n
not_small n k l = omega arith

pub eqb_sym : (x y : ℕ) → eqb x y ≡ eqb y x
eqb_sym x y = go (eqb y x) refl
  where
    go : (b : Bool) → eqb y x ≡ b → eqb x y ≡ b
    go true e = eq-eqb x y (sym (eqb-true y x e))
    go false e = ne_eqb x y (λ q. eqb-false y x e (sym q))

-- comparing with the update, and comparing what it replaces
same_test : (w x keep lit : ℕ) → x < 2 ^ w → keep < 2 ^ w → lit < 2 ^ w → bit_and lit keep ≡ 0
    → eqb x (bit_or (bit_and x keep) lit) ≡ eqb (bit_and x (2 ^ w - 1 - keep)) lit
same_test w x keep lit lx lk ll apart = go (eqb (bit_and x (2 ^ w - 1 - keep)) lit) refl
  where
    go : (b : Bool) → eqb (bit_and x (2 ^ w - 1 - keep)) lit ≡ b → eqb x (bit_or (bit_and x keep) lit) ≡ b
    go true e = eq-eqb x (bit_or (bit_and x keep) lit) (kept_field w x keep lit lx lk ll apart (eqb-true (bit_and x (2 ^ w - 1 - keep)) lit e))
    go false e =
        ne_eqb x (bit_or (bit_and x keep) lit) (λ q. eqb-false (bit_and x (2 ^ w - 1 - keep)) lit e (field_kept w x keep lit lx lk ll apart q))

-- a node that is an operation by a constant: its operation on its base and the constant
pub record Linked (g : List ℕ) (n : ℕ) (c : ByConstant) : Type 0 where
  pub constant : ℕ
  pub operation : operation_at g n ≡ node.binary c.op c.base constant
  pub has : literal g constant ≡ Some c.value

pub linked : (g : List ℕ) (n : ℕ) (c : ByConstant) → by_constant_at g n ≡ Some c → Linked g n c
unfolding by_constant_at
linked g n c e = go (operation_at g n) refl e
  where
    go : (p : Op) → operation_at g n ≡ p → by_constant_of g p ≡ Some c → Linked g n c
    go (node.constant k) q e = absurd (none-some e)
    go (node.input i) q e = absurd (none-some e)
    go (node.refine i) q e = absurd (none-some e)
    go (node.effect i) q e = absurd (none-some e)
    go (node.slice i s v) q e = absurd (none-some e)
    go (node.concat i j v) q e = absurd (none-some e)
    go (node.unary u i) q e = absurd (none-some e)
    go (node.binary b i j) q e = on (literal g j) refl e
      where
        on : (k : Option ℕ) → literal g j ≡ k → with_constant b i k ≡ Some c → Linked g n c
        on None d e = absurd (none-some e)
        on (Some k) d e =
            let f : record { op = b; base = i; value = k } ≡ c = some_is e in
            record {
              constant = j;
              operation = q ∙ ap (λ (h : ByConstant). node.binary h.op h.base j) f;
              has = d ∙ ap (λ (h : ByConstant). Some h.value) f;
            }

-- node n is an operation by a constant
module _ {ρ : World} {g : List ℕ} (i : Inv ρ g) (n : ℕ) (l : n < count_of g) (c : ByConstant) (f : Linked g n c) where
  pub by_constant_here : (c.base < count_of g) × (f.constant < count_of g)
  by_constant_here = let b = below_at ρ g i n l (node.binary c.op c.base f.constant) f.operation in (omega arith, omega arith)

  pub by_constant-typed : stored_typed c.op (type_at g c.base) (type_at g f.constant) (type_at g n) ≡ true
  by_constant-typed = typed_at ρ g i n l (node.binary c.op c.base f.constant) f.operation

  pub by_constant-means : (v : ℕ) → value ρ g n ≡ Some v
      → (x : ℕ) × (value ρ g c.base ≡ Some x) × (binary_value c.op (type_at g n) x c.value ≡ Some v)
  by_constant-means v e =
      let t = type_at g n in
      let s = operands ρ g t c.op c.base f.constant v (means_at ρ g i n l v e (node.binary c.op c.base f.constant) f.operation) in
      let y : s.y ≡ c.value = some_is (sym s.right ∙ literal-value ρ g i f.constant c.value by_constant_here.1 f.has) in
      let q = then_is (binary_value c.op t s.x s.y) (of_type t) v s.means in
      (s.x, s.left, ap (binary_value c.op t s.x) (sym y) ∙ q.1 ∙ ap Some (sym (typed_is t q.0 v q.2).0))

-- y is x And c
record AndSays (x y c w : ℕ) : Type 0 where
  pub means : y ≡ bit_and x c
  small : c < 2 ^ w

-- y is the value of i Or c
record OrSays (ρ : World) (g : List ℕ) (i y c w : ℕ) : Type 0 where
  pub left : ℕ
  pub here : i < count_of g
  pub type : type_at g i ≡ ty.Bits w
  pub has : value ρ g i ≡ Some left
  pub means : y ≡ bit_or left c
  small : c < 2 ^ w

module _ (ρ : World) (g : List ℕ) (inv : Inv ρ g) where
  valued_is : (t : ScalarType) (w z v : ℕ) → t ≡ ty.Bits w → z < 2 ^ w → valued t z ≡ Some v → v ≡ z
  valued_is t w z v q l e =
      let f : valued (ty.Bits w) z ≡ Some v = subst (λ (k : ScalarType). valued k z ≡ Some v) q e in
      (typed_is (ty.Bits w) (z % 2 ^ w) v f).0 ∙ mod-eq_of_lt l

  and-value : (n i j c w x y : ℕ) → n < count_of g → operation_at g n ≡ node.binary bi.And i j → literal g j ≡ Some c → type_at g n ≡ ty.Bits w
      → value ρ g i ≡ Some x → value ρ g n ≡ Some y → AndSays x y c w
  and-value n i j c w x y l e lit t ex ey =
      let b = below_at ρ g inv n l (node.binary bi.And i j) e in
      let q = tests (same_type (type_at g i) (type_at g n)) (same_type (type_at g j) (type_at g n)) (typed_at ρ g inv n l (node.binary bi.And i j) e) in
      let small : c < 2 ^ w = literal_below inv j c (ty.Bits w) (omega arith) (same_type_lem (type_at g j) (type_at g n) q.1 ∙ t) lit in
      let s = operands ρ g (type_at g n) bi.And i j y (means_at ρ g inv n l y ey (node.binary bi.And i j) e) in
      let xs : s.x ≡ x = some_is (sym s.left ∙ ex) in
      let ys : s.y ≡ c = some_is (sym s.right ∙ literal-value ρ g inv j c (omega arith) lit) in
      let m : valued (type_at g n) (bit_and x c) ≡ Some y = rw (← xs, ← ys) (and-means (type_at g n) s.x s.y y s.means) in
      record { means = valued_is (type_at g n) w (bit_and x c) y t (lt_of_le_of_lt (and_le_r x c) small) m; small = small }

  or-value : (n i j c w y : ℕ) → n < count_of g → operation_at g n ≡ node.binary bi.Or i j → literal g j ≡ Some c → type_at g n ≡ ty.Bits w
      → value ρ g n ≡ Some y → OrSays ρ g i y c w
  or-value n i j c w y l e lit t ey =
      let b = below_at ρ g inv n l (node.binary bi.Or i j) e in
      let q = tests (same_type (type_at g i) (type_at g n)) (same_type (type_at g j) (type_at g n)) (typed_at ρ g inv n l (node.binary bi.Or i j) e) in
      let ti : type_at g i ≡ ty.Bits w = same_type_lem (type_at g i) (type_at g n) q.0 ∙ t in
      let small : c < 2 ^ w = literal_below inv j c (ty.Bits w) (omega arith) (same_type_lem (type_at g j) (type_at g n) q.1 ∙ t) lit in
      let s = operands ρ g (type_at g n) bi.Or i j y (means_at ρ g inv n l y ey (node.binary bi.Or i j) e) in
      let ys : s.y ≡ c = some_is (sym s.right ∙ literal-value ρ g inv j c (omega arith) lit) in
      let ls : s.x < 2 ^ w = subst (λ (k : ScalarType). s.x < size k) ti (value_small inv i (omega arith) s.x s.left) in
      let m : valued (type_at g n) (bit_or s.x c) ≡ Some y = rw (← ys) (or-means (type_at g n) s.x s.y y s.means) in
      record {
        left = s.x;
        here = omega arith;
        type = ti;
        has = s.left;
        means = valued_is (type_at g n) w (bit_or s.x c) y t (or_lt w s.x c ls small) m;
        small = small;
      }

  by_constant-value : (n w x y : ℕ) (c : ByConstant) → n < count_of g → type_at g n ≡ ty.Bits w → by_constant_at g n ≡ Some c → c.op ≡ bi.And → value ρ g c.base ≡ Some x
      → value ρ g n ≡ Some y → AndSays x y c.value w
  by_constant-value n w x y c l t e o ex ey =
      let s = linked g n c e in
      and-value n c.base s.constant c.value w x y l (s.operation ∙ ap (λ (h : Binary). node.binary h c.base s.constant) o) s.has t ex ey

-- y is x with what is not kept replaced
record UpdateSays (x y kept lit w : ℕ) : Type 0 where
  pub means : y ≡ bit_or (bit_and x kept) lit
  pub keep : kept < 2 ^ w
  pub literal : lit < 2 ^ w

-- what a masked comparison tells of x and y
pub record MaskSays (ρ : World) (g : List ℕ) (o : Binary) (x y : ℕ) (m : Mask) : Type 0 where
  pub width : ℕ
  pub type : m.type ≡ ty.Bits width
  pub here : m.base < count_of g
  pub typed : type_at g m.base ≡ m.type
  pub mask : m.mask < 2 ^ width
  pub literal : m.literal < 2 ^ width
  pub result : m.result ≡ ty.Bool
  pub op : m.op ≡ o
  pub base : ℕ
  pub has : value ρ g m.base ≡ Some base
  pub means : eqb x y ≡ eqb (bit_and base m.mask) m.literal

mask_swap : (ρ : World) (g : List ℕ) (o : Binary) (x y : ℕ) (m : Mask) → MaskSays ρ g o y x m → MaskSays ρ g o x y m
mask_swap ρ g o x y m s = search (arith, eqb_sym)

module _ (ρ : World) (g : List ℕ) (inv : Inv ρ g) (n w x y : ℕ) (l : n < count_of g) (t : type_at g n ≡ ty.Bits w) (ey : value ρ g n ≡ Some y) (c : ByConstant)
    (o : c.op ≡ bi.And) (ex : value ρ g c.base ≡ Some x) where
  -- the node itself is the And
  bare_update : (u : Update) → Some (record { preserved = n; literal = 0 }) ≡ Some u → by_constant_at g u.preserved ≡ Some c
      → UpdateSays x y c.value u.literal w
  bare_update u e q =
      let f : record { preserved = n; literal = 0 } ≡ u = some_is e in
      let fp : n ≡ u.preserved = ap (λ (h : Update). h.preserved) f in
      let fl : 0 ≡ u.literal = ap (λ (h : Update). h.literal) f in
      let s = by_constant-value ρ g inv n w x y c l t (ap (by_constant_at g) fp ∙ q) o ex ey in
      rw (← fl) (record { means = s.means ∙ sym (or_zero_r (bit_and x c.value)); keep = s.small; literal = pow_pos w })

  update_says : (u : Update) → update_at g n ≡ Some u → by_constant_at g u.preserved ≡ Some c → UpdateSays x y c.value u.literal w
  unfolding update_at
  update_says u e q = go (operation_at g n) refl e
    where
      go : (p : Op) → operation_at g n ≡ p → update_of g n p ≡ Some u → UpdateSays x y c.value u.literal w
      go (node.constant k) d e = bare_update u e q
      go (node.input i) d e = bare_update u e q
      go (node.refine i) d e = bare_update u e q
      go (node.effect i) d e = bare_update u e q
      go (node.slice i s v) d e = bare_update u e q
      go (node.concat i j v) d e = bare_update u e q
      go (node.unary a i) d e = bare_update u e q
      go (node.binary b i j) d e = on (same_binary b bi.Or) refl (literal g j) refl e
        where
          on : (z : Bool) → same_binary b bi.Or ≡ z → (k : Option ℕ) → literal g j ≡ k
              → cond z (given k (λ a. Some (record { preserved = i; literal = a })) None) (Some (record { preserved = n; literal = 0 })) ≡ Some u
              → UpdateSays x y c.value u.literal w
          on false zb k zk e = bare_update u e q
          on true zb None zk e = absurd (none-some e)
          on true zb (Some k) zk e =
              let f : record { preserved = i; literal = k } ≡ u = some_is e in
              let fp : i ≡ u.preserved = ap (λ (h : Update). h.preserved) f in
              let fl : k ≡ u.literal = ap (λ (h : Update). h.literal) f in
              let r = or-value ρ g inv n i j k w y l (d ∙ ap (λ (h : Binary). node.binary h i j) (binary_is b bi.Or zb)) zk t ey in
              let s = by_constant-value ρ g inv i w x r.left c r.here r.type (ap (by_constant_at g) fp ∙ q) o ex r.has in
              rw (← fl) (record { means = r.means ∙ ap (λ (h : ℕ). bit_or h k) s.means; keep = s.small; literal = r.small })

next_found : {m : Mask} → next ≡ found m → ⊥
next_found e = let z : ◌≡◌ {A = ℕ} 0 1 = cc in omega arith

end_found : {m : Mask} → end ≡ found m → ⊥
end_found e = let z : ◌≡◌ {A = ℕ} 0 1 = cc in omega arith

found_is : {a b : Mask} → found a ≡ found b → a ≡ b
found_is e = cc

-- how a base and an updated node gave a mask
pub record Folded (g : List ℕ) (o : Binary) (base updated : ℕ) (m : Mask) : Type 0 where
  pub width : ℕ
  pub update : Update
  pub shape : ByConstant
  pub typed : type_at g base ≡ ty.Bits width
  pub also : type_at g updated ≡ ty.Bits width
  pub updates : update_at g updated ≡ Some update
  pub shaped : by_constant_at g update.preserved ≡ Some shape
  pub kept : keeps base width update.literal shape ≡ true
  pub is : changed_bits o base width update.literal shape ≡ m

module _ (g : List ℕ) (o : Binary) where
  pub folded : (base updated : ℕ) (m : Mask) → fold_pair g o base updated ≡ found m → Folded g o base updated m
  unfolding fold_pair
  folded base updated m = go (type_at g base) refl
    where
      Finds : PairFold → Type 0
      Finds k = k ≡ found m → Folded g o base updated m

      go : (t : ScalarType) → type_at g base ≡ t → Finds (fold_typed g o base updated t)
      go ty.Bool tb = λ e. absurd (next_found e)
      go ty.Integer tb = λ e. absurd (next_found e)
      go (ty.Bits w) tb =
          by_test Finds (same_type (type_at g updated) (ty.Bits w))
          (λ tu.
          by_given Finds (update_at g updated)
          (λ u eu.
          by_given Finds (by_constant_at g u.preserved)
          (λ c ec.
          by_test Finds (keeps base w u.literal c)
          (λ k e.
          record {
            width = w;
            update = u;
            shape = c;
            typed = tb;
            also = same_type_lem (type_at g updated) (ty.Bits w) tu;
            updates = eu;
            shaped = ec;
            kept = k;
            is = found_is e;
          })
          (λ k e. absurd (next_found e)))
          (λ n e. absurd (next_found e)))
          (λ n e. absurd (end_found e)))
          (λ n e. absurd (next_found e))

  -- either node being the base
  pub first_folded : (left right : ℕ) (m : Mask) → fold_masked_comparison g o left right ≡ Some m → (fold_pair g o left right ≡ found m) ⊎ (fold_pair g o right left ≡ found m)
  unfolding fold_masked_comparison
  first_folded left right m = go (fold_pair g o left right) (fold_pair g o right left)
    where
      go : (a b : PairFold) → first_found a b ≡ Some m → (a ≡ found m) ⊎ (b ≡ found m)
      go next next e = absurd (none-some e)
      go next end e = absurd (none-some e)
      go next (found h) e = inr (ap found (some_is e))
      go end b e = absurd (none-some e)
      go (found h) b e = inl (ap found (some_is e))

module _ (ρ : World) (g : List ℕ) (inv : Inv ρ g) (o : Binary) where
  module _ (base updated x y : ℕ) (lb : base < count_of g) (lu : updated < count_of g) (ex : value ρ g base ≡ Some x) (ey : value ρ g updated ≡ Some y) where
    changed_says : (w : ℕ) (u : Update) (c : ByConstant) → type_at g base ≡ ty.Bits w → type_at g updated ≡ ty.Bits w → update_at g updated ≡ Some u
        → by_constant_at g u.preserved ≡ Some c → keeps base w u.literal c ≡ true → MaskSays ρ g o x y (changed_bits o base w u.literal c)
    changed_says w u c tb tu eu ec k =
        let p = tests (same_binary c.op bi.And) (eqb c.base base && (eqb (bit_and u.literal c.value) 0 && leb u.literal (mask w))) k in
        let q = tests (eqb c.base base) (eqb (bit_and u.literal c.value) 0 && leb u.literal (mask w)) p.1 in
        let r = tests (eqb (bit_and u.literal c.value) 0) (leb u.literal (mask w)) q.1 in
        let same : c.base ≡ base = eqb-true c.base base q.0 in
        let s =
        update_says ρ g inv updated w x y lu tu ey c (binary_is c.op bi.And p.0) (ap (value ρ g) same ∙ ex) u eu ec in
        let lx : x < 2 ^ w = subst (λ (h : ScalarType). x < size h) tb (value_small inv base lb x ex) in
        let lw : w ≤ 128 = subst (λ (h : ScalarType). type_width h ≤ 128) tb (inv_width inv base lb) in
        let m : bit_and (u128.not c.value) (mask w) ≡ 2 ^ w - 1 - c.value = mask_is w c.value lw s.keep in
        record {
          width = w;
          type = refl;
          here = lb;
          typed = tb;
          mask = rw m (not_small (2 ^ w) c.value (pow_pos w));
          literal = s.literal;
          result = refl;
          op = refl;
          base = x;
          has = ex;
          means =
              ap (eqb x) s.means
              ∙ same_test w x c.value u.literal lx s.keep s.literal (eqb-true (bit_and u.literal c.value) 0 r.0)
              ∙ ap (λ (h : ℕ). eqb (bit_and x h) u.literal) (sym m);
        }

    fold_says : (m : Mask) → fold_pair g o base updated ≡ found m → MaskSays ρ g o x y m
    fold_says m e =
        let s = folded g o base updated m e in
        subst (MaskSays ρ g o x y) s.is (changed_says s.width s.update s.shape s.typed s.also s.updates s.shaped s.kept)

  pub masked_sound : (left right x y : ℕ) → left < count_of g → right < count_of g → value ρ g left ≡ Some x → value ρ g right ≡ Some y → (m : Mask)
      → fold_masked_comparison g o left right ≡ Some m → MaskSays ρ g o x y m
  masked_sound left right x y ll lr ex ey m e =
      ⊎_elim (fold_says left right x y ll lr ex ey m) (λ q. mask_swap ρ g o x y m (fold_says right left y x lr ll ey ex m q)) (first_folded g o left right m e)

-- binary: the masked comparison, the stored node, and all its decisions in their order. Assumes nothing.
use mathlib.Core.Path.{◌≡◌, refl, sym, ap, ◌∙◌, subst}
use mathlib.Core.Bool.{true, not, ◌&&◌}
use mathlib.Core.List.{List}
use mathlib.Core.Logic.{⊎_elim}
use Rattle.std.specs.Prelude.{Option, None, Some}
use Prim.Native.Nat.{ℕ, ◌^◌, ◌≤◌, ◌<◌}
use native.Mathlib.Nat.{mod-eq_of_lt}
use native.Mathlib.Omega.{arith}
use borrow.Author.Tests.{eq-eqb, eqb-true}
use lib.Bits.{bit_and}
use lib.Dec.{eqb}
use Rattle.word.specs.Option.{provided, given, is_some, or_else}
use Rattle.range.specs.Interval.{Interval}
use Rattle.range.specs.declared.ScalarType.{ScalarType}
use Rattle.range.specs.declared.ScalarType.TheVariants as ty
use Rattle.range.proofs.Sound.{tests}
use Rattle.range.proofs.Answers.{none-some, some_is, provided_is}
use Rattle.evaluate.specs.Evaluate.{reduced, binary_value}
use Rattle.evaluate.specs.Operator.{type_width}
use Rattle.evaluate.specs.declared.Binary.{Binary}
use Rattle.evaluate.specs.declared.Binary.TheVariants as bi
use Rattle.graph.specs.Layout.{count_of}
use Rattle.graph.specs.Node as node
use Rattle.graph.specs.Node.{type_at, range_at}
use Rattle.graph.specs.Insert.{literal}
use Rattle.bitfield.specs.Bitfield.{Mask, found, fold_pair, fold_masked_comparison}
use Rattle.fold.specs.Operator.{equalities}
use Rattle.fold.specs.Range.{binary_range, ranged_at}
use Rattle.fold.specs.Shape.{same_type, is_any}
use Rattle.plan.specs.Plan as plan
use Rattle.plan.specs.Plan.{Plan, First, tries, binary_rest, constant_or}
use Rattle.plan_binary.specs.Binary.{is_swapped, evaluated, shift_plan, offset_plan, compared_plan, with_itself, right_plan, literal_plan, decided_plan, sum_plan, store_plan, binary_plan, equality_first, open_first, binary_first}
use Rattle.build.specs.Build.{binary}
use Rattle.build.specs.Rest.{rest_plan}
use Rattle.meaning.specs.Value.{size, of_type, and_then, binary_means}
use Rattle.meaning.proofs.Worlds.{World, operand, value}
use Rattle.meaning.proofs.Values.{typed_of}
use Rattle.meaning.proofs.Invariant.{stored_typed, Inv, inv_width, inv_valid, ext_here, ext_type, ext_value, Storable, Kept}
use Rattle.meaning.proofs.Compared.{mask_value}
use Rattle.meaning.proofs.Answers.{by_test, by_given, each_provided, each_given, each_or, of_any}
use Rattle.meaning.proofs.Constants.{reduced_same, stored_of}
use Rattle.meaning.proofs.Field.{literal-value, operands, masked_sound, folded, first_folded}
use Rattle.meaning.proofs.Offsets.{swapped_claim, sum_claim, offset_claim, equality_value}
use Rattle.meaning.proofs.Plans.{Covers, Claim, Masking, FirstClaim, bits_number}
use Rattle.meaning.proofs.Ranges.{stored_within, held_at}
use Rattle.meaning.proofs.Right.{compared_claim, twice_claim, right_claim, mask_claim}
use Rattle.meaning.proofs.Shifts.{shift_claim}
use Rattle.meaning.proofs.Tree.{Callable}
use Rattle.meaning.proofs.Unary.{binary-ends, binary_valid, binary_small}
use Rattle.meaning.proofs.Views.{same_type_lem, value_small}

module _ {ρ : World} {g : List ℕ} (i : Inv ρ g) (t : ScalarType) (o : Binary) (l r : ℕ) (k : Callable g (binary t o l r)) where
  abbrev Asked : Plan → Type 0
  Asked p = Claim ρ g t (binary_means t o (value ρ g l) (value ρ g r)) p

  -- ---- a new node

  store_storable : (a : Option Interval) → binary_range t o (range_at g l) (range_at g r) ≡ Some a → Storable ρ g t a (node.binary o l r)
  store_storable a e =
      let ends = binary-ends o t (range_at g l) (range_at g r) a (i.ends l k.1) (i.ends r k.2) e in
      let wide = k.0 in
      let left = k.1 in
      let right = k.2 in
      record {
        stored = stored_of wide ends (omega arith) (omega arith);
        width = k.0;
        below = omega arith;
        offset = omega arith;
        parameter = omega arith;
        valid = binary_valid o t (type_at g l) (type_at g r) (range_at g l) (range_at g r) a (inv_valid i l k.1) (inv_valid i r k.2) (i.ends l k.1) e;
        typed = k.3;
        refined = λ sure. tt;
        ends = ends;
        within = λ sure v q.
            stored_within ρ.env t k.0 (ranged_at g) (operand ρ g) a v (node.binary o l r) (k.3, held_at i l k.1 sure, held_at i r k.2 sure) q e;
      }

  store_claim : (a : Option (Option Interval)) → binary_range t o (range_at g l) (range_at g r) ≡ a → (d : Option Plan) → ((p : Plan) → d ≡ Some p → Asked p)
      → Asked (store_plan t o l r d a)
  store_claim None e d h = tt
  store_claim (Some a) e d h = by_given Asked d h (λ n. (refl, store_storable a e, λ sure x q. q))

  -- ---- the plan after the masked comparison

  literal_claim : (p : Plan) → literal_plan g t o l r (literal g r) ≡ Some p → Asked p
  literal_claim =
      each_given Asked (literal g r)
      (λ c e. each_or Asked (right_plan t o l r c) (right_claim i t o l r k c e) (mask_claim i t o l r k c e))

  decided_claim : (p : Plan) → decided_plan g t o l r ≡ Some p → Asked p
  decided_claim =
      each_or Asked (offset_plan g t o l (literal g r)) (offset_claim i t o l r k)
      (each_or Asked (compared_plan o (range_at g l) (range_at g r)) (compared_claim i t o l r k)
      (each_or Asked (provided (eqb l r) (with_itself t o l))
      (each_provided Asked (eqb l r) (λ e. twice_claim i t o l r k (eqb-true l r e))) literal_claim))

  binary_plan_claim : Asked (binary_plan g t o l r)
  unfolding binary_plan
  binary_plan_claim =
      by_given Asked (decided_plan g t o l r) decided_claim
      (λ n.
      store_claim (binary_range t o (range_at g l) (range_at g r)) refl (given (literal g r) (sum_plan g t o l) None)
      (each_given Asked (literal g r) (λ c e. sum_claim i t o l r k c e)))

  -- ---- two constants

  constants_claim : (p : Plan) → evaluated t o (literal g l) (literal g r) ≡ Some p → Asked p
  constants_claim p e = by (literal g l) refl (literal g r) refl e
    where
      -- the constant of an answer, or None
      answer : (a b : ℕ) → literal g l ≡ Some a → literal g r ≡ Some b → (v : Option ℕ) → binary_value o t a b ≡ v → Asked (constant_or t v)
      answer a b p q None d = tt
      answer a b p q (Some v) d =
          let va = literal-value ρ g i l a k.1 p in
          let vb = literal-value ρ g i r b k.2 q in
          let small = binary_small o (type_at g l) (type_at g r) t a b v k.3 k.0 (value_small i l k.1 a va) (value_small i r k.2 b vb) d in
          let same = reduced_same t v small in (
            refl,
            record { width = k.0; small = subst (λ (n : ℕ). n < size t) (sym same) small },
            λ sure x e.
                let w : binary_means t o (value ρ g l) (value ρ g r) ≡ Some v
                = (λ j. binary_means t o (va j) (vb j)) ∙ ap (λ (c : Option ℕ). and_then c (of_type t)) d ∙ typed_of t v small in
                ap Some same ∙ sym w ∙ e,
          )

      by : (a : Option ℕ) → literal g l ≡ a → (b : Option ℕ) → literal g r ≡ b → evaluated t o a b ≡ Some p → Asked p
      by None pa b pb e = absurd (none-some e)
      by (Some a) pa None pb e = absurd (none-some e)
      by (Some a) pa (Some b) pb e = subst Asked (some_is e) (answer a b pa pb (binary_value o t a b) refl)

-- ---- the masked comparison, whether or not its operands have values

record MaskFacts (g : List ℕ) (o : Binary) (m : Mask) : Type 0 where
  width : ℕ
  type : m.type ≡ ty.Bits width
  here : m.base < count_of g
  typed : type_at g m.base ≡ ty.Bits width
  result : m.result ≡ ty.Bool
  op : m.op ≡ o

module _ (g : List ℕ) (o : Binary) where
  pair_facts : (base updated : ℕ) → base < count_of g → (m : Mask) → fold_pair g o base updated ≡ found m → MaskFacts g o m
  pair_facts base updated l m e =
      let s = folded g o base updated m e in
      subst (MaskFacts g o) s.is (record { width = s.width; type = refl; here = l; typed = s.typed; result = refl; op = refl })

  mask_facts : (l r : ℕ) → l < count_of g → r < count_of g → (m : Mask) → fold_masked_comparison g o l r ≡ Some m → MaskFacts g o m
  mask_facts l r ll lr m e = ⊎_elim (pair_facts l r ll m) (pair_facts r l lr m) (first_folded g o l r m e)

-- ---- its nodes, of Equal and NotEqual

compare_typed : (w : ℕ) (o : Binary) → is_any equalities o ≡ true → stored_typed o (ty.Bits w) (ty.Bits w) ty.Bool ≡ true
compare_typed w = of_any (λ o. stored_typed o (ty.Bits w) (ty.Bits w) ty.Bool ≡ true) equalities (eq-eqb w w refl) (eq-eqb w w refl)

result_bool : (a b t : ScalarType) (o : Binary) → is_any equalities o ≡ true → stored_typed o a b t ≡ true → t ≡ ty.Bool
result_bool a b t =
    let bool : same_type t ty.Bool && same_type a b ≡ true → t ≡ ty.Bool = λ s. same_type_lem t ty.Bool (tests (same_type t ty.Bool) _ s).0 in
    of_any (λ o. stored_typed o a b t ≡ true → t ≡ ty.Bool) equalities bool bool

module _ {ρ : World} {g : List ℕ} (i : Inv ρ g) (o : Binary) (l r : ℕ) (k : Callable g (binary ty.Bool o l r)) (q : is_any equalities o ≡ true) where
  -- its value, where both operands have one
  mask_covers : (w : ℕ) (b : ℕ) (c d : ℕ) → fold_masked_comparison g o l r ≡ Some (record { type = ty.Bits w; base = b; mask = c; result = ty.Bool; op = o; literal = d })
      → Covers (binary_means ty.Bool o (value ρ g l) (value ρ g r))
      (binary_means ty.Bool o (binary_means (ty.Bits w) bi.And (value ρ g b) (Some (reduced (ty.Bits w) c))) (Some (reduced (ty.Bits w) d)))
  mask_covers w b c d e x h =
      let p = operands ρ g ty.Bool o l r x h in
      let s = masked_sound ρ g i o l r p.x p.y k.1 k.2 p.left p.right (record { type = ty.Bits w; base = b; mask = c; result = ty.Bool; op = o; literal = d }) e in
      let same : w ≡ s.width = bits_is s.type in
      let lc : c < 2 ^ w = subst (λ (n : ℕ). c < 2 ^ n) (sym same) s.mask in
      let ld : d < 2 ^ w = subst (λ (n : ℕ). d < 2 ^ n) (sym same) s.literal in
      (λ j. binary_means ty.Bool o (binary_means (ty.Bits w) bi.And (s.has j) (Some (reduced (ty.Bits w) c))) (Some (mod-eq_of_lt ld j)))
      ∙ (λ j. binary_means ty.Bool o (mask_value w s.base c lc j) (Some d))
      ∙ ap (λ (n : Option ℕ). and_then n (of_type ty.Bool)) (sym (equality_value ty.Bool p.x p.y (bit_and s.base c) d s.means o q)) ∙ p.means
    where
      bits_is : {a b : ℕ} → ty.Bits a ≡ ty.Bits b → a ≡ b
      bits_is e = cc

  masking : (m : Mask) → fold_masked_comparison g o l r ≡ Some m → Masking ρ g ty.Bool (binary_means ty.Bool o (value ρ g l) (value ρ g r)) m
  masking m e =
      let f = mask_facts g o l r k.1 k.2 m e in
      let s : m ≡ record { type = ty.Bits f.width; base = m.base; mask = m.mask; result = ty.Bool; op = o; literal = m.literal }
      = (λ j. record { type = f.type j; base = m.base; mask = m.mask; result = f.result j; op = f.op j; literal = m.literal }) in
      let wide : f.width ≤ 128 = subst (λ (t : ScalarType). type_width t ≤ 128) f.typed (inv_width i m.base f.here) in
      subst (Masking ρ g ty.Bool (binary_means ty.Bool o (value ρ g l) (value ρ g r))) (sym s) (
        bits_number wide m.mask,
        bits_number wide m.literal,
        f.here,
        ap (λ (t : ScalarType). stored_typed bi.And t (ty.Bits f.width) (ty.Bits f.width)) f.typed ∙ rw (eq-eqb f.width f.width refl),
        refl,
        omega arith,
        compare_typed f.width o q,
        λ sure. mask_covers f.width m.base m.mask m.literal (e ∙ ap Some s),
      )

-- ---- binary whole

module _ {ρ : World} {g : List ℕ} (i : Inv ρ g) (t : ScalarType) (o : Binary) (l r : ℕ) (k : Callable g (binary t o l r)) where
  abbrev Begun : First → Type 0
  Begun f = FirstClaim ρ g t (binary_means t o (value ρ g l) (value ρ g r)) f

  -- after the masked comparison, on the graph as it then is
  rest_claim : (h : List ℕ) → Kept ρ g h → Claim ρ h t (binary_means t o (value ρ g l) (value ρ g r)) (rest_plan h (binary_rest t o l r))
  unfolding rest_plan
  rest_claim h a =
      let e = a.grows in
      subst (λ (w : Option ℕ). Claim ρ h t w (binary_plan h t o l r)) (λ j. binary_means t o (ext_value ρ e l k.1 j) (ext_value ρ e r k.2 j))
      (binary_plan_claim a.inv t o l r
      (k.0, ext_here e l k.1, ext_here e r k.2, (λ j. stored_typed o (ext_type e l k.1 j) (ext_type e r k.2 j) t) ∙ k.3))

  equality_claim : Begun (equality_first g t o l r)
  equality_claim =
      by_given Begun (provided (is_any equalities o) (fold_masked_comparison g o l r))
      (λ m e. let p = provided_is (is_any equalities o) (fold_masked_comparison g o l r) e in masked p.0 m p.1) (λ n. binary_plan_claim i t o l r k)
    where
      masked : is_any equalities o ≡ true → (m : Mask) → fold_masked_comparison g o l r ≡ Some m → Begun (tries (plan.masked m) (binary_rest t o l r))
      masked q m e =
          let b = result_bool (type_at g l) (type_at g r) t o q k.3 in (
            subst (λ (t : ScalarType). Callable g (binary t o l r) → Masking ρ g t (binary_means t o (value ρ g l) (value ρ g r)) m) (sym b)
                (λ c. masking i o l r c q m e) k,
            rest_claim,
          )

  open_claim : Begun (open_first g t o l r)
  open_claim =
      by_given Begun (or_else (evaluated t o (literal g l) (literal g r)) (shift_plan g t o l (literal g r)))
      (each_or (Claim ρ g t (binary_means t o (value ρ g l) (value ρ g r))) (evaluated t o (literal g l) (literal g r))
      (constants_claim i t o l r k) (shift_claim i l r k.1 k.2 t k.0 o k.3 (literal g r) refl)) (λ n. equality_claim)

  pub binary_first_claim : Begun (binary_first g t o l r)
  unfolding binary_first
  binary_first_claim =
      by_test Begun (is_swapped o (literal g l) (literal g r))
      (λ e. swapped_claim i t o l r k (tests (not (is_some (literal g r))) _ (tests (is_some (literal g l)) _ e).1).1) (λ e. open_claim)

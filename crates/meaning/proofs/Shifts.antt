-- Shifts in Bits by a constant: what they come to, and that binary's plans for them claim what is asked. Assumes nothing.
use mathlib.Core.Path.{◌≡◌, refl, sym, ap, ◌∙◌, subst}
use mathlib.Core.Bool.{Bool, true, cond, ◌&&◌, ◌||◌}
use mathlib.Core.List.{List}
use mathlib.Core.Logic.{⊎_elim}
use Rattle.std.specs.Prelude.{Option, None, Some}
use Prim.Native.Nat.{ℕ, zero, suc, ◌+◌, ◌-◌, ◌*◌, ◌/◌, ◌%◌, ◌^◌, ◌≤◌, ◌<◌}
use native.Mathlib.Decide.{dec_lt}
use native.Mathlib.Nat.{mod-mod, mod-lt, mod-eq_of_lt, mul_assoc, lt_of_lt_of_le}
use native.Mathlib.Omega.{arith}
use borrow.Author.Tests.{ltb-true, leb-true, leb-false, le-leb}
use lib.Dec.{ltb, leb}
use lib.Pow.{pow_pos, pow_mono, pow-add}
use Rattle.range.specs.declared.ScalarType.{ScalarType}
use Rattle.range.specs.declared.ScalarType.TheVariants as ty
use Rattle.range.proofs.Sound.{tests, either}
use Rattle.range.proofs.Answers.{none-some, some_is, provided_is}
use Rattle.evaluate.specs.Evaluate.{binary_value}
use Rattle.evaluate.specs.Operator.{type_width}
use Rattle.evaluate.specs.declared.Binary.{Binary}
use Rattle.evaluate.specs.declared.Binary.TheVariants as bi
use Rattle.evaluate.proofs.Fields.{narrow}
use Rattle.word.proofs.Shifts.{left_all, right_all}
use Rattle.evaluate.proofs.Shifts.{shift_left, shift_right}
use Rattle.bit_laws.proofs.Bit.{bit-shl, bit-shl_low, bit-mod}
use Rattle.bit_laws.specs.Bit.{bit}
use Rattle.bit_laws.proofs.Slices as slices
use Rattle.graph.specs.Layout.{LIMIT, count_of}
use Rattle.graph.specs.Node.{type_at, range_at}
use Rattle.graph.specs.Insert.{literal}
use Rattle.fold.specs.Operator.{shifts}
use Rattle.fold.specs.Shape.{same_type, same_binary, narrow_type, fits, is_any, ByConstant, by_constant_at, refined_at, down, origin}
use Rattle.request.specs.Typing.{is_number}
use Rattle.plan.specs.Plan as plan
use Rattle.plan.specs.Plan.{Plan}
use Rattle.plan_binary.specs.Binary.{is_shifted_out, back_shift, shift_of_shift, shift_by, shift_plan}
use Rattle.meaning.specs.Value.{size, of_type, valued, and_then, binary_means, slice_means}
use Rattle.meaning.proofs.Worlds.{World, value}
use Rattle.meaning.proofs.Constants.{low_valued}
use Rattle.meaning.proofs.Answers.{given_is, by_test, binary_is, of_any, by_given, Each, each_some}
use Rattle.meaning.proofs.Invariant.{shiftable, stored_typed, Inv}
use Rattle.meaning.proofs.Plans.{Covers, Number, Claim, bits_number}
use Rattle.meaning.proofs.Views.{same_type_lem, value_small, value_pattern}
use Rattle.meaning.proofs.Modular.{refine-value}
use Rattle.meaning.proofs.Field.{literal-value, linked, by_constant_here, by_constant-typed, by_constant-means}

-- ---- the start of a chain of Refines

module _ {ρ : World} {g : List ℕ} (i : Inv ρ g) where
  down-value : (k n : ℕ) → n < count_of g → (down g k n < count_of g) × (ρ.IsSure → value ρ g n ≡ value ρ g (down g k n))
  down-value zero n l = (l, λ sure. refl)
  down-value (suc k) n l =
      by_given (λ (m : ℕ). (m < count_of g) × (ρ.IsSure → value ρ g n ≡ value ρ g m)) (refined_at g n)
      (λ p e.
      let d = refine-value i n l p e in
      let q = down-value k p (let b = d.0 in omega arith) in
      (q.0, λ sure. d.1 sure ∙ q.1 sure))
      (λ e. (l, λ sure. refl))

  pub origin-value : (n : ℕ) → n < count_of g → (origin g n < count_of g) × (ρ.IsSure → value ρ g n ≡ value ρ g (origin g n))
  unfolding origin
  origin-value n l = down-value LIMIT n l

-- ---- what shifts give; from 128 bits on, as from w on, nothing is left

module _ (w : ℕ) where
  left_value : w ≤ 128 → (x c : ℕ) → binary_value bi.ShiftLeft (ty.Bits w) x c ≡ Some (x * 2 ^ c % 2 ^ w)
  unfolding binary_value
  left_value wide x c = ap (λ (n : ℕ). Some (n % 2 ^ w)) (shift_left x c) ∙ ap Some (narrow (x * 2 ^ c) 128 w wide)

  right_value : (x c : ℕ) → x < 2 ^ 128 → binary_value bi.ShiftRight (ty.Bits w) x c ≡ Some (x / 2 ^ c % 2 ^ w)
  unfolding binary_value
  right_value x c l = ap (λ (n : ℕ). Some (n % 2 ^ w)) (shift_right x c l)

  low_means : (o : Binary) (x c r : ℕ) → binary_value o (ty.Bits w) x c ≡ Some (r % 2 ^ w)
      → binary_means (ty.Bits w) o (Some x) (Some c) ≡ Some (r % 2 ^ w)
  low_means o x c r e = ap (λ (a : Option ℕ). and_then a (of_type (ty.Bits w))) e ∙ low_valued w r

  left_means : w ≤ 128 → (x c : ℕ) → binary_means (ty.Bits w) bi.ShiftLeft (Some x) (Some c) ≡ Some (x * 2 ^ c % 2 ^ w)
  left_means wide x c = low_means bi.ShiftLeft x c (x * 2 ^ c) (left_value wide x c)

  right_means : (x c : ℕ) → x < 2 ^ 128 → binary_means (ty.Bits w) bi.ShiftRight (Some x) (Some c) ≡ Some (x / 2 ^ c % 2 ^ w)
  right_means x c l = low_means bi.ShiftRight x c (x / 2 ^ c) (right_value x c l)

  -- an operation by c that has a value
  by_count : (o : Binary) (f : ℕ → ℕ) (a b : Option ℕ) (c v : ℕ)
      → ((x : ℕ) → a ≡ Some x → binary_means (ty.Bits w) o (Some x) (Some c) ≡ Some (f x)) → b ≡ Some c → binary_means (ty.Bits w) o a b ≡ Some v
      → (x : ℕ) × (a ≡ Some x) × (v ≡ f x)
  by_count o f None b c v h e q = absurd (none-some q)
  by_count o f (Some x) b c v h e q = (x, refl, some_is (sym q ∙ ap (binary_means (ty.Bits w) o (Some x)) e ∙ h x refl))

-- left after left
shift_more : (x a b w : ℕ) → x * 2 ^ a % 2 ^ w * 2 ^ b % 2 ^ w ≡ x * 2 ^ (a + b) % 2 ^ w
shift_more x a b w =
    slices.low_bits (x * 2 ^ a % 2 ^ w * 2 ^ b) (y * 2 ^ b % 2 ^ w) w (mod-lt (y * 2 ^ b) (pow_pos w))
    (λ i l. go i l (dec_lt i b) ∙ sym (bit-mod (y * 2 ^ b) w i l))
    ∙ ap (λ (n : ℕ). n % 2 ^ w) (mul_assoc x (2 ^ a) (2 ^ b) ∙ ap (λ (n : ℕ). x * n) (sym (pow-add 2 a b)))
  where
    y : ℕ
    y = x * 2 ^ a

    go : (i : ℕ) → i < w → Dec (i < b) → bit (y % 2 ^ w * 2 ^ b) i ≡ bit (y * 2 ^ b) i
    go i l (yes p) = bit-shl_low (y % 2 ^ w) b i p ∙ sym (bit-shl_low y b i p)
    go i l (no p) =
        let e : b + (i - b) ≡ i = omega arith in
        subst (λ (k : ℕ). bit (y % 2 ^ w * 2 ^ b) k ≡ bit (y * 2 ^ b) k) e
        (bit-shl (y % 2 ^ w) b (i - b) ∙ bit-mod y w (i - b) (omega arith) ∙ sym (bit-shl y b (i - b)))

-- ---- the plans

-- a number of at most 8 bits
count-number : (c : ℕ) → c < 2 ^ 8 → Number ty.Integer c
count-number c l = record { width = omega arith; small = lt_of_lt_of_le l (pow_mono {i = 8} {j = 128} (omega arith)) }

out_wide : (o : Binary) (w c : ℕ) (b : Bool) → w ≤ 128 → is_shifted_out o w c b ≡ true → w ≤ c
out_wide o w c b wide e =
    ⊎_elim (λ q. let p = leb-true 128 c q in omega arith) (λ q. leb-true w c (tests (leb w c) _ q).0) (either (leb 128 c) _ e)

-- a node that is its base shifted left, in Bits(w)
record Shifted (ρ : World) (g : List ℕ) (w n : ℕ) (c : ByConstant) : Type 0 where
  here : c.base < count_of g
  typed : shiftable (type_at g c.base) (ty.Bits w) ≡ true
  means : ρ.IsSure → (v : ℕ) → value ρ g n ≡ Some v → (x : ℕ) × (value ρ g c.base ≡ Some x) × (v ≡ x * 2 ^ c.value % 2 ^ w)

module _ {ρ : World} {g : List ℕ} (i : Inv ρ g) (w : ℕ) (wide : w ≤ 128) where
  by_constant-shifted : (n : ℕ) → n < count_of g → type_at g n ≡ ty.Bits w → (c : ByConstant) → by_constant_at g n ≡ Some c → c.op ≡ bi.ShiftLeft → Shifted ρ g w n c
  by_constant-shifted n l t c e s =
      let f = linked g n c e in
      let k : stored_typed bi.ShiftLeft (type_at g c.base) (type_at g f.constant) (ty.Bits w) ≡ true =
      (λ z. stored_typed (sym s z) (type_at g c.base) (type_at g f.constant) (sym t z)) ∙ by_constant-typed i n l c f in
      record {
        here = (by_constant_here i n l c f).0;
        typed = (tests (shiftable (type_at g c.base) (ty.Bits w)) (is_number (type_at g f.constant)) k).0;
        means = λ sure v m.
            let d = by_constant-means i n l c f v m in
            (d.0, d.1, some_is (sym d.2 ∙ (λ z. binary_value (s z) (t z) d.0 c.value) ∙ left_value w wide d.0 c.value));
      }

  module _ (left right count : ℕ) (ll : left < count_of g) (known : value ρ g right ≡ Some count) where
    abbrev Asked : Binary → Plan → Type 0
    Asked o = Claim ρ g (ty.Bits w) (binary_means (ty.Bits w) o (value ρ g left) (value ρ g right))

    -- what a shift of a shift comes to
    abbrev again : Binary → ByConstant → Plan
    again o c = cond (same_binary o bi.ShiftRight) (back_shift w count c) (plan.constant_binary ty.Integer (c.value + count) (ty.Bits w) o c.base)

    module _ (o : Binary) (f : ℕ → ℕ) (gives : (x : ℕ) → value ρ g left ≡ Some x → binary_means (ty.Bits w) o (Some x) (Some count) ≡ Some (f x)) where
      covers : (d : Option ℕ) → ((x : ℕ) → value ρ g left ≡ Some x → d ≡ Some (f x))
          → Covers (binary_means (ty.Bits w) o (value ρ g left) (value ρ g right)) d
      covers d h v e = let p = by_count w o f (value ρ g left) (value ρ g right) count v gives known e in h p.0 p.1 ∙ ap Some (sym p.2)

      out_claim : ((x : ℕ) → value ρ g left ≡ Some x → f x ≡ 0) → Asked o (plan.constant (ty.Bits w) 0)
      out_claim h = (
        refl,
        bits_number wide 0,
        λ sure. covers (Some (0 % 2 ^ w)) (λ x e. ap Some (mod-eq_of_lt (pow_pos w) ∙ sym (h x e))),
      )

      by_claim : (w ≤ count → (x : ℕ) → value ρ g left ≡ Some x → f x ≡ 0)
          → ((c : ByConstant) → c.value < w → count < w → Shifted ρ g w left c → Asked o (again o c)) → (p : Plan) → shift_by g o w left count ≡ Some p → Asked o p
      by_claim out twice =
          by_test (Each (Asked o)) (is_shifted_out o w count (narrow_type (type_at g left) w || fits w (range_at g left)))
          (λ q. each_some (Asked o) _ (out_claim (out (out_wide o w count _ wide q))))
          (λ q p e.
          let a = provided_is (same_type (type_at g (origin g left)) (ty.Bits w)) _ e in
          let b = given_is (by_constant_at g (origin g left)) (shift_of_shift o w count) a.1 in
          let c : ByConstant = b.0 in
          let d = provided_is (ltb c.value w && (ltb count w && same_binary c.op bi.ShiftLeft)) (Some (again o c)) b.2 in
          let x = tests (ltb c.value w) (ltb count w && same_binary c.op bi.ShiftLeft) d.0 in
          let y = tests (ltb count w) (same_binary c.op bi.ShiftLeft) x.1 in
          let v = origin-value i left ll in
          let s =
          by_constant-shifted (origin g left) v.0 (same_type_lem (type_at g (origin g left)) (ty.Bits w) a.0) c b.1 (binary_is c.op bi.ShiftLeft y.1) in
          subst (Asked o) (some_is d.1)
          (twice c (ltb-true c.value w x.0) (ltb-true count w y.0)
          (record { here = s.here; typed = s.typed; means = λ sure z m. s.means sure z (sym (v.1 sure) ∙ m) })))

    -- ---- to the left

    left_gives : (x : ℕ) → value ρ g left ≡ Some x → binary_means (ty.Bits w) bi.ShiftLeft (Some x) (Some count) ≡ Some (x * 2 ^ count % 2 ^ w)
    left_gives x e = left_means w wide x count

    left_again : (c : ByConstant) → c.value < w → count < w → Shifted ρ g w left c → Asked bi.ShiftLeft (again bi.ShiftLeft c)
    left_again c lc l s = (
      count-number (c.value + count) (omega arith),
      refl,
      wide,
      s.here,
      rw s.typed refl,
      λ sure. covers bi.ShiftLeft (λ x. x * 2 ^ count % 2 ^ w) left_gives (binary_means (ty.Bits w) bi.ShiftLeft (value ρ g c.base) (Some (c.value + count)))
          (λ x e.
          let p = s.means sure x e in
          ap (λ (a : Option ℕ). binary_means (ty.Bits w) bi.ShiftLeft a (Some (c.value + count))) p.1 ∙ left_means w wide p.0 (c.value + count)
          ∙ ap Some (sym (ap (λ (n : ℕ). n * 2 ^ count % 2 ^ w) p.2 ∙ shift_more p.0 c.value count w))),
    )

    left_claim : (p : Plan) → shift_by g bi.ShiftLeft w left count ≡ Some p → Asked bi.ShiftLeft p
    left_claim = by_claim bi.ShiftLeft (λ x. x * 2 ^ count % 2 ^ w) left_gives (λ l x e. sym (left_all w count x l)) left_again

    -- ---- to the right

    right_gives : (x : ℕ) → value ρ g left ≡ Some x → binary_means (ty.Bits w) bi.ShiftRight (Some x) (Some count) ≡ Some (x / 2 ^ count % 2 ^ w)
    right_gives x e = right_means w x count (value_pattern i left ll x e)

    right_covers : (d : Option ℕ) → ((x : ℕ) → value ρ g left ≡ Some x → d ≡ Some (x / 2 ^ count % 2 ^ w))
        → Covers (binary_means (ty.Bits w) bi.ShiftRight (value ρ g left) (value ρ g right)) d
    right_covers = covers bi.ShiftRight (λ x. x / 2 ^ count % 2 ^ w) right_gives

    right_again : (c : ByConstant) → c.value < w → count < w → Shifted ρ g w left c → Asked bi.ShiftRight (again bi.ShiftRight c)
    right_again c lc l s =
        by_test (Asked bi.ShiftRight) (leb c.value count)
        (λ q. (
          (omega arith, s.here),
          refl,
          wide,
          λ sure. right_covers (and_then (slice_means (ty.Bits (w - count)) (count - c.value) (value ρ g c.base)) (valued (ty.Bits w)))
              (λ x e.
              let p = s.means sure x e in
              ap (λ (a : Option ℕ). and_then (slice_means (ty.Bits (w - count)) (count - c.value) a) (valued (ty.Bits w))) p.1
              ∙ ap (λ (a : Option ℕ). and_then a (valued (ty.Bits w))) (low_valued (w - count) (p.0 / 2 ^ (count - c.value)))
              ∙ low_valued w (p.0 / 2 ^ (count - c.value) % 2 ^ (w - count))
              ∙ ap (λ (n : ℕ). Some (n % 2 ^ w))
              (sym (ap (λ (n : ℕ). n / 2 ^ count) p.2 ∙ slices.shift_back p.0 c.value count w (leb-true c.value count q) (omega arith)))),
        ))
        (λ q. (
          (omega arith, s.here),
          refl,
          wide,
          count-number (c.value - count) (omega arith),
          le-leb (w - c.value) w (omega arith),
          λ sure. right_covers (binary_means (ty.Bits w) bi.ShiftLeft (slice_means (ty.Bits (w - c.value)) 0 (value ρ g c.base)) (Some (c.value - count)))
              (λ x e.
              let p = s.means sure x e in
              let y : ℕ = p.0 / 2 ^ 0 % 2 ^ (w - c.value) in
              ap (λ (a : Option ℕ). binary_means (ty.Bits w) bi.ShiftLeft (slice_means (ty.Bits (w - c.value)) 0 a) (Some (c.value - count))) p.1
              ∙ ap (λ (a : Option ℕ). binary_means (ty.Bits w) bi.ShiftLeft a (Some (c.value - count))) (low_valued (w - c.value) (p.0 / 2 ^ 0))
              ∙ left_means w wide y (c.value - count)
              ∙ ap Some
              (sym (ap (λ (n : ℕ). n % 2 ^ w)
              (ap (λ (n : ℕ). n / 2 ^ count) p.2 ∙ slices.shift_left p.0 c.value count w (leb-false c.value count q) (omega arith))
              ∙ mod-mod (y * 2 ^ (c.value - count)) (2 ^ w)))),
        ))

    right_claim : type_at g left ≡ ty.Bits w → (p : Plan) → shift_by g bi.ShiftRight w left count ≡ Some p → Asked bi.ShiftRight p
    right_claim t =
        by_claim bi.ShiftRight (λ x. x / 2 ^ count % 2 ^ w) right_gives
        (λ l x e.
        ap (λ (n : ℕ). n % 2 ^ w) (sym (right_all w count x (subst (λ (h : ScalarType). x < size h) t (value_small i left ll x e)) l)) ∙ mod-eq_of_lt (pow_pos w))
        right_again

module _ {ρ : World} {g : List ℕ} (i : Inv ρ g) (left right : ℕ) (ll : left < count_of g) (lr : right < count_of g) where
  pub shift_claim : (t : ScalarType) → type_width t ≤ 128 → (o : Binary) → stored_typed o (type_at g left) (type_at g right) t ≡ true → (known : Option ℕ)
      → literal g right ≡ known → (p : Plan) → shift_plan g t o left known ≡ Some p → Claim ρ g t (binary_means t o (value ρ g left) (value ρ g right)) p
  shift_claim ty.Bool wide o typed known e p q = absurd (none-some q)
  shift_claim ty.Integer wide o typed known e p q = absurd (none-some q)
  shift_claim (ty.Bits w) wide o typed known e p q =
      let a = provided_is (is_any shifts o) _ q in
      let b = given_is known (shift_by g o w left) a.1 in
      let v : value ρ g right ≡ Some b.0 = literal-value ρ g i right b.0 lr (e ∙ b.1) in
      of_any
      (λ (o : Binary).
      stored_typed o (type_at g left) (type_at g right) (ty.Bits w) ≡ true → shift_by g o w left b.0 ≡ Some p
      → Claim ρ g (ty.Bits w) (binary_means (ty.Bits w) o (value ρ g left) (value ρ g right)) p)
      shifts (λ s r. left_claim i w wide left right b.0 ll v p r)
      (λ s r. right_claim i w wide left right b.0 ll v (same_type_lem (type_at g left) (ty.Bits w) (tests (same_type (type_at g left) (ty.Bits w)) _ s).0) p r)
      o a.0 typed b.2

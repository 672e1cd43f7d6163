-- A constant moved to the right, sums of sums by constants, and sums compared with constants: these plans claim what is asked of them. Assumes nothing.
use mathlib.Core.Path.{◌≡◌, refl, sym, ap, ◌∙◌, subst}
use mathlib.Core.Bool.{Bool, true, false, cond, not, false≢true, ◌&&◌}
use mathlib.Core.List.{List}
use Rattle.std.specs.Prelude.{Option, None, Some}
use Prim.Native.Nat.{ℕ, ◌+◌, ◌-◌, ◌%◌, ◌^◌, ◌≤◌, ◌<◌}
use native.Mathlib.Nat.{add_comm, mul_comm, mod-lt, lt_of_le_of_lt}
use native.Mathlib.Omega.{arith}
use borrow.Author.Tests.{eq-eqb, ne_eqb, eqb-true, eqb-false}
use lib.Bits.{and_comm, or_comm, xor_comm}
use lib.Dec.{eqb, leb}
use lib.IntN.{ℤ, pos, neg_ℤ, ◌+ℤ◌, ◌-ℤ◌, +ℤ_comm, *ℤ_comm, +ℤ_assoc, neg_ℤ-+ℤ}
use lib.Pow.{pow_pos}
use Rattle.word.specs.Value.{signed, residue, fitted, is_power_of_two}
use Rattle.word.specs.Option.{only, mapped, from_bool}
use Rattle.word.proofs.Integer.{residue-lt, residue-pos, residue-add, residue-sub}
use Rattle.range.specs.declared.ScalarType.{ScalarType}
use Rattle.range.specs.declared.ScalarType.TheVariants as ty
use Rattle.range.proofs.Sound.{tests}
use Rattle.range.proofs.Answers.{none-some, some_is}
use Rattle.evaluate.specs.Evaluate.{by_type, reduced, binary_value}
use Rattle.evaluate.specs.Operator.{type_width}
use Rattle.evaluate.specs.U128 as u128
use Rattle.evaluate.specs.declared.Binary.{Binary}
use Rattle.evaluate.specs.declared.Binary.TheVariants as bi
use Rattle.evaluate.proofs.Fields.{narrow}
use Rattle.bit_laws.proofs.Sums.{shift_to, shift_from}
use Rattle.graph.specs.Layout.{count_of}
use Rattle.graph.specs.Node.{type_at}
use Rattle.graph.specs.Insert.{literal}
use Rattle.fold.specs.Operator.{commutative, equalities}
use Rattle.fold.specs.Shape.{same_type, same_binary, is_any, mask, ByConstant, by_constant_at}
use Rattle.plan.specs.Plan as plan
use Rattle.plan.specs.Plan.{Plan}
use Rattle.plan_binary.specs.Binary.{offset_compared, offset_typed, offset_plan, merged_plan, sub_of_sub, sum_plan}
use Rattle.build.specs.Build.{binary}
use Rattle.request.specs.Typing.{is_number, same_types, arithmetic}
use Rattle.meaning.specs.Value.{size, of_type, and_then, binary_means}
use Rattle.meaning.proofs.Worlds.{World, value}
use Rattle.meaning.proofs.Modular.{Residues, sum, difference, checked, checked_is, alike, in_bits, sub_low}
use Rattle.meaning.proofs.Answers.{binary_is, of_any, by_test, Each, each_none, each_some, each_provided, each_given, each_or}
use Rattle.meaning.proofs.Invariant.{stored_typed, Inv, inv_width}
use Rattle.meaning.proofs.Tree.{Callable}
use Rattle.meaning.proofs.Constants.{pattern, reduced_same}
use Rattle.meaning.proofs.Plans.{ByConstantClaim, Claim, bits_number}
use Rattle.meaning.proofs.Views.{same_type_lem, value_small, value_pattern, arithmetic_types}
use Rattle.meaning.proofs.Compared.{remainder_power}
use Rattle.meaning.proofs.Field.{literal-value, operands, eqb_sym, linked, by_constant_here, by_constant-typed, by_constant-means, literal_below}

-- ---- operands that change places

both_swap : (a b : Bool) → a && b ≡ true → b && a ≡ true
both_swap a b e = let p = tests a b e in (λ z. p.1 z && p.0 z)

same_swap : (a b : ScalarType) → same_type a b ≡ true → same_type b a ≡ true
same_swap a b e = let p = same_type_lem a b e in (λ z. same_type (sym p z) (p z)) ∙ e

module _ (a b t : ScalarType) where
  abbrev TypedSwap : Binary → Type 0
  TypedSwap o = stored_typed o a b t ≡ true → stored_typed o b a t ≡ true

  arithmetic_swap : arithmetic a b t ≡ true → arithmetic b a t ≡ true
  arithmetic_swap e =
      let p = tests (is_number t) (same_types a b t) e in
      (λ z. p.0 z && both_swap (same_type a t) (same_type b t) p.1 z)

  comparison_swap : same_type t ty.Bool && same_type a b ≡ true → same_type t ty.Bool && same_type b a ≡ true
  comparison_swap e = let p = tests (same_type t ty.Bool) (same_type a b) e in (λ z. p.0 z && same_swap a b p.1 z)

  typed_swap : (o : Binary) → is_any commutative o ≡ true → TypedSwap o
  typed_swap =
      let bits = both_swap (same_type a t) (same_type b t) in
      of_any TypedSwap commutative arithmetic_swap arithmetic_swap bits bits bits comparison_swap comparison_swap

module _ (t : ScalarType) (a b : ℕ) where
  abbrev ValueSwap : Binary → Type 0
  ValueSwap o = binary_value o t b a ≡ binary_value o t a b

  value_swap : (o : Binary) → is_any commutative o ≡ true → ValueSwap o
  unfolding binary_value
  value_swap =
      of_any ValueSwap commutative
      (λ z. mapped (reduced t) (by_type t (mapped (residue 128) (fitted (+ℤ_comm (signed 128 b) (signed 128 a) z))) (Some (add_comm b a z % 2 ^ 128))))
      (λ z. mapped (reduced t) (by_type t (mapped (residue 128) (fitted (*ℤ_comm (signed 128 b) (signed 128 a) z))) (Some (mul_comm b a z % 2 ^ 128))))
      (λ z. Some (reduced t (and_comm b a z))) (λ z. Some (reduced t (or_comm b a z))) (λ z. Some (reduced t (xor_comm b a z)))
      (λ z. Some (reduced t (from_bool (eqb_sym b a z)))) (λ z. Some (reduced t (from_bool (not (eqb_sym b a z)))))

module _ {ρ : World} {g : List ℕ} (i : Inv ρ g) (t : ScalarType) (o : Binary) (l r : ℕ) (k : Callable g (binary t o l r)) where
  pub swapped_claim : is_any commutative o ≡ true → Claim ρ g t (binary_means t o (value ρ g l) (value ρ g r)) (plan.binary t o r l)
  swapped_claim m = (
    (k.0, k.2, k.1, typed_swap (type_at g l) (type_at g r) t o m k.3),
    refl,
    λ sure x e.
        let s = operands ρ g t o l r x e in
        (λ z. binary_means t o (s.right z) (s.left z)) ∙ ap (λ (q : Option ℕ). and_then q (of_type t)) (value_swap t s.x s.y o m) ∙ s.means,
  )

-- ---- sums of sums

-- a sum, a difference or a product, by the type
abbrev arithmetics : (ℤ → ℤ → ℤ) → (ℕ → ℕ → ℕ → ℕ) → ScalarType → ℕ → ℕ → Option ℕ
arithmetics f G t x y = mapped (reduced t) (by_type t (mapped (residue 128) (fitted (f (signed 128 x) (signed 128 y)))) (Some (G 128 x y)))

-- f by c and then by d is f by their sum
module _ (f : ℤ → ℤ → ℤ) (G : ℕ → ℕ → ℕ → ℕ) (law : Residues f G) (assoc : (x c d : ℤ) → f (f x c) d ≡ f x (c +ℤ d)) (x c d v k : ℕ) where
  merged_bits : (w : ℕ) → w ≤ 128 → x < 2 ^ 128 → c < 2 ^ 128 → d < 2 ^ 128 → v < 2 ^ w → k < 2 ^ w → G 128 x c % 2 ^ w ≡ v
      → u128.wrapping_add c d % 2 ^ w ≡ k → G 128 v d % 2 ^ w ≡ G 128 x k % 2 ^ w
  merged_bits w wide lx lc ld lv lk ev ek =
      let pv : residue w (pos v) ≡ residue w (f (pos x) (pos c)) = residue-pos w v lv ∙ sym ev ∙ in_bits f G law w wide x c lx lc in
      let pk : residue w (pos k) ≡ residue w (pos c +ℤ pos d) = residue-pos w k lk ∙ sym ek ∙ in_bits ◌+ℤ◌ sum residue-add w wide c d lc ld in
      in_bits f G law w wide v d (pattern (ty.Bits w) v wide lv) ld ∙ alike f G law w (pos v) (pos d) (f (pos x) (pos c)) (pos d) pv refl
      ∙ ap (residue w) (assoc (pos x) (pos c) (pos d)) ∙ sym (alike f G law w (pos x) (pos k) (pos x) (pos c +ℤ pos d) refl pk)
      ∙ sym (in_bits f G law w wide x k lx (pattern (ty.Bits w) k wide lk))

  merged_integer : checked (f (signed 128 x) (signed 128 c)) ≡ Some v → checked (signed 128 c +ℤ signed 128 d) ≡ Some k
      → checked (f (signed 128 v) (signed 128 d)) ≡ checked (f (signed 128 x) (signed 128 k))
  merged_integer ev ek =
      let pv = (checked_is (f (signed 128 x) (signed 128 c)) v ev).1 in
      let pk = (checked_is (signed 128 c +ℤ signed 128 d) k ek).1 in
      ap checked
      ((λ z. f (pv z) (signed 128 d)) ∙ assoc (signed 128 x) (signed 128 c) (signed 128 d) ∙ (λ z. f (signed 128 x) (sym pk z)))

  merges : (t : ScalarType) → is_number t ≡ true → type_width t ≤ 128 → x < 2 ^ 128 → c < 2 ^ 128 → d < 2 ^ 128 → v < size t → k < size t
      → arithmetics f G t x c ≡ Some v → arithmetics ◌+ℤ◌ sum t c d ≡ Some k → arithmetics f G t v d ≡ arithmetics f G t x k
  merges ty.Bool n wide lx lc ld lv lk ev ek = absurd (false≢true n)
  merges (ty.Bits w) n wide lx lc ld lv lk ev ek = ap Some (merged_bits w wide lx lc ld lv lk (some_is ev) (some_is ek))
  merges ty.Integer n wide lx lc ld lv lk ev ek = merged_integer ev ek

less_assoc : (x c d : ℤ) → x -ℤ c -ℤ d ≡ x -ℤ (c +ℤ d)
less_assoc x c d = +ℤ_assoc x (neg_ℤ c) (neg_ℤ d) ∙ ap (λ (z : ℤ). x +ℤ z) (sym (neg_ℤ-+ℤ c d))

-- a sum is of its type
sum_small : (t : ScalarType) (c d k : ℕ) → is_number t ≡ true → binary_value bi.Add t c d ≡ Some k → k < size t
unfolding binary_value
sum_small ty.Bool c d k n e = absurd (false≢true n)
sum_small (ty.Bits w) c d k n e = subst (λ (m : ℕ). m < 2 ^ w) (some_is e) (mod-lt (u128.wrapping_add c d) (pow_pos w))
sum_small ty.Integer c d k n e =
    let z = signed 128 c +ℤ signed 128 d in
    subst (λ (m : ℕ). m < 2 ^ 128) (sym (checked_is z k e).0) (residue-lt 128 z)

-- an operation by c and then by d is one by their sum
abbrev Merges : Binary → ScalarType → Type 0
Merges o t = (x c d v k : ℕ) → x < 2 ^ 128 → c < 2 ^ 128 → d < 2 ^ 128 → v < size t → k < size t → binary_value o t x c ≡ Some v
    → binary_value bi.Add t c d ≡ Some k → binary_value o t v d ≡ binary_value o t x k

add_merges : (t : ScalarType) → is_number t ≡ true → type_width t ≤ 128 → Merges bi.Add t
unfolding binary_value
add_merges t n wide x c d v k = merges ◌+ℤ◌ sum residue-add +ℤ_assoc x c d v k t n wide

sub_merges : (t : ScalarType) → is_number t ≡ true → type_width t ≤ 128 → Merges bi.Sub t
unfolding binary_value
sub_merges t n wide x c d v k = merges ◌-ℤ◌ difference residue-sub less_assoc x c d v k t n wide

-- ---- a sum or a difference by a constant, as a node

-- an operator with the types of sums
abbrev pub Arithmetic : Binary → Type 0
Arithmetic o = (a b t : ScalarType) → stored_typed o a b t ≡ arithmetic a b t

-- the base of an operation of type t by a constant, and the operation's values by it
pub record Link (ρ : World) (g : List ℕ) (n : ℕ) (c : ByConstant) (t : ScalarType) : Type 0 where
  pub here : c.base < count_of g
  pub type : type_at g c.base ≡ t
  pub small : c.value < size t
  pub means : (y : ℕ) → value ρ g n ≡ Some y → (x : ℕ) × (value ρ g c.base ≡ Some x) × (binary_value c.op t x c.value ≡ Some y)

module _ {ρ : World} {g : List ℕ} (i : Inv ρ g) where
  -- a node that is a sum or a difference by a constant
  pub link : (n : ℕ) (c : ByConstant) (t : ScalarType) → n < count_of g → type_at g n ≡ t → by_constant_at g n ≡ Some c → Arithmetic c.op → Link ρ g n c t
  link n c t l q e a =
      let s = linked g n c e in
      let h = by_constant_here i n l c s in
      let p = arithmetic_types (type_at g c.base) (type_at g s.constant) (type_at g n)
      (sym (a (type_at g c.base) (type_at g s.constant) (type_at g n)) ∙ by_constant-typed i n l c s) in
      record {
        here = h.0;
        type = p.1 ∙ q;
        small = literal_below i s.constant c.value t h.1 (p.2 ∙ q) s.has;
        means = λ y ey. let d = by_constant-means i n l c s y ey in (d.0, d.1, (λ z. binary_value c.op (sym q z) d.0 c.value) ∙ d.2);
      }

-- ---- a remainder or a sum by a constant

module _ {ρ : World} {g : List ℕ} (i : Inv ρ g) (t : ScalarType) (l r c : ℕ) (lit : literal g r ≡ Some c) where
  abbrev means : Binary → Option ℕ
  means o = binary_means t o (value ρ g l) (value ρ g r)

  -- one operation by another constant, on another node
  by_constant_lem : (o u : Binary) (n v : ℕ) → Callable g (binary t o l r) → n < count_of g → stored_typed u (type_at g n) t t ≡ true → v < size t
      → ((y : ℕ) → value ρ g l ≡ Some y → (x : ℕ) × (value ρ g n ≡ Some x) × (binary_value u t x v ≡ binary_value o t y c))
      → ByConstantClaim ρ g t (means o) t v t u n
  by_constant_lem o u n v k here typed small law = (
    record { width = k.0; small = subst (λ (m : ℕ). m < size t) (sym (reduced_same t v small)) small },
    refl,
    k.0,
    here,
    typed,
    λ sure x e.
        let s = operands ρ g t o l r x e in
        let q = law s.x s.left in
        let d : c ≡ s.y = some_is (sym (literal-value ρ g i r c k.2 lit) ∙ s.right) in
        (λ z. binary_means t u (q.1 z) (Some (reduced_same t v small z))) ∙ ap (λ (m : Option ℕ). and_then m (of_type t)) q.2
        ∙ (λ z. and_then (binary_value o t s.x (d z)) (of_type t)) ∙ s.means,
  )

  remainder_claim : Callable g (binary t bi.RemainderUnsigned l r) → is_power_of_two c ≡ true
      → Claim ρ g t (means bi.RemainderUnsigned) (plan.constant_binary t (c - 1) t bi.And l)
  remainder_claim k e =
      let p = arithmetic_types (type_at g l) (type_at g r) t k.3 in
      let b : c < size t = literal_below i r c t k.2 p.2 lit in
      by_constant_lem bi.RemainderUnsigned bi.And l (c - 1) k k.1
      ((λ z. same_type (type_at g l) t && same_type (sym p.2 z) t) ∙ (tests (is_number t) (same_types (type_at g l) (type_at g r) t) k.3).1)
      (lt_of_le_of_lt (let q : c - 1 ≤ c = omega arith in q) b) (λ y ey. (y, ey, sym (remainder_power t y c e)))

  merged : (o : Binary) (h : ByConstant) (v : ℕ) → Callable g (binary t o l r) → Arithmetic o → (is_number t ≡ true → type_width t ≤ 128 → Merges o t)
      → by_constant_at g l ≡ Some h → h.op ≡ o → binary_value bi.Add t h.value c ≡ Some v → ByConstantClaim ρ g t (means o) t v t o h.base
  merged o h v k a law e q ev =
      let p = arithmetic_types (type_at g l) (type_at g r) t (sym (a (type_at g l) (type_at g r) t) ∙ k.3) in
      let s = link i l h t k.1 p.1 e (subst Arithmetic (sym q) a) in
      let small = sum_small t h.value c v p.0 ev in
      by_constant_lem o o h.base v k s.here ((λ z. stored_typed o ((s.type ∙ sym p.1) z) (sym p.2 z) t) ∙ k.3) small
      (λ y ey.
      let d = s.means y ey in (
        d.0,
        d.1,
        sym (law p.0 k.0 d.0 h.value c y v (value_pattern i h.base s.here d.0 d.1) (pattern t h.value k.0 s.small)
            (value_pattern i r k.2 c (literal-value ρ g i r c k.2 lit)) (subst (λ (m : ScalarType). y < size m) p.1 (value_small i l k.1 y ey)) small
            ((λ z. binary_value (sym q z) t d.0 h.value) ∙ d.2) ev),
      ))

  add_claim : (h : ByConstant) → Callable g (binary t bi.Add l r) → by_constant_at g l ≡ Some h → h.op ≡ bi.Add
      → Claim ρ g t (means bi.Add) (merged_plan t bi.Add h.base (binary_value bi.Add t h.value c))
  add_claim h k e q = by (binary_value bi.Add t h.value c) refl
    where
      by : (v : Option ℕ) → binary_value bi.Add t h.value c ≡ v → Claim ρ g t (means bi.Add) (merged_plan t bi.Add h.base v)
      by None d = tt
      by (Some v) d = merged bi.Add h v k (λ a b s. refl) (add_merges t) e q d

  sub_claim : (h : ByConstant) (p : Plan) → Callable g (binary t bi.Sub l r) → by_constant_at g l ≡ Some h → h.op ≡ bi.Sub
      → sub_of_sub t h.base (binary_value bi.Add t h.value c) ≡ Some p → Claim ρ g t (means bi.Sub) p
  sub_claim h p k e q = by (binary_value bi.Add t h.value c) refl
    where
      by : (v : Option ℕ) → binary_value bi.Add t h.value c ≡ v → sub_of_sub t h.base v ≡ Some p → Claim ρ g t (means bi.Sub) p
      by None d f = absurd (none-some f)
      by (Some v) d f = subst (Claim ρ g t (means bi.Sub)) (some_is f) (merged bi.Sub h v k (λ a b s. refl) (sub_merges t) e q d)

-- ---- sums compared with constants

eqb_alike : (a b x y : ℕ) → (a ≡ b → x ≡ y) → (x ≡ y → a ≡ b) → eqb a b ≡ eqb x y
eqb_alike a b x y f h = go (eqb a b) refl
  where
    go : (t : Bool) → eqb a b ≡ t → t ≡ eqb x y
    go true e = sym (eq-eqb x y (f (eqb-true a b e)))
    go false e = sym (ne_eqb x y (λ q. eqb-false a b e (h q)))

-- x + c and x - c compared with b, modulo 2 ^ w
module _ (w x c b : ℕ) (wide : w ≤ 128) (lx : x < 2 ^ w) (lc : c < 2 ^ w) (lb : b < 2 ^ w) where
  sum_low : (p : ℕ) → u128.wrapping_add p c % 2 ^ w ≡ (p + c) % 2 ^ w
  sum_low p = narrow (p + c) 128 w wide

  add-compared : eqb (u128.wrapping_add x c % 2 ^ w) b ≡ eqb x (u128.wrapping_sub b c % 2 ^ w)
  add-compared =
      (λ z. eqb (sum_low x z) b)
      ∙ eqb_alike ((x + c) % 2 ^ w) b x ((b + (2 ^ w - c)) % 2 ^ w) (shift_to x c b (2 ^ w) lx lc lb) (shift_from x c b (2 ^ w) lx lc lb)
      ∙ (λ z. eqb x (sym (sub_low w b c wide lb lc) z))

  sub-compared : eqb (u128.wrapping_sub x c % 2 ^ w) b ≡ eqb x (u128.wrapping_add b c % 2 ^ w)
  sub-compared =
      (λ z. eqb (sub_low w x c wide lx lc z) b)
      ∙ eqb_alike ((x + (2 ^ w - c)) % 2 ^ w) b x ((b + c) % 2 ^ w) (λ e. sym (shift_from b c x (2 ^ w) lb lc lx (sym e)))
      (λ e. sym (shift_to b c x (2 ^ w) lb lc lx (sym e)))
      ∙ (λ z. eqb x (sym (sum_low b) z))

-- both operands are of one type
equality_typed : (a b t : ScalarType) (o : Binary) → is_any equalities o ≡ true → stored_typed o a b t ≡ true → a ≡ b
equality_typed a b t =
    let same : same_type t ty.Bool && same_type a b ≡ true → a ≡ b = λ e. same_type_lem a b (tests (same_type t ty.Bool) (same_type a b) e).1 in
    of_any (λ (o : Binary). stored_typed o a b t ≡ true → a ≡ b) equalities same same

-- the comparison is all that counts
pub equality_value : (t : ScalarType) (a b x y : ℕ) → eqb a b ≡ eqb x y → (o : Binary) → is_any equalities o ≡ true
    → binary_value o t a b ≡ binary_value o t x y
unfolding binary_value
equality_value t a b x y e =
    of_any (λ (o : Binary). binary_value o t a b ≡ binary_value o t x y) equalities
    (λ z. Some (reduced t (from_bool (e z)))) (λ z. Some (reduced t (from_bool (not (e z)))))

-- an operator by a constant of Bits(w), and the constant that its base is compared with
abbrev pub Shifts : Binary → ℕ → ℕ → ℕ → ℕ → Type 0
Shifts o w c b v = (x y : ℕ) → x < 2 ^ w → binary_value o (ty.Bits w) x c ≡ Some y → eqb y b ≡ eqb x (v % 2 ^ w)

module _ (w c b : ℕ) (wide : w ≤ 128) (lc : c < 2 ^ w) (lb : b < 2 ^ w) where
  pub add-shifts : Shifts bi.Add w c b (u128.wrapping_sub b c)
  unfolding binary_value
  add-shifts x y lx e = (λ z. eqb (sym (some_is e) z) b) ∙ add-compared w x c b wide lx lc lb

  pub sub-shifts : Shifts bi.Sub w c b (u128.wrapping_add b c)
  unfolding binary_value
  sub-shifts x y lx e = (λ z. eqb (sym (some_is e) z) b) ∙ sub-compared w x c b wide lx lc lb

module _ {ρ : World} {g : List ℕ} (i : Inv ρ g) (t : ScalarType) (o : Binary) (l r : ℕ) (k : Callable g (binary t o l r)) where
  abbrev asked : Binary → Option ℕ
  asked u = binary_means t u (value ρ g l) (value ρ g r)

  -- what is claimed of an operator is claimed of the same one by another name
  renamed : (u : Binary) (p : Plan) → o ≡ u → (Callable g (binary t u l r) → Claim ρ g t (asked u) p) → Claim ρ g t (asked o) p
  renamed u p e f = subst (λ (q : Binary). Claim ρ g t (asked q) p) (sym e) (f (subst (λ (q : Binary). Callable g (binary t q l r)) e k))

  pub sum_claim : (c : ℕ) → literal g r ≡ Some c → (p : Plan) → sum_plan g t o l c ≡ Some p → Claim ρ g t (binary_means t o (value ρ g l) (value ρ g r)) p
  sum_claim c lit =
      each_or (Claim ρ g t (asked o)) _
      (each_provided (Claim ρ g t (asked o)) (same_binary o bi.RemainderUnsigned && is_power_of_two c)
      (λ q.
      let s = tests (same_binary o bi.RemainderUnsigned) (is_power_of_two c) q in
      each_some (Claim ρ g t (asked o)) _
      (renamed bi.RemainderUnsigned (plan.constant_binary t (c - 1) t bi.And l) (binary_is o bi.RemainderUnsigned s.0) (λ n. remainder_claim i t l r c lit n s.1))))
      (each_given (Claim ρ g t (asked o)) (by_constant_at g l)
      (λ h d.
      by_test (Each (Claim ρ g t (asked o))) (same_binary o bi.Add && same_binary h.op bi.Add)
      (λ q.
      let s = tests (same_binary o bi.Add) (same_binary h.op bi.Add) q in
      each_some (Claim ρ g t (asked o)) _
      (renamed bi.Add (merged_plan t bi.Add h.base (binary_value bi.Add t h.value c)) (binary_is o bi.Add s.0)
      (λ n. add_claim i t l r c lit h n d (binary_is h.op bi.Add s.1))))
      (λ q.
      each_provided (Claim ρ g t (asked o)) (same_binary o bi.Sub && same_binary h.op bi.Sub)
      (λ b p e.
      let s = tests (same_binary o bi.Sub) (same_binary h.op bi.Sub) b in
      renamed bi.Sub p (binary_is o bi.Sub s.0) (λ n. sub_claim i t l r c lit h p n d (binary_is h.op bi.Sub s.1) e)))))

  module _ (eq : is_any equalities o ≡ true) (b : ℕ) (lit : literal g r ≡ Some b) (w : ℕ) (tl : type_at g l ≡ ty.Bits w) (c : ByConstant) (e : by_constant_at g l ≡ Some c) where
    tr : type_at g r ≡ ty.Bits w
    tr = sym (equality_typed (type_at g l) (type_at g r) t o eq k.3) ∙ tl

    wide : w ≤ 128
    wide = subst (λ (s : ScalarType). type_width s ≤ 128) tl (inv_width i l k.1)

    shifted : (v : ℕ) → Arithmetic c.op → (c.value < 2 ^ w → b < 2 ^ w → Shifts c.op w c.value b v)
        → Claim ρ g t (asked o) (plan.constant_binary (ty.Bits w) v t o c.base)
    shifted v a law =
        let s = link i l c (ty.Bits w) k.1 tl e a in
        let lb : b < 2 ^ w = literal_below i r b (ty.Bits w) k.2 tr lit in (
          bits_number wide v,
          refl,
          k.0,
          s.here,
          (λ z. stored_typed o ((s.type ∙ sym tl) z) (sym tr z) t) ∙ k.3,
          λ sure x q.
              let d = operands ρ g t o l r x q in
              let h = s.means d.x d.left in
              let y : b ≡ d.y = some_is (sym (literal-value ρ g i r b k.2 lit) ∙ d.right) in
              let small : h.0 < 2 ^ w = subst (λ (m : ScalarType). h.0 < size m) s.type (value_small i c.base s.here h.0 h.1) in
              let same = law s.small lb h.0 d.x small h.2 in
              (λ z. binary_means t o (h.1 z) (Some (v % 2 ^ w)))
              ∙ ap (λ (m : Option ℕ). and_then m (of_type t)) (sym (equality_value t d.x b h.0 (v % 2 ^ w) same o eq))
              ∙ (λ z. and_then (binary_value o t d.x (y z)) (of_type t)) ∙ d.means,
        )

    compared_claim : (p : Plan) → offset_compared t o w b c ≡ Some p → Claim ρ g t (asked o) p
    compared_claim =
        each_given (Claim ρ g t (asked o)) _ (λ v d. let s = moves v d in each_some (Claim ρ g t (asked o)) _ (shifted v s.0 s.1))
      where
        -- the base may be compared with v
        Moves : Binary → ℕ → Type 0
        Moves u v = Arithmetic u × (c.value < 2 ^ w → b < 2 ^ w → Shifts u w c.value b v)

        moves : Each (Moves c.op) (cond (same_binary c.op bi.Sub) (Some (u128.wrapping_add b c.value)) (only (same_binary c.op bi.Add) (u128.wrapping_sub b c.value)))
        moves =
            by_test (Each (Moves c.op)) (same_binary c.op bi.Sub)
            (λ q.
            each_some (Moves c.op) _
            (subst (λ (u : Binary). Moves u (u128.wrapping_add b c.value)) (sym (binary_is c.op bi.Sub q)) (λ a b s. refl, sub-shifts w c.value b wide)))
            (λ q.
            each_provided (Moves c.op) (same_binary c.op bi.Add)
            (λ d.
            each_some (Moves c.op) _
            (subst (λ (u : Binary). Moves u (u128.wrapping_sub b c.value)) (sym (binary_is c.op bi.Add d)) (λ a b s. refl, add-shifts w c.value b wide))))

  pub offset_claim : (p : Plan) → offset_plan g t o l (literal g r) ≡ Some p → Claim ρ g t (binary_means t o (value ρ g l) (value ρ g r)) p
  offset_claim =
      each_provided (Claim ρ g t (asked o)) (is_any equalities o)
      (λ q. each_given (Claim ρ g t (asked o)) (literal g r) (λ b lit. typed b q lit (type_at g l) refl))
    where
      typed : (b : ℕ) → is_any equalities o ≡ true → literal g r ≡ Some b → (s : ScalarType) → type_at g l ≡ s
          → Each (Claim ρ g t (asked o)) (offset_typed g t o l b s)
      typed b q lit ty.Bool tl = each_none _
      typed b q lit (ty.Bits w) tl =
          each_provided (Claim ρ g t (asked o)) (leb b (mask w))
          (λ h. each_given (Claim ρ g t (asked o)) (by_constant_at g l) (λ c d. compared_claim q b lit w tl c d))
      typed b q lit ty.Integer tl = each_none _

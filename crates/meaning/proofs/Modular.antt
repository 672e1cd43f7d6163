-- A truncation pushed through arithmetic, and seen through Refines: modular's plan claims what is asked of it. Assumes nothing.
use mathlib.Core.Path.{◌≡◌, refl, sym, ap, ◌∙◌, subst}
use mathlib.Core.Bool.{Bool, true, false, false≢true, ◌&&◌}
use mathlib.Core.List.{List}
use Rattle.std.specs.Prelude.{Option, Some}
use Prim.Native.Nat.{ℕ, zero, suc, ◌+◌, ◌-◌, ◌*◌, ◌%◌, ◌^◌, ◌≤◌, ◌<◌}
use native.Mathlib.Nat.{mod-mod, lt_of_le_of_lt, mod-le}
use native.Mathlib.Omega.{arith}
use borrow.Author.Tests.{eq-eqb, leb-true}
use lib.Bits.{bit_and, bit_or, bit_xor, and_mod, or_mod, xor_mod}
use lib.Dec.{lit<}
use lib.IntN.{ℤ, pos, ◌+ℤ◌, ◌-ℤ◌, ◌*ℤ◌}
use Rattle.word.specs.Value.{signed, residue, fits, fitted}
use Rattle.word.specs.Option.{only, mapped}
use Rattle.word.proofs.Integer.{residue-add, residue-sub, residue-mul, residue-pos, residue-signed, signed-residue}
use Rattle.range.specs.declared.ScalarType.{ScalarType}
use Rattle.range.specs.declared.ScalarType.TheVariants as ty
use Rattle.range.proofs.Answers.{none-some, some_is}
use Rattle.evaluate.specs.Evaluate.{reduced, binary_value}
use Rattle.evaluate.specs.U128 as u128
use Rattle.evaluate.specs.declared.Binary.{Binary}
use Rattle.evaluate.specs.declared.Unary.TheVariants as un
use Rattle.evaluate.proofs.Fields.{narrow, residue-narrow, fits_below}
use Rattle.fold.specs.Operator.{modular_ops}
use Rattle.graph.specs.Layout.{LIMIT, count_of}
use Rattle.graph.specs.Node as node
use Rattle.graph.specs.Node.{Op, type_at, operation_at}
use Rattle.graph.specs.Insert.{start}
use Rattle.fold.specs.Shape.{same_type, is_wide, is_any, refined_of, refined_at}
use Rattle.plan.specs.Plan as plan
use Rattle.plan.specs.OneOperand.{View, same, source, view_from, view_at, truncated_plan, modular_of, modular_plan}
use Rattle.meaning.specs.Value.{size, of_type, valued, and_then, unary_means, binary_means}
use Rattle.meaning.proofs.Worlds.{World, operation_means, operand, value}
use Rattle.meaning.proofs.Constants.{low_valued, pattern}
use Rattle.meaning.proofs.Answers.{by_test, of_any, by_given}
use Rattle.meaning.proofs.Values.{typed_is, then_is, then_typed}
use Rattle.meaning.proofs.Invariant.{stored_typed, Refined, Inv, inv_below, inv_step, resolve_leads}
use Rattle.meaning.proofs.Plans.{Covers, Claim}
use Rattle.meaning.proofs.Views.{same_type_lem, value_small, value_pattern, truncate_valued, seen}

-- ---- sums, differences and products, by their residues

-- G k is f, of residues modulo 2 ^ k
abbrev pub Residues : (ℤ → ℤ → ℤ) → (ℕ → ℕ → ℕ → ℕ) → Type 0
Residues f G = (k : ℕ) (x y : ℤ) → G k (residue k x) (residue k y) ≡ residue k (f x y)

-- modulo 2 ^ k
abbrev pub sum : ℕ → ℕ → ℕ → ℕ
sum k a b = (a + b) % 2 ^ k

abbrev pub difference : ℕ → ℕ → ℕ → ℕ
difference k a b = (a + (2 ^ k - b)) % 2 ^ k

abbrev product : ℕ → ℕ → ℕ → ℕ
product k a b = a * b % 2 ^ k

-- a checked integer as a pattern
abbrev pub checked : ℤ → Option ℕ
checked z = mapped (reduced ty.Integer) (mapped (residue 128) (fitted z))

pub checked_is : (z : ℤ) (v : ℕ) → checked z ≡ Some v → (v ≡ residue 128 z) × (signed 128 v ≡ z)
checked_is z v e = by (fits z) refl e
  where
    by : (b : Bool) → fits z ≡ b → mapped (reduced ty.Integer) (mapped (residue 128) (only b z)) ≡ Some v → (v ≡ residue 128 z) × (signed 128 v ≡ z)
    by true q e =
        let p : v ≡ residue 128 z = sym (some_is e) in
        (p, ap (signed 128) p ∙ signed-residue 128 z (lit< tt) ((fits_below z).0 q))
    by false q e = absurd (none-some e)

module _ (f : ℤ → ℤ → ℤ) (G : ℕ → ℕ → ℕ → ℕ) (law : Residues f G) where
  pub alike : (k : ℕ) (x y u v : ℤ) → residue k x ≡ residue k u → residue k y ≡ residue k v → residue k (f x y) ≡ residue k (f u v)
  alike k x y u v d e = sym (law k x y) ∙ (λ i. G k (d i) (e i)) ∙ law k u v

  pub wraps : (k p q : ℕ) → p < 2 ^ k → q < 2 ^ k → G k p q ≡ residue k (f (pos p) (pos q))
  wraps k p q lp lq = (λ i. G k (sym (residue-pos k p lp) i) (sym (residue-pos k q lq) i)) ∙ law k (pos p) (pos q)

  -- on patterns, within w bits
  pub in_bits : (w : ℕ) → w ≤ 128 → (p q : ℕ) → p < 2 ^ 128 → q < 2 ^ 128 → G 128 p q % 2 ^ w ≡ residue w (f (pos p) (pos q))
  in_bits w wide p q lp lq = ap (λ (n : ℕ). n % 2 ^ w) (wraps 128 p q lp lq) ∙ residue-narrow (f (pos p) (pos q)) 128 w wide

  narrowed : (w p q : ℕ) → w ≤ 128 → p < 2 ^ w → q < 2 ^ w → G 128 p q % 2 ^ w ≡ G w p q
  narrowed w p q wide lp lq = in_bits w wide p q (pattern (ty.Bits w) p wide lp) (pattern (ty.Bits w) q wide lq) ∙ sym (wraps w p q lp lq)

  module _ (w : ℕ) (wide : w ≤ 128) (p q : ℕ) (lp : p < 2 ^ 128) (lq : q < 2 ^ 128) where
    low : (n : ℕ) → residue w (pos (n % 2 ^ w)) ≡ residue w (pos n)
    unfolding residue
    low n = mod-mod n (2 ^ w)

    part : (n : ℕ) → n < 2 ^ 128 → n % 2 ^ w < 2 ^ 128
    part n l = lt_of_le_of_lt (mod-le n (2 ^ w)) l

    -- the operation on the low bits
    low_value : G 128 (p % 2 ^ w) (q % 2 ^ w) % 2 ^ w ≡ residue w (f (pos p) (pos q))
    low_value =
        in_bits w wide (p % 2 ^ w) (q % 2 ^ w) (part p lp) (part q lq) ∙ alike w (pos (p % 2 ^ w)) (pos (q % 2 ^ w)) (pos p) (pos q) (low p) (low q)

    -- on wider Bits
    from_bits : (u : ℕ) → w ≤ u → G 128 (p % 2 ^ w) (q % 2 ^ w) % 2 ^ w ≡ G 128 p q % 2 ^ u % 2 ^ w
    from_bits u l = low_value ∙ sym (narrow (G 128 p q) u w l ∙ in_bits w wide p q lp lq)

    plain : (n : ℕ) → n < 2 ^ 128 → residue w (signed 128 n) ≡ residue w (pos n)
    unfolding residue
    plain n l = sym (residue-narrow (signed 128 n) 128 w wide) ∙ ap (λ (m : ℕ). m % 2 ^ w) (residue-signed 128 n l)

    -- a checked result on Integer
    from_checked : (y : ℕ) → checked (f (signed 128 p) (signed 128 q)) ≡ Some y → G 128 (p % 2 ^ w) (q % 2 ^ w) % 2 ^ w ≡ y % 2 ^ w
    from_checked y e =
        low_value
        ∙ sym (residue-narrow (f (signed 128 p) (signed 128 q)) 128 w wide ∙ alike w (signed 128 p) (signed 128 q) (pos p) (pos q) (plain p lp) (plain q lq))
        ∙ ap (λ (n : ℕ). n % 2 ^ w) (sym (checked_is (f (signed 128 p) (signed 128 q)) y e).0)

-- a wrapped difference within w bits
pub sub_low : (w a b : ℕ) → w ≤ 128 → a < 2 ^ w → b < 2 ^ w → u128.wrapping_sub a b % 2 ^ w ≡ (a + (2 ^ w - b)) % 2 ^ w
sub_low = narrowed ◌-ℤ◌ difference residue-sub

-- ---- the same of and, or and exclusive or

-- F's low bits are F of its operands' low bits
abbrev Parts : (ℕ → ℕ → ℕ) → Type 0
Parts F = (a b k : ℕ) → F a b % 2 ^ k ≡ F (a % 2 ^ k) (b % 2 ^ k)

module _ (F : ℕ → ℕ → ℕ) (parts : Parts F) (w p q : ℕ) where
  pub bitwise : F (p % 2 ^ w) (q % 2 ^ w) % 2 ^ w ≡ F p q % 2 ^ w
  bitwise = parts (p % 2 ^ w) (q % 2 ^ w) w ∙ (λ i. F (mod-mod p (2 ^ w) i) (mod-mod q (2 ^ w) i)) ∙ sym (parts p q w)

-- ---- one law for the six operators

-- what is low in a result hangs on what is low in its operands
module _ (w : ℕ) (wide : w ≤ 128) (p q y : ℕ) (lp : p < 2 ^ 128) (lq : q < 2 ^ 128) where
  abbrev Low : Binary → ScalarType → Type 0
  Low o s = binary_value o s p q ≡ Some y → binary_value o (ty.Bits w) (p % 2 ^ w) (q % 2 ^ w) ≡ Some (y % 2 ^ w)

  low_bits : (o : Binary) → is_any modular_ops o ≡ true → (u : ℕ) → w ≤ u → Low o (ty.Bits u)
  unfolding binary_value
  low_bits =
      of_any (λ o. (u : ℕ) → w ≤ u → Low o (ty.Bits u)) modular_ops
      (sums ◌+ℤ◌ sum residue-add) (sums ◌-ℤ◌ difference residue-sub) (sums ◌*ℤ◌ product residue-mul) (bits bit_and and_mod) (bits bit_or or_mod) (bits bit_xor xor_mod)
    where
      sums : (f : ℤ → ℤ → ℤ) (G : ℕ → ℕ → ℕ → ℕ) → Residues f G → (u : ℕ) → w ≤ u → Some (G 128 p q % 2 ^ u) ≡ Some y
          → Some (G 128 (p % 2 ^ w) (q % 2 ^ w) % 2 ^ w) ≡ Some (y % 2 ^ w)
      sums f G law u l e = ap Some (from_bits f G law w wide p q lp lq u l ∙ ap (λ (n : ℕ). n % 2 ^ w) (some_is e))

      bits : (F : ℕ → ℕ → ℕ) → Parts F → (u : ℕ) → w ≤ u → Some (F p q % 2 ^ u) ≡ Some y → Some (F (p % 2 ^ w) (q % 2 ^ w) % 2 ^ w) ≡ Some (y % 2 ^ w)
      bits F a u l e = ap Some (bitwise F a w p q ∙ sym (narrow (F p q) u w l) ∙ ap (λ (n : ℕ). n % 2 ^ w) (some_is e))

  low_integer : (o : Binary) → is_any modular_ops o ≡ true → Low o ty.Integer
  unfolding binary_value
  low_integer =
      of_any (λ o. Low o ty.Integer) modular_ops
      (sums ◌+ℤ◌ sum residue-add) (sums ◌-ℤ◌ difference residue-sub) (sums ◌*ℤ◌ product residue-mul) (bits bit_and and_mod) (bits bit_or or_mod) (bits bit_xor xor_mod)
    where
      sums : (f : ℤ → ℤ → ℤ) (G : ℕ → ℕ → ℕ → ℕ) → Residues f G → checked (f (signed 128 p) (signed 128 q)) ≡ Some y
          → Some (G 128 (p % 2 ^ w) (q % 2 ^ w) % 2 ^ w) ≡ Some (y % 2 ^ w)
      sums f G law e = ap Some (from_checked f G law w wide p q lp lq y e)

      bits : (F : ℕ → ℕ → ℕ) → Parts F → Some (F p q) ≡ Some y → Some (F (p % 2 ^ w) (q % 2 ^ w) % 2 ^ w) ≡ Some (y % 2 ^ w)
      bits F a e = ap Some (bitwise F a w p q ∙ ap (λ (n : ℕ). n % 2 ^ w) (some_is e))

  pub low_result : (o : Binary) → is_any modular_ops o ≡ true → (s : ScalarType) → is_wide s w ≡ true → Low o s
  low_result o m ty.Bool e = absurd (false≢true e)
  low_result o m (ty.Bits u) e = low_bits o m u (leb-true w u e)
  low_result o m ty.Integer e = low_integer o m

-- ---- through Refines

module _ {ρ : World} {g : List ℕ} (i : Inv ρ g) where
  -- a Refine has its source's value
  pub refine-value : (n : ℕ) → n < count_of g → (p : ℕ) → refined_at g n ≡ Some p → (p < n) × (ρ.IsSure → value ρ g n ≡ value ρ g p)
  unfolding refined_at
  refine-value n l p e = by (operation_at g n) refl e
    where
      own : (j : ℕ) → operation_at g n ≡ node.refine j → ρ.IsSure → value ρ g n ≡ value ρ g j
      own j q sure =
          inv_step i n l ∙ ap (λ (o : Op). operation_means ρ (type_at g n) o (operand ρ g)) q
          ∙ then_typed (type_at g n) (value ρ g j) (λ x m. (subst (Refined (value ρ g) (type_at g n)) q (i.refined n l sure)) x m)

      by : (o : Op) → operation_at g n ≡ o → refined_of o ≡ Some p → (p < n) × (ρ.IsSure → value ρ g n ≡ value ρ g p)
      by (node.constant c) q r = absurd (none-some r)
      by (node.input j) q r = absurd (none-some r)
      by (node.refine j) q r =
          let s : j ≡ p = some_is r in
          let b : start (node.refine j) ≤ n = subst (λ (o : Op). start o ≤ n) q (inv_below i n l) in
          (omega arith, λ sure. own j q sure ∙ ap (value ρ g) s)
      by (node.effect j) q r = absurd (none-some r)
      by (node.slice j o w) q r = absurd (none-some r)
      by (node.concat j k w) q r = absurd (none-some r)
      by (node.unary u j) q r = absurd (none-some r)
      by (node.binary b j k) q r = absurd (none-some r)

  -- a view has the value of the node that it was asked for
  abbrev Seen : ScalarType → ℕ → View → Type 0
  Seen t n (same p) = (p < count_of g) × (type_at g p ≡ t) × (ρ.IsSure → value ρ g n ≡ value ρ g p)
  Seen t n (source s) = (s < count_of g) × (ρ.IsSure → value ρ g n ≡ value ρ g s)

  further : (t : ScalarType) (n p : ℕ) (v : View) → (ρ.IsSure → value ρ g n ≡ value ρ g p) → Seen t p v → Seen t n v
  further t n p (same q) e d = (d.0, d.1, λ sure. e sure ∙ d.2 sure)
  further t n p (source q) e d = (d.0, λ sure. e sure ∙ d.1 sure)

  view_from_lem : (t : ScalarType) (k n : ℕ) → n < count_of g → Seen t n (view_from g t k n)
  view_from_lem t zero n l = (l, λ sure. refl)
  view_from_lem t (suc k) n l =
      by_given (Seen t n) (refined_at g n)
      (λ p e.
      let d = refine-value n l p e in
      let b : p < count_of g = (let q = d.0 in omega arith) in
      by_test (Seen t n) (same_type (type_at g p) t) (λ q. (b, same_type_lem (type_at g p) t q, d.1))
      (λ q. further t n p (view_from g t k p) d.1 (view_from_lem t k p b)))
      (λ e. (l, λ sure. refl))

-- ---- modular

modular-typed : (o : Binary) (w : ℕ) → is_any modular_ops o ≡ true → stored_typed o (ty.Bits w) (ty.Bits w) (ty.Bits w) ≡ true
modular-typed o w =
    let same : same_type (ty.Bits w) (ty.Bits w) && same_type (ty.Bits w) (ty.Bits w) ≡ true = rw (eq-eqb w w refl) in
    of_any (λ o. stored_typed o (ty.Bits w) (ty.Bits w) (ty.Bits w) ≡ true) modular_ops same same same same same same o

module _ {ρ : World} {g : List ℕ} (i : Inv ρ g) (w : ℕ) (wide : w ≤ 128) where
  truncated-value : (a : ℕ) → unary_means (ty.Bits w) (un.Truncate w) (Some a) ≡ Some (a % 2 ^ w)
  truncated-value a = truncate_valued w a ∙ low_valued w a

  module _ (s : ℕ) (l : s < count_of g) (o : Binary) (a b : ℕ) (e : operation_at g s ≡ node.binary o a b) (m : is_any modular_ops o ≡ true)
      (big : is_wide (type_at g s) w ≡ true) where
    below : start (node.binary o a b) ≤ s
    below = subst (λ (p : Op). start p ≤ s) e (inv_below i s l)

    la : a < count_of g
    la = let q = below in omega arith

    lb : b < count_of g
    lb = let q = below in omega arith

    low_covers : Covers (and_then (value ρ g s) (valued (ty.Bits w)))
        (binary_means (ty.Bits w) o (unary_means (ty.Bits w) (un.Truncate w) (value ρ g a)) (unary_means (ty.Bits w) (un.Truncate w) (value ρ g b)))
    low_covers x q =
        let p = then_is (value ρ g s) (valued (ty.Bits w)) x q in
        let y = p.0 in
        let is : x ≡ y % 2 ^ w = (typed_is (ty.Bits w) (y % 2 ^ w) x p.2).0 in
        let v : binary_means (type_at g s) o (value ρ g a) (value ρ g b) ≡ Some y
        = sym (inv_step i s l ∙ ap (λ (r : Op). operation_means ρ (type_at g s) r (operand ρ g)) e) ∙ p.1 in
        let c = then_is (value ρ g a) (λ h. and_then (value ρ g b) (λ k. and_then (binary_value o (type_at g s) h k) (of_type (type_at g s)))) y v in
        let d = then_is (value ρ g b) (λ k. and_then (binary_value o (type_at g s) c.0 k) (of_type (type_at g s))) y c.2 in
        let r = then_is (binary_value o (type_at g s) c.0 d.0) (of_type (type_at g s)) y d.2 in
        let z : binary_value o (type_at g s) c.0 d.0 ≡ Some y = r.1 ∙ ap Some (sym (typed_is (type_at g s) r.0 y r.2).0) in
        let f = low_result w wide c.0 d.0 y (value_pattern i a la c.0 c.1) (value_pattern i b lb d.0 d.1) o m (type_at g s) big z in
        (λ k. binary_means (ty.Bits w) o (unary_means (ty.Bits w) (un.Truncate w) (c.1 k)) (unary_means (ty.Bits w) (un.Truncate w) (d.1 k)))
        ∙ (λ k. binary_means (ty.Bits w) o (truncated-value c.0 k) (truncated-value d.0 k))
        ∙ ap (λ (k : Option ℕ). and_then k (of_type (ty.Bits w))) f ∙ low_valued w y ∙ ap Some (sym is)

    truncated_good : (t : Option ℕ) → (ρ.IsSure → t ≡ value ρ g s) → Claim ρ g (ty.Bits w) (and_then t (valued (ty.Bits w))) (plan.truncated w o a b)
    truncated_good t q = (wide, la, lb, refl, modular-typed o w m, λ sure x r. low_covers x (ap (λ (k : Option ℕ). and_then k (valued (ty.Bits w))) (sym (q sure)) ∙ r))

  module _ (v : ℕ) (l : v < count_of g) where
    source_claim : (s : ℕ) → s < count_of g → (ρ.IsSure → value ρ g v ≡ value ρ g s) → is_wide (type_at g s) w ≡ true → (o : Op) → operation_at g s ≡ o
        → Claim ρ g (ty.Bits w) (and_then (value ρ g v) (valued (ty.Bits w))) (truncated_plan w o)
    source_claim s b q big (node.constant c) e = tt
    source_claim s b q big (node.input j) e = tt
    source_claim s b q big (node.refine j) e = tt
    source_claim s b q big (node.effect j) e = tt
    source_claim s b q big (node.slice j p u) e = tt
    source_claim s b q big (node.concat j k u) e = tt
    source_claim s b q big (node.unary u j) e = tt
    source_claim s b q big (node.binary o j k) e =
        by_test (Claim ρ g (ty.Bits w) (and_then (value ρ g v) (valued (ty.Bits w)))) (is_any modular_ops o)
        (λ m. truncated_good s b o j k e m big (value ρ g v) q) (λ m. tt)

    pub modular_claim : Claim ρ g (ty.Bits w) (and_then (value ρ g v) (valued (ty.Bits w))) (modular_plan g v w)
    unfolding modular_plan view_at
    modular_claim = by (view_from g (ty.Bits w) LIMIT v) (view_from_lem i (ty.Bits w) LIMIT v l)
      where
        by : (r : View) → Seen i (ty.Bits w) v r → Claim ρ g (ty.Bits w) (and_then (value ρ g v) (valued (ty.Bits w))) (modular_of g w r)
        by (same p) d =
            let a = resolve_leads ρ g i p d.0 in
            let small : ρ.IsSure → (x : ℕ) → value ρ g v ≡ Some x → x < 2 ^ w
            = λ sure x m. subst (λ (t : ScalarType). x < size t) d.1 (value_small i p d.0 x (sym (d.2 sure) ∙ m)) in
            record {
              here = a.here;
              type = a.type ∙ d.1;
              means = λ sure x q. a.means ∙ sym (d.2 sure) ∙ seen i v l (ty.Bits w) (small sure) x q;
            }
        by (source s) d =
            by_test (Claim ρ g (ty.Bits w) (and_then (value ρ g v) (valued (ty.Bits w)))) (is_wide (type_at g s) w)
            (λ big. source_claim s d.0 d.1 big (operation_at g s) refl) (λ big. tt)

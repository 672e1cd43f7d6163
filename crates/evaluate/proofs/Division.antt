-- The signed divisions: SMT-LIB's as those of the integers that the fields stand for, and what the evaluators give.
-- Assumes nothing.
use mathlib.Core.Path.{◌≡◌, refl, sym, ap, ◌∙◌}
use mathlib.Core.Bool.{Bool, true, false, cond}
use Rattle.std.specs.Prelude.{Some}
use mathlib.Core.Logic.{◌↔◌, ◌⊎◌, inl, inr, ⊎_elim}
use Prim.Native.Nat.{ℕ, zero, suc, ◌+◌, ◌-◌, ◌/◌, ◌%◌, ◌^◌, ◌<◌, ◌≤◌}
use native.Mathlib.Nat.{div-le_self, div-lt_self, div-one, div_self, div-eq_of_lt, le-div_iff_mul-le, mod-le, mod-lt, mod_self, mod-eq_of_lt, eq-or-lt_of_le, lt_of_le_of_lt, lt_of_lt_of_le, le_trans, le_of_eq, lt_of_not-le}
use native.Mathlib.Omega.{arith}
use borrow.Author.Tests.{lt-ltb, ltb-true, ne_eqb}
use lib.Dec.{ltb, eqb}
use lib.IntN.{ℤ, pos, negsuc, neg_ℤ, nat_abs}
use lib.Pow.{pow_pos, pow_mono}
use lib.Signed.{mag, quot_z, rem_z}
use Rattle.range.specs.declared.ScalarType.TheVariants as ty
use Rattle.word.specs.Value.{residue, signed, fits, quotient, remainder}
use Rattle.word.specs.Option.{only, provided, mapped}
use Rattle.word.proofs.Integer.{residue-pos, residue-negsuc}
use Rattle.evaluate.specs.declared.Binary.TheVariants as bi
use Rattle.evaluate.specs.Evaluate.{reduced, binary_value}
use Rattle.evaluate.specs.SmtLib.{by_signs, bvneg, bvudiv, bvurem, bvsdiv, bvsrem}
use Rattle.evaluate.proofs.Answers.{given}
use Rattle.evaluate.proofs.Fields.{halves, negative, by_top, by_tops, narrow, negated, negated_some, fits_below, negative_below, signed-narrow}

-- ---- SMT-LIB's divisions

-- the division d, with c for a divisor 0
abbrev total : (ℕ → ℕ → ℕ) → (ℕ → ℕ) → ℕ → ℕ → ℕ
total d c x y = cond (eqb y 0) (c x) (d x y)

-- of magnitudes u = x and v = y, as a field with either sign
module _ (w : ℕ) (d : ℕ → ℕ → ℕ) (small : (x y : ℕ) → d x y ≤ x) (c : ℕ → ℕ)
    {u x v y : ℕ} (e : u ≡ x) (l : x < 2 ^ w) (q : v ≡ y) (n : y ≡ 0 → ⊥) where
  of_sizes : total d c u v ≡ d x y
  of_sizes = (λ i. total d c (e i) (q i)) ∙ rw (ne_eqb y 0 n)

  plus : total d c u v ≡ residue w (pos (d x y))
  plus = of_sizes ∙ sym (residue-pos w (d x y) (lt_of_le_of_lt (small x y) l))

  minus : bvneg w (total d c u v) ≡ residue w (neg_ℤ (pos (d x y)))
  minus = ap (bvneg w) of_sizes ∙ negated w (d x y) (lt_of_le_of_lt (small x y) l)

-- the magnitude of a field with the top bit set
high_size : (w a : ℕ) → a < 2 ^ w → 2 ^ (w - 1) ≤ a → (bvneg w a ≡ nat_abs (negative w a)) × (nat_abs (negative w a) < 2 ^ w)
high_size w a l h =
    let p : 0 < 2 ^ (w - 1) = pow_pos (w - 1) in
    (negated_some w a (omega arith) (omega arith) ∙ omega arith, omega arith)

module _ (w a b : ℕ) (some-width : 0 < w) (l : a < 2 ^ w) (m : b < 2 ^ w) (some-divisor : b ≡ 0 → ⊥) where
  pub quotient-value : bvsdiv w a b ≡ residue w (quot_z (signed w a) (signed w b))
  unfolding bvsdiv
  quotient-value =
      by_tops w a b some-width l m
      (λ (s t : Bool) (x y : ℤ).
      by_signs s t (bvudiv w a b) (bvneg w (bvudiv w (bvneg w a) b)) (bvneg w (bvudiv w a (bvneg w b))) (bvudiv w (bvneg w a) (bvneg w b))
      ≡ residue w (quot_z x y))
      (λ f g. plus w ◌/◌ div-le_self (λ x. 2 ^ w - 1) refl l refl some-divisor)
      (λ f g. let i = high_size w a l f in minus w ◌/◌ div-le_self (λ x. 2 ^ w - 1) i.0 i.1 refl some-divisor)
      (λ f g. minus w ◌/◌ div-le_self (λ x. 2 ^ w - 1) refl l (high_size w b m g).0 (omega arith))
      (λ f g. let i = high_size w a l f in plus w ◌/◌ div-le_self (λ x. 2 ^ w - 1) i.0 i.1 (high_size w b m g).0 (omega arith))

  pub remainder-value : bvsrem w a b ≡ residue w (rem_z (signed w a) (signed w b))
  unfolding bvsrem
  remainder-value =
      by_tops w a b some-width l m
      (λ (s t : Bool) (x y : ℤ).
      by_signs s t (bvurem a b) (bvneg w (bvurem (bvneg w a) b)) (bvurem a (bvneg w b)) (bvneg w (bvurem (bvneg w a) (bvneg w b)))
      ≡ residue w (rem_z x y))
      (λ f g. plus w ◌%◌ mod-le (λ x. x) refl l refl some-divisor)
      (λ f g. let i = high_size w a l f in minus w ◌%◌ mod-le (λ x. x) i.0 i.1 refl some-divisor)
      (λ f g. plus w ◌%◌ mod-le (λ x. x) refl l (high_size w b m g).0 (omega arith))
      (λ f g. let i = high_size w a l f in minus w ◌%◌ mod-le (λ x. x) i.0 i.1 (high_size w b m g).0 (omega arith))

-- ---- what the evaluators give in 128 bits

-- the divisor is not 0
divisor_some : (w b : ℕ) → 0 < w → b < 2 ^ w → (ltb 0 (nat_abs (signed w b)) ≡ true) ↔ (b ≡ 0 → ⊥)
divisor_some w b p m =
    let h : 0 < 2 ^ (w - 1) = pow_pos (w - 1) in
    by_top w b p m (λ (t : Bool) (y : ℤ). (ltb 0 (nat_abs y) ≡ true) ↔ (b ≡ 0 → ⊥))
    (λ g. (λ e z. omega (arith, ltb-true 0 b e), λ n. lt-ltb 0 b (omega arith)))
    (λ g. (λ e z. omega arith, λ n. lt-ltb 0 (suc (2 ^ w - suc b)) (omega arith)))

-- only the quotient by 1 is as large as x
by_one : (x y : ℕ) → 0 < x → 0 < y → (x ≤ x / y) ↔ (y ≡ 1)
by_one x y p q = (
  λ h. ⊎_elim (λ (e : 1 ≡ y). sym e) (λ (k : 1 < y). absurd (omega (arith, div-lt_self p k))) (eq-or-lt_of_le q),
  λ e. le_of_eq (sym (ap (λ (j : ℕ). x / j) e ∙ div-one x)),
)

-- only the least integer by -1 gives a quotient of 2 ^ (w - 1)
quotient_fits : (w a b : ℕ) → 0 < w → a < 2 ^ w → b < 2 ^ w
    → (mag (quot_z (signed w a) (signed w b)) < 2 ^ (w - 1)) ↔ ((a ≡ 2 ^ (w - 1)) × (b ≡ 2 ^ w - 1) → ⊥)
quotient_fits w a b p l m =
    let h = halves w p in
    let x : ℕ = nat_abs (negative w a) in
    let y : ℕ = nat_abs (negative w b) in
    let s : x / y ≤ x = div-le_self x y in
    let u = by_one x y (omega arith) (omega arith) in
    by_tops w a b p l m (λ (s t : Bool) (x y : ℤ). (mag (quot_z x y) < 2 ^ (w - 1)) ↔ ((a ≡ 2 ^ (w - 1)) × (b ≡ 2 ^ w - 1) → ⊥))
    (λ f g. (λ q c. omega arith, λ n. lt_of_le_of_lt (div-le_self a b) f))
    (λ f g. (λ q c. omega arith, λ n. negative_below (x / b) (2 ^ (w - 1)) h.0 (le_trans (div-le_self x b) (omega arith))))
    (λ f g. (λ q c. omega arith, λ n. negative_below (a / y) (2 ^ (w - 1)) h.0 (le_trans (div-le_self a y) (omega arith))))
    (λ f g. (λ q c. omega (arith, u.1 (omega arith)), λ n. lt_of_not-le (λ j. n (omega arith, omega (arith, u.0 (omega arith))))))

-- z, the quotient or the remainder, as an answer, against v
module _ (a b : ℕ) (l : a < 2 ^ 128) (m : b < 2 ^ 128) where
  pub at_128 : (z : ℤ) (v : ℕ) → ((b ≡ 0 → ⊥) → v ≡ residue 128 z)
      → (mapped (residue 128) (provided (ltb 0 (nat_abs (signed 128 b))) (only (fits (quot_z (signed 128 a) (signed 128 b))) z)) ≡ Some v)
      ↔ ((b ≡ 0 → ⊥) × ((a ≡ 2 ^ 127) × (b ≡ 2 ^ 128 - 1) → ⊥))
  at_128 z v e =
      let q : ℤ = quot_z (signed 128 a) (signed 128 b) in
      let t : Bool = ltb 0 (nat_abs (signed 128 b)) in
      let g = given (residue 128) t (fits q) z v in
      let d = divisor_some 128 b (omega arith) m in
      let f = quotient_fits 128 a b (omega arith) l m in (
        λ o. let c = g.0 o in (d.0 c.0, f.0 ((fits_below q).0 c.1)),
        λ c. g.1 (d.1 c.0, (fits_below q).1 (f.1 c.1), sym (e c.0)),
      )

-- ---- what they give in fewer bits: the unsigned quotient and remainder

narrowed : (w n : ℕ) (t : Bool) → w ≤ 128 → mapped (reduced (ty.Bits w)) (mapped (residue 128) (only t (pos n))) ≡ mapped (reduced (ty.Bits w)) (only t n)
unfolding residue
narrowed w n true h = ap Some (narrow n 128 w h)
narrowed w n false h = refl

module _ (w a b : ℕ) (under : w < 128) (l : a < 2 ^ w) (m : b < 2 ^ w) where
  unsigned : (n : ℕ) → mapped (reduced (ty.Bits w)) (mapped (residue 128) (provided (ltb 0 b) (only (fits (pos (a / b))) (pos n))))
      ≡ mapped (reduced (ty.Bits w)) (only (ltb 0 b) n)
  unsigned n =
      let f : fits (pos (a / b)) ≡ true =
      (fits_below (pos (a / b))).1 (lt_of_le_of_lt (div-le_self a b) (lt_of_lt_of_le l (pow_mono {i = w} {j = 127} (omega arith)))) in
      rw f (narrowed w n (ltb 0 b) (omega arith))

  pub unsigned_quotient : binary_value bi.DivideSigned (ty.Bits w) a b ≡ binary_value bi.DivideUnsigned (ty.Bits w) a b
  unfolding binary_value quotient
  unsigned_quotient = rw (signed-narrow w 128 a under l, signed-narrow w 128 b under m) (unsigned (a / b))

  pub unsigned_remainder : binary_value bi.RemainderSigned (ty.Bits w) a b ≡ binary_value bi.RemainderUnsigned (ty.Bits w) a b
  unfolding binary_value remainder
  unsigned_remainder = rw (signed-narrow w 128 a under l, signed-narrow w 128 b under m) (unsigned (a % b))

-- v is -n modulo 2 ^ w
opposite : (w n v : ℕ) → n < 2 ^ w → (v ≡ residue w (neg_ℤ (pos n))) ↔ (((n ≡ 0) × (v ≡ 0)) ⊎ ((0 < n) × (v + n ≡ 2 ^ w)))
opposite w zero v l =
    let z : residue w (pos 0) ≡ 0 = residue-pos w 0 l in
    (λ e. inl (refl, e ∙ z), ⊎_elim (λ c. c.1 ∙ sym z) (λ c. absurd (omega arith)))
opposite w (suc n) v l =
    let z : residue w (negsuc n) ≡ 2 ^ w - suc n = residue-negsuc w n (omega arith) in
    (λ e. inr (omega arith, omega arith), ⊎_elim (λ c. absurd (omega arith)) (λ c. omega arith))

-- neither is below the other
equal : {x y : ℕ} → (x < y → ⊥) → (y < x → ⊥) → x ≡ y
equal {x} {y} f g = omega arith

-- y goes into x
quotient-some : (x y : ℕ) → 0 < y → y ≤ x → 0 < x / y
quotient-some x y p h = (le-div_iff_mul-le {k = y} {x = 1} p).1 (omega arith)

-- when the unsigned division is the signed one
module _ (w a b : ℕ) (some-width : 0 < w) (l : a < 2 ^ w) (m : b < 2 ^ w) where
  -- the first top bit set
  module _ (f : 2 ^ (w - 1) ≤ a) (g : b < 2 ^ (w - 1)) (some-divisor : b ≡ 0 → ⊥) where
    pub quotient_first : (a / b ≡ residue w (quot_z (negative w a) (pos b))) ↔ (b ≡ 1)
    quotient_first =
        let h = halves w some-width in
        let x : ℕ = nat_abs (negative w a) in
        let i : x / b ≤ x = div-le_self x b in
        let o = opposite w (x / b) (a / b) (omega arith) in
        let u : (n : ℕ) → 0 < n → (n ≤ n / b) ↔ (b ≡ 1) = λ n p. by_one n b p (omega arith) in (
          λ e. ⊎_elim (λ c. absurd (omega (arith, quotient-some a b (omega arith) (omega arith)))) (λ c. (u a (omega arith)).0 (omega arith)) (o.0 e),
          λ e. o.1 (inr (omega (arith, (u x (omega arith)).1 e), omega (arith, (u x (omega arith)).1 e, (u a (omega arith)).1 e, div-le_self a b))),
        )

    pub remainder_first : (a % b ≡ residue w (rem_z (negative w a) (pos b))) ↔ ((b ≡ 0 → ⊥) × (a % b ≡ 0) × ((2 ^ w - a) % b ≡ 0))
    remainder_first =
        let h = halves w some-width in
        let x : ℕ = nat_abs (negative w a) in
        let u : (2 ^ w - a) % b ≡ x % b = ap (λ (j : ℕ). j % b) (omega arith) in
        let under : (n : ℕ) → n % b < b = λ n. mod-lt n (omega arith) in
        let o = opposite w (x % b) (a % b) (omega (arith, under x)) in
        (λ e. ⊎_elim (λ c. (some-divisor, c.1, u ∙ c.0)) (λ c. absurd (omega (arith, under x, under a))) (o.0 e), λ c. o.1 (inl (sym u ∙ c.2, c.1)))

  -- the second one
  module _ (f : a < 2 ^ (w - 1)) (g : 2 ^ (w - 1) ≤ b) where
    pub quotient_second : (a / b ≡ residue w (quot_z (pos a) (negative w b))) ↔ (a + b < 2 ^ w)
    quotient_second =
        let h = halves w some-width in
        let y : ℕ = nat_abs (negative w b) in
        let z : a / b ≡ 0 = div-eq_of_lt (omega arith) in
        let i : a / y ≤ a = div-le_self a y in
        let o = opposite w (a / y) (a / b) (omega arith) in (
          λ e. ⊎_elim (λ c. lt_of_not-le (λ k. omega (arith, quotient-some a y (omega arith) (omega arith)))) (λ c. absurd (omega arith)) (o.0 e),
          λ k. o.1 (inl (div-eq_of_lt (omega arith), z)),
        )

    pub remainder_second : (a % b ≡ residue w (rem_z (pos a) (negative w b))) ↔ (a + b < 2 ^ w)
    remainder_second =
        let y : ℕ = nat_abs (negative w b) in
        let i : a % y < y = mod-lt a (omega arith) in
        let n : a % b ≡ a = mod-eq_of_lt (omega arith) in
        let r : residue w (pos (a % y)) ≡ a % y = residue-pos w (a % y) (lt_of_le_of_lt (mod-le a y) l) in
        (λ e. omega arith, λ k. n ∙ sym (mod-eq_of_lt (omega arith)) ∙ sym r)

  -- both
  module _ (f : 2 ^ (w - 1) ≤ a) (g : 2 ^ (w - 1) ≤ b) where
    pub quotient_both : (a / b ≡ residue w (quot_z (negative w a) (negative w b))) ↔ (a ≡ b)
    quotient_both =
        let h = halves w some-width in
        let x : ℕ = nat_abs (negative w a) in
        let y : ℕ = nat_abs (negative w b) in
        let i : x / y ≤ x = div-le_self x y in
        let r : residue w (pos (x / y)) ≡ x / y = residue-pos w (x / y) (omega arith) in (
          λ e. equal
              (λ k. omega (arith, div-eq_of_lt {n = a} {m = b} k, quotient-some x y (omega arith) (omega arith)))
              (λ k. omega (arith, div-eq_of_lt {n = x} {m = y} (omega arith), quotient-some a b (omega arith) (omega arith))),
          λ e. ap (λ (n : ℕ). n / b) e ∙ div_self (omega arith) ∙ sym (r ∙ ap (λ (n : ℕ). n / y) (omega arith) ∙ div_self (omega arith)),
        )

    pub remainder_both : (a % b ≡ residue w (rem_z (negative w a) (negative w b))) ↔ (a ≡ b)
    remainder_both =
        let h = halves w some-width in
        let x : ℕ = nat_abs (negative w a) in
        let y : ℕ = nat_abs (negative w b) in
        let o = opposite w (x % y) (a % b) (lt_of_le_of_lt (mod-le x y) (omega arith)) in
        let low : a < b → a % b ≡ a = mod-eq_of_lt in
        let high : b < a → x % y ≡ x = λ k. mod-eq_of_lt (omega arith) in (
          λ e. ⊎_elim (λ c. equal (λ k. omega (arith, low k)) (λ k. omega (arith, high k)))
              (λ c. equal (λ k. omega (arith, low k, mod-lt x {m = y} (omega arith))) (λ k. omega (arith, high k, mod-lt a {m = b} (omega arith)))) (o.0 e),
          λ e. o.1 (inl (ap (λ (n : ℕ). n % y) (omega arith) ∙ mod_self y, ap (λ (n : ℕ). n % b) e ∙ mod_self b)),
        )

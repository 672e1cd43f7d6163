-- The ranges of types, and those that the rules give, are not empty and lie inside their types. Assumes nothing.
use mathlib.Core.Path.{◌≡◌, refl, subst}
use mathlib.Core.Bool.{Bool, true, false, ◌&&◌, ◌||◌}
use mathlib.Core.Logic.{⊎_elim}
use Rattle.std.specs.Prelude.{Option, Some}
use Prim.Native.Nat.{ℕ, ◌-◌, ◌^◌, ◌<◌}
use native.Mathlib.Omega.{arith}
use borrow.Author.Tests.{le-leb}
use lib.Dec.{ltb, leb}
use lib.Ieee.Bits.{is_true}
use lib.IntN.{ℤ, pos, negsuc, neg_ℤ}
use lib.Pow.{le_ones}
use lib.Signed.{mag, le_z, lt_z, ◌≤ℤ◌, ≤ℤ_refl}
use Rattle.word.specs.Option.{provided}
use Rattle.range.specs.Interval.{Interval, ◌∈◌, point, nonnegative, bits_interval, type_interval, inside_bits, inside_type, filtered, sign_extended, add_interval, sub_interval, neg_interval, mul_interval, quot_interval, rem_interval, and_interval, udiv_interval, urem_interval, shl_interval, shr_interval}
use Rattle.range.specs.declared.ScalarType.{ScalarType}
use Rattle.range.specs.declared.ScalarType.TheVariants as ty
use Rattle.range.proofs.Order.{orders, less_true, neg_parts}
use Rattle.range.proofs.Answers.{none-some, some_is, provided_is}
use Rattle.range.proofs.Sound.{tests, either, at_most_lem, neg_in, add_in, sub_in, mul_in, quot_in, rem_in, and_in, udiv_in, urem_in, shl_in, shr_in}

-- a range that question 1 allows at a type
pub record Valid (t : ScalarType) (a : Interval) : Type 0 where
  pub full : a.low ≤ℤ a.high
  pub inside : inside_type t a ≡ true

-- ---- tests

pub le_test : {x y : ℤ} → x ≤ℤ y → le_z x y ≡ true
le_test {x} {y} h = is_true (le_z x y) h.le

one_true : (s : Bool) → s || true ≡ true
one_true true = refl
one_true false = refl

-- ---- ranges that are not empty

-- the low end of a range that is not empty lies in it
low_in : {a : Interval} → a.low ≤ℤ a.high → a.low ∈ a
low_in {a} h = record { above = ≤ℤ_refl a.low; below = h }

-- a range that holds an integer is not empty
holds : {r : Interval} {z : ℤ} → z ∈ r → r.low ≤ℤ r.high
holds h = omega orders

-- a low end that is not negative is a number
natural : (a : Interval) → a.low ≤ℤ a.high → pos 0 ≤ℤ a.low → (n : ℕ) × ((pos n) ∈ a)
natural a f h = by a.low refl h
  where
    by : (z : ℤ) → a.low ≡ z → pos 0 ≤ℤ z → (n : ℕ) × ((pos n) ∈ a)
    by (pos n) e h = (n, subst (λ (z : ℤ). z ∈ a) e (low_in f))
    by (negsuc n) e h = absurd (omega orders)

pub neg_full : (a r : Interval) → a.low ≤ℤ a.high → neg_interval a ≡ Some r → r.low ≤ℤ r.high
neg_full a r f e = holds (neg_in a r a.low (low_in f) e)

module _ (a b r : Interval) (f : a.low ≤ℤ a.high) (g : b.low ≤ℤ b.high) where
  pub add_full : add_interval a b ≡ Some r → r.low ≤ℤ r.high
  add_full e = holds (add_in a b r a.low b.low (low_in f) (low_in g) e)

  pub sub_full : sub_interval a b ≡ Some r → r.low ≤ℤ r.high
  sub_full e = holds (sub_in a b r a.low b.low (low_in f) (low_in g) e)

  pub mul_full : mul_interval a b ≡ Some r → r.low ≤ℤ r.high
  mul_full e = holds (mul_in a b r a.low b.low (low_in f) (low_in g) e)

  pub quot_full : quot_interval a b ≡ Some r → r.low ≤ℤ r.high
  quot_full e = holds (quot_in a b r a.low b.low (low_in f) (low_in g) e)

  pub rem_full : rem_interval a b ≡ Some r → r.low ≤ℤ r.high
  rem_full e = holds (rem_in a b r a.low b.low (low_in f) (low_in g) e)

  -- numbers in both, for a rule that needs ranges that are not negative
  naturals : (o : Option Interval) → provided (nonnegative a && nonnegative b) o ≡ Some r
      → (m : ℕ) × (n : ℕ) × ((pos m) ∈ a) × ((pos n) ∈ b)
  naturals o e =
      let d = tests (nonnegative a) (nonnegative b) (provided_is _ o e).0 in
      let (m, h) = natural a f (at_most_lem (pos 0) a.low d.0) in
      let (n, k) = natural b g (at_most_lem (pos 0) b.low d.1) in
      (m, n, h, k)

  -- the same, and a divisor above 0
  divisors : (o : Option Interval) → provided (nonnegative a && lt_z (pos 0) b.low) o ≡ Some r
      → (m : ℕ) × (n : ℕ) × ((pos m) ∈ a) × ((pos n) ∈ b)
  divisors o e =
      let d = tests (nonnegative a) (lt_z (pos 0) b.low) (provided_is _ o e).0 in
      let (m, h) = natural a f (at_most_lem (pos 0) a.low d.0) in
      let (n, k) = natural b g (omega (orders, less_true (pos 0) b.low d.1)) in
      (m, n, h, k)

  pub and_full : and_interval a b ≡ Some r → r.low ≤ℤ r.high
  unfolding and_interval
  and_full e = let (m, n, h, k) = naturals _ e in holds (and_in a b r m n h k e)

  pub udiv_full : udiv_interval a b ≡ Some r → r.low ≤ℤ r.high
  unfolding udiv_interval
  udiv_full e = let (m, n, h, k) = divisors _ e in holds (udiv_in a b r m n h k e)

  pub urem_full : urem_interval a b ≡ Some r → r.low ≤ℤ r.high
  unfolding urem_interval
  urem_full e = let (m, n, h, k) = divisors _ e in holds (urem_in a b r m n h k e)

  pub shl_full : shl_interval a b ≡ Some r → r.low ≤ℤ r.high
  unfolding shl_interval
  shl_full e = let (m, n, h, k) = naturals _ e in holds (shl_in a b r m n h k e)

  pub shr_full : mag a.low < 2 ^ 127 → shr_interval a b ≡ Some r → r.low ≤ℤ r.high
  unfolding shr_interval
  shr_full small e = let (m, n, h, k) = naturals _ e in holds (shr_in a b r m n small h k e)

-- the integers of w bits in two's complement
pub extended_full : (w : ℕ) (r : Interval) → sign_extended w ≡ Some r → r.low ≤ℤ r.high
unfolding sign_extended
extended_full w r e =
    let h : neg_ℤ (pos (2 ^ (w - 1))) ≤ℤ pos (2 ^ (w - 1) - 1) = omega (orders, neg_parts (pos (2 ^ (w - 1)))) in
    subst (λ (a : Interval). a.low ≤ℤ a.high) (some_is (provided_is (ltb 0 w && ltb w 128) _ e).1) h

-- ---- ranges inside their types

-- every range lies inside Integer
pub integer_valid : {a : Interval} → a.low ≤ℤ a.high → Valid ty.Integer a
integer_valid h = record { full = h; inside = refl }

pub point_inside : (w n : ℕ) → n < 2 ^ w → inside_bits w (point (pos n)) ≡ true
point_inside w n h = rw (le-leb 0 n (omega arith), le-leb n (2 ^ w - 1) (le_ones w h)) (one_true (leb 128 w))

pub filtered_valid : (w : ℕ) (a r : Interval) → a.low ≤ℤ a.high → filtered w a ≡ Some r → Valid (ty.Bits w) r
unfolding filtered
filtered_valid w a r f e =
    let p = provided_is _ (Some a) e in
    let d = tests (nonnegative a) _ (tests (ltb w 128) _ p.0).1 in
    subst (Valid (ty.Bits w)) (some_is p.1) (record { full = f; inside = rw (d.0, d.1) (one_true (leb 128 w)) })

-- a range inside one that a type allows, if it is not empty
pub part_valid : (t : ScalarType) (a b : Interval) → Valid t a → a.low ≤ℤ b.low → b.low ≤ℤ b.high → b.high ≤ℤ a.high → Valid t b
part_valid t a b v low full high = record { full = full; inside = by t v.inside }
  where
    bits : (w : ℕ) → inside_bits w a ≡ true → inside_bits w b ≡ true
    bits w e =
        let d = tests (nonnegative a) _ e in
        let n = at_most_lem (pos 0) a.low d.0 in
        rw (le_test {x = pos 0} {y = b.low} (omega orders))
        (⊎_elim (λ q. rw q)
        (λ q.
        let m = at_most_lem a.high (pos (2 ^ w - 1)) q in
        rw (le_test {x = b.high} {y = pos (2 ^ w - 1)} (omega orders)) (one_true (leb 128 w)))
        (either (leb 128 w) _ d.1))

    by : (s : ScalarType) → inside_type s a ≡ true → inside_type s b ≡ true
    by ty.Bool e = bits 1 e
    by (ty.Bits w) e = bits w e
    by ty.Integer e = refl

pub type_valid : (t : ScalarType) (a : Interval) → type_interval t ≡ Some a → Valid t a
unfolding bits_interval
type_valid ty.Bool a e = subst (Valid ty.Bool) (some_is e) (record { full = omega orders; inside = refl })
type_valid (ty.Bits w) a e =
    subst (Valid (ty.Bits w)) (some_is (provided_is (ltb w 128) _ e).1)
    (record { full = omega orders; inside = rw (le_test (≤ℤ_refl (pos (2 ^ w - 1)))) (one_true (leb 128 w)) })
type_valid ty.Integer a e = absurd (none-some e)

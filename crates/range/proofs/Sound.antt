-- The range rules are sound: the result of operands in two intervals lies in the interval that the rule gives. Assumes nothing.
use mathlib.Core.Path.{◌≡◌, refl, sym, subst}
use mathlib.Core.Bool.{Bool, true, false, ◌&&◌, ◌||◌}
use mathlib.Core.Logic.{◌⊎◌, inl, inr, ⊎_elim}
use Rattle.std.specs.Prelude.{Option, None, Some}
use Prim.Native.Nat.{ℕ, suc, ◌+◌, ◌-◌, ◌*◌, ◌/◌, ◌%◌, ◌^◌, ◌≤◌, ◌<◌}
use native.Mathlib.Nat.{mod-lt, mod-le, mul-le-mul, le_of_eq, lt_of_lt_of_le, div-eq_of_lt}
use native.Mathlib.Omega.{arith}
use borrow.Author.Tests.{ltb-true}
use lib.Bits.{bit_and, and_le_l, and_le_r}
use lib.Dec.{T, ltb}
use lib.IntN.{ℤ, pos, negsuc, nat_abs, neg_ℤ, ◌+ℤ◌, ◌-ℤ◌, ◌*ℤ◌}
use lib.Pow.{pow_pos, pow_mono, le_ones, lt_of_le_ones}
use lib.Signed.{mag, le_z, lt_z, quot_z, rem_z, shr_z, ◌≤ℤ◌, le_z_yes, ≤ℤ_refl}
use Rattle.word.specs.Value.{fits, fitted, quotient, min_z, max_z}
use Rattle.word.specs.Option.{provided}
use Rattle.word.proofs.Integer.{lt-or-ge}
use Rattle.range.specs.declared.ScalarType.TheVariants as ty
use Rattle.range.specs.Interval.{Interval, ◌∈◌, point, nonnegative, bits_interval, type_interval, filtered, sign_extended, between, add_interval, sub_interval, neg_interval, corners_of, mul_interval, divisible, quot_interval, cut, cut_to, rem_interval, and_interval, udiv_interval, at_most, urem_interval, clamped, shifted, shl_interval, shr_interval}
use Rattle.range.proofs.Order.{up, down, orders, sum_parts, neg_parts, abs_parts, less_true, pos-le, add-le, neg-le, extremes, le-min, max-le, Between, rising, falling, left_factor, right_factor, dividend, divisor, div-le}

-- ---- tests

pub point_in : (z : ℤ) → z ∈ (point z)
point_in z = record { above = ≤ℤ_refl z; below = ≤ℤ_refl z }

pub tests : (s t : Bool) → s && t ≡ true → (s ≡ true) × (t ≡ true)
tests true t e = (refl, e)
tests false t e = (e, cc)

pub either : (s t : Bool) → s || t ≡ true → (s ≡ true) ⊎ (t ≡ true)
either true t e = inl refl
either false t e = inr e

pub at_most_lem : (x y : ℤ) → le_z x y ≡ true → x ≤ℤ y
at_most_lem x y e = le_z_yes (subst T (sym e) tt)

-- ---- what holds of an answer, if there is one

data All {A : Type 0} (P : A → Type 0) : Option A → Type 0 where
  nothing : All P None
  just : {a : A} → P a → All P (Some a)

the : {A : Type 0} {P : A → Type 0} {r : A} → All P (Some r) → P r
the (just h) = h

given : {A : Type 0} (P : A → Type 0) {o : Option A} {r : A} → All P o → o ≡ Some r → P r
given P h e = the (subst (All P) e h)

tested : {A : Type 0} {P : A → Type 0} (t : Bool) (o : Option A) → (t ≡ true → All P o) → All P (provided t o)
tested true o h = h refl
tested false o h = nothing

tested_both : {A : Type 0} {P : A → Type 0} (s t : Bool) (o : Option A) → (s ≡ true → t ≡ true → All P o) → All P (provided (s && t) o)
tested_both s t o h = tested (s && t) o (λ e. h (tests s t e).0 (tests s t e).1)

module _ {P : ℤ → Type 0} where
  fit : (z : ℤ) → P z → All P (fitted z)
  fit z h = tested (fits z) (Some z) (λ t. just h)

  divided : (x y : ℤ) → P (quot_z x y) → All P (quotient x y)
  unfolding quotient
  divided x y h = tested (ltb 0 (nat_abs y)) _ (λ t. fit _ h)

  shift : (z k : ℤ) → (clamped k < 127 → P (z *ℤ pos (2 ^ clamped k))) → All P (shifted z k)
  unfolding shifted
  shift z k h = tested (ltb (clamped k) 127) _ (λ t. fit _ (h (ltb-true (clamped k) 127 t)))

  lesser : (z : ℤ) (o : Option ℤ) → All (λ m. P (min_z z m)) o → All P (at_most z o)
  lesser z None h = nothing
  lesser z (Some m) (just h) = just h

-- from the lesser low end to the greater high end
abbrev hull : Interval → Interval → Interval
hull a b = record { low = min_z a.low b.low; high = max_z a.high b.high }

-- from the least to the greatest of four
abbrev frame : ℤ → ℤ → ℤ → ℤ → Interval
frame k l m n = hull (hull (point k) (point l)) (hull (point m) (point n))

module _ {P : Interval → Type 0} where
  ends : (o p : Option ℤ) → All (λ l. All (λ h. P (record { low = l; high = h })) p) o → All P (between o p)
  ends None p h = nothing
  ends (Some l) None h = nothing
  ends (Some l) (Some u) (just (just h)) = just h

  cuts : (a : Interval) (o p : Option ℤ) → All (λ m. All (λ n. P (cut a (max_z m n))) p) o → All P (cut_to a o p)
  cuts a None p h = nothing
  cuts a (Some m) None h = nothing
  cuts a (Some m) (Some n) (just (just h)) = just h

  corners : (o p q r : Option ℤ) → All (λ k. All (λ l. All (λ m. All (λ n. P (frame k l m n)) r) q) p) o → All P (corners_of o p q r)
  corners None p q r h = nothing
  corners (Some k) None q r h = nothing
  corners (Some k) (Some l) None r h = nothing
  corners (Some k) (Some l) (Some m) None h = nothing
  corners (Some k) (Some l) (Some m) (Some n) (just (just (just (just h)))) = just h

-- ---- sums, products, quotients

fitted-ends : {z : ℤ} (l h : ℤ) → l ≤ℤ z → z ≤ℤ h → All (◌∈◌ z) (between (fitted l) (fitted h))
fitted-ends l h p q = ends _ _ (fit _ (fit _ (record { above = p; below = q })))

-- between an integer of a and one of b
joined : {u v z : ℤ} (a b : Interval) → Between u v z → u ∈ a → v ∈ b → z ∈ (hull a b)
joined a b (rising h k) f g = omega (orders, extremes a.low b.low, extremes a.high b.high)
joined a b (falling h k) f g = omega (orders, extremes a.low b.low, extremes a.high b.high)

spanned : {u v z : ℤ} → Between u v z → z ∈ (hull (point u) (point v))
spanned {u} {v} b = joined (point u) (point v) b (point_in u) (point_in v)

-- f at x and y lies within f at the four corners
framed : (f : ℤ → ℤ → ℤ) (a b : Interval) (x y : ℤ) → Between (f a.low y) (f a.high y) (f x y)
    → ((z : ℤ) → Between (f z b.low) (f z b.high) (f z y))
    → ◌∈◌ (f x y) (frame (f a.low b.low) (f a.low b.high) (f a.high b.low) (f a.high b.high))
framed f a b x y h k = joined _ _ h (spanned (k a.low)) (spanned (k a.high))

-- no size inside is above both ends' sizes
sized : (b : Interval) (y : ℤ) → y ∈ b → pos (nat_abs y) ≤ℤ max_z (pos (nat_abs b.low)) (pos (nat_abs b.high))
sized b (pos n) g = omega (orders, extremes (pos (nat_abs b.low)) (pos (nat_abs b.high)), abs_parts b.high)
sized b (negsuc n) g = omega (orders, extremes (pos (nat_abs b.low)) (pos (nat_abs b.high)), abs_parts b.low)

-- a remainder by a divisor of a size from 1 to m
in_cut : (a : Interval) (x y m : ℤ) → x ∈ a → 0 < nat_abs y → pos (nat_abs y) ≤ℤ m → (rem_z x y) ∈ (cut a m)
in_cut a (pos n) y m f p h =
    let l : n % nat_abs y < nat_abs y = mod-lt n p in
    let k = le-min a.high (m -ℤ pos 1) (pos (n % nat_abs y)) (omega (orders, mod-le n (nat_abs y))) (omega (orders, sum_parts m (negsuc 0))) in
    omega (orders, extremes (max_z a.low (pos 1 -ℤ m)) (pos 0), extremes (min_z a.high (m -ℤ pos 1)) (pos 0))
in_cut a (negsuc n) y m f p h =
    let l : suc n % nat_abs y < nat_abs y = mod-lt (suc n) p in
    let e = neg_parts (pos (suc n % nat_abs y)) in
    let k =
    max-le a.low (pos 1 -ℤ m) (neg_ℤ (pos (suc n % nat_abs y))) (omega (orders, mod-le (suc n) (nat_abs y)))
    (omega (orders, sum_parts (pos 1) (neg_ℤ m), neg_parts m)) in
    omega (orders, extremes (max_z a.low (pos 1 -ℤ m)) (pos 0), extremes (min_z a.high (m -ℤ pos 1)) (pos 0))

pub neg_in : (a r : Interval) (x : ℤ) → x ∈ a → neg_interval a ≡ Some r → (neg_ℤ x) ∈ r
unfolding neg_interval
neg_in a r x f = given (◌∈◌ (neg_ℤ x)) (fitted-ends _ _ (neg-le f.below) (neg-le f.above))

module _ (a b r : Interval) (x y : ℤ) (f : x ∈ a) (g : y ∈ b) where
  pub add_in : add_interval a b ≡ Some r → (x +ℤ y) ∈ r
  unfolding add_interval
  add_in = given (◌∈◌ (x +ℤ y)) (fitted-ends _ _ (add-le f.above g.above) (add-le f.below g.below))

  pub sub_in : sub_interval a b ≡ Some r → (x -ℤ y) ∈ r
  unfolding sub_interval
  sub_in = given (◌∈◌ (x -ℤ y)) (fitted-ends _ _ (add-le f.above (neg-le g.below)) (add-le f.below (neg-le g.above)))

  pub mul_in : mul_interval a b ≡ Some r → (x *ℤ y) ∈ r
  unfolding mul_interval
  mul_in =
      given (◌∈◌ (x *ℤ y))
      (corners _ _ _ _ (fit _ (fit _ (fit _ (fit _
      (framed ◌*ℤ◌ a b x y (left_factor y f.above f.below) (λ z. right_factor z g.above g.below)))))))

  -- y is not 0, and 0 lies between y and no end of b
  divides : divisible a b ≡ true → (0 < nat_abs y) × (0 < up b.low + down y) × (0 < up y + down b.high)
  unfolding divisible
  divides d =
      ⊎_elim (λ (l : lt_z (pos 0) b.low ≡ true). omega (orders, less_true (pos 0) b.low l, abs_parts y))
      (λ (l : lt_z b.high (pos 0) ≡ true). omega (orders, less_true b.high (pos 0) l, abs_parts y)) (either _ _ (tests _ _ d).0)

  pub quot_in : quot_interval a b ≡ Some r → (quot_z x y) ∈ r
  unfolding quot_interval
  quot_in =
      given (◌∈◌ (quot_z x y))
      (tested (divisible a b) _ (λ t.
      let d = divides t in
      corners _ _ _ _ (divided _ _ (divided _ _ (divided _ _ (divided _ _
      (framed quot_z a b x y (dividend y d.0 f.above f.below) (λ z. divisor z d.1 d.2 g.above g.below))))))))

  pub rem_in : rem_interval a b ≡ Some r → (rem_z x y) ∈ r
  unfolding rem_interval
  rem_in =
      given (◌∈◌ (rem_z x y))
      (tested (divisible a b) _ (λ t. cuts a _ _ (fit _ (fit _ (in_cut a x y _ f (divides t).0 (sized b y g))))))

-- ---- the rules of integers that are not negative

on_naturals : (P : ℤ → ℤ → Type 0) (x y : ℤ) → pos 0 ≤ℤ x → x ≤ℤ y → ((i j : ℕ) → i ≤ j → P (pos i) (pos j)) → P x y
on_naturals P (pos i) (pos j) p h k = k i j (omega orders)
on_naturals P (pos i) (negsuc j) p h k = absurd (omega orders)
on_naturals P (negsuc i) y p h k = absurd (omega orders)

module _ (x y : ℤ) (p : pos 0 ≤ℤ x) (h : x ≤ℤ y) where
  clamped-le : clamped x ≤ clamped y
  unfolding clamped
  clamped-le = on_naturals (λ x y. clamped x ≤ clamped y) x y p h (λ i j l. omega arith)

  module _ {c d : ℕ} (k : c ≤ d) where
    left_le : (x *ℤ pos (2 ^ c)) ≤ℤ (y *ℤ pos (2 ^ d))
    left_le = on_naturals (λ x y. (x *ℤ pos (2 ^ c)) ≤ℤ (y *ℤ pos (2 ^ d))) x y p h (λ i j l. pos-le (mul-le-mul l (pow_mono k)))

    right_le : shr_z x (2 ^ d) ≤ℤ shr_z y (2 ^ c)
    right_le = on_naturals (λ x y. shr_z x (2 ^ d) ≤ℤ shr_z y (2 ^ c)) x y p h (λ i j l. pos-le (div-le l (pow_pos c) (pow_mono k)))

-- every bit is shifted out
shifted_out : (z : ℤ) (c : ℕ) → mag z < 2 ^ 127 → 127 ≤ c → shr_z z (2 ^ c) ≤ℤ pos 0
shifted_out (pos n) c s h = pos-le (le_of_eq (div-eq_of_lt (lt_of_lt_of_le s (pow_mono h))))
shifted_out (negsuc n) c s h = omega orders

quotient_le : (u v : ℤ) {m n : ℕ} → pos m ≤ℤ u → v ≤ℤ pos n → 0 < up v → pos (m / n) ≤ℤ quot_z u v
quotient_le (pos j) (pos i) h k p = pos-le (div-le (omega orders) p (omega orders))
quotient_le (pos j) (negsuc i) h k p = absurd (omega arith)
quotient_le (negsuc j) v h k p = absurd (omega orders)

module _ (a b r : Interval) (m n : ℕ) where
  pub and_in : (pos m) ∈ a → (pos n) ∈ b → and_interval a b ≡ Some r → (pos (bit_and m n)) ∈ r
  unfolding and_interval
  and_in f g =
      given (◌∈◌ (pos (bit_and m n)))
      (tested_both (nonnegative a) (nonnegative b) _ (λ s t. just (record {
        above = omega orders;
        below = le-min a.high b.high _ (omega (orders, and_le_l m n)) (omega (orders, and_le_r m n));
      })))

  pub udiv_in : (pos m) ∈ a → (pos n) ∈ b → udiv_interval a b ≡ Some r → (pos (m / n)) ∈ r
  unfolding udiv_interval
  udiv_in f g =
      given (◌∈◌ (pos (m / n)))
      (tested_both (nonnegative a) (lt_z (pos 0) b.low) _ (λ s t.
      ends _ _ (just (divided _ _ (record {
        above = omega orders;
        below = quotient_le a.high b.low f.below g.above (omega (arith, less_true (pos 0) b.low t));
      })))))

  pub urem_in : (pos m) ∈ a → (pos n) ∈ b → urem_interval a b ≡ Some r → (pos (m % n)) ∈ r
  unfolding urem_interval
  urem_in f g =
      given (◌∈◌ (pos (m % n)))
      (tested_both (nonnegative a) (lt_z (pos 0) b.low) _ (λ s t.
      let l : m % n < n = mod-lt m (omega (orders, less_true (pos 0) b.low t)) in
      ends _ _ (just (lesser _ _ (fit _ (record {
        above = omega orders;
        below = le-min a.high (b.high -ℤ pos 1) _ (omega (orders, mod-le m n)) (omega (orders, sum_parts b.high (negsuc 0)));
      }))))))

  pub shl_in : (pos m) ∈ a → (pos n) ∈ b → shl_interval a b ≡ Some r → (pos (m * 2 ^ n)) ∈ r
  unfolding shl_interval clamped
  shl_in f g =
      given (◌∈◌ (pos (m * 2 ^ n)))
      (tested_both (nonnegative a) (nonnegative b) _ (λ s t.
      let p = at_most_lem (pos 0) a.low s in
      let q = at_most_lem (pos 0) b.low t in
      ends _ _ (shift _ _ (λ c. shift _ _ (λ d. record {
        above = left_le a.low (pos m) p f.above (omega (arith, clamped-le b.low (pos n) q g.above));
        below = left_le (pos m) a.high (omega orders) f.below (omega (arith, clamped-le (pos n) b.high (omega orders) g.below));
      })))))

  pub shr_in : mag a.low < 2 ^ 127 → (pos m) ∈ a → (pos n) ∈ b → shr_interval a b ≡ Some r → (pos (m / 2 ^ n)) ∈ r
  unfolding shr_interval clamped
  shr_in small f g =
      given (◌∈◌ (pos (m / 2 ^ n)))
      (tested_both (nonnegative a) (nonnegative b) _ (λ s t.
      let p = at_most_lem (pos 0) a.low s in
      let q = at_most_lem (pos 0) b.low t in
      let c = clamped-le (pos n) b.high (omega orders) g.below in
      just (record {
        above = ⊎_elim (λ (l : clamped b.high < n). omega (orders, shifted_out a.low (clamped b.high) small (omega arith)))
            (right_le a.low (pos m) p f.above) (lt-or-ge (clamped b.high) n);
        below = right_le (pos m) a.high (omega orders) f.below (omega (arith, clamped-le b.low (pos n) q g.above));
      })))

-- ---- types

pub filtered_in : (w : ℕ) (a r : Interval) (z : ℤ) → z ∈ a → filtered w a ≡ Some r → (z ∈ r) × ((n : ℕ) × (z ≡ pos n) × (n < 2 ^ w))
unfolding filtered
filtered_in w a r z f =
    given (λ i. (z ∈ i) × ((n : ℕ) × (z ≡ pos n) × (n < 2 ^ w)))
    (tested_both (ltb w 128) _ _ (λ s t.
    let d = tests (nonnegative a) _ t in
    let p = at_most_lem (pos 0) a.low d.0 in
    let q = at_most_lem a.high (pos (2 ^ w - 1)) d.1 in
    just (f, bits z (omega orders) (omega orders))))
  where
    bits : (z : ℤ) → pos 0 ≤ℤ z → z ≤ℤ pos (2 ^ w - 1) → (n : ℕ) × (z ≡ pos n) × (n < 2 ^ w)
    bits (pos n) p q = (n, refl, lt_of_le_ones w (omega orders))
    bits (negsuc n) p q = absurd (omega orders)

pub type_in_bits : (w n : ℕ) (r : Interval) → n < 2 ^ w → bits_interval w ≡ Some r → (pos n) ∈ r
unfolding bits_interval
type_in_bits w n r h = given (◌∈◌ (pos n)) (tested (ltb w 128) _ (λ t. just (omega (orders, le_ones w h))))

pub type_in_bool : (n : ℕ) (r : Interval) → n < 2 → type_interval ty.Bool ≡ Some r → (pos n) ∈ r
type_in_bool n r h = given (◌∈◌ (pos n)) (just (omega orders))

pub sign_extended_in : (w : ℕ) (r : Interval) (z : ℤ) → mag z < 2 ^ (w - 1) → sign_extended w ≡ Some r → z ∈ r
unfolding sign_extended
sign_extended_in w r z h = given (◌∈◌ z) (tested (ltb 0 w && ltb w 128) _ (λ t. just (half z h)))
  where
    half : (z : ℤ) → mag z < 2 ^ (w - 1) → ◌∈◌ z (record { low = neg_ℤ (pos (2 ^ (w - 1))); high = pos (2 ^ (w - 1) - 1) })
    half (pos n) h = omega (orders, neg_parts (pos (2 ^ (w - 1))))
    half (negsuc n) h = omega (orders, neg_parts (pos (2 ^ (w - 1))))

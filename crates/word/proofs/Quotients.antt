-- Long division, a bit at a time. The modulus is M: what is left to `omega` is linear. Assumes nothing.
use Rattle.std.proofs.Common.{◌≡◌, ℕ, suc, ◌+◌, ◌-◌, ◌*◌, ◌/◌, ◌%◌, ◌^◌, ◌<◌, ◌≤◌, Bool, true, false, not, ltb, sym, refl, ap, ◌∙◌, ⊎_elim, lt_of_lt_of_le, mul-le-mul_right, mul_assoc, suc-mul, add-mul, lt_of_mul-lt-mul_right, one-mul, zero-add, zero-mul, mul_right_comm, div-mul-le_self, mul_left_comm, arith, pow_mono, pow-add, shr-shr, ltb-true, le-ltb, lt-ltb}
use Rattle.std.specs.Prelude.{Option, None, Some}
use Rattle.std.specs.Option.{MatchOption, IsSomeAnd}
use borrow.Author.Tests.{not-true}
use lib.Count.{count_leading_zeros}
use lib.Bits.{bit_or}
use lib.Arith.{digits_div, digits_mod}
use lib.Pow.{mod-pow-add, mod-mod-pow, field, low, shr_le}
use Rattle.word.specs.Option.{only, from_bool}
use Rattle.word.specs.Division.{Divided, divided, divided_of, division_of}
use Rattle.word.specs.Value.{val, number_of}
use Rattle.word.specs.declared.Word.{Word}
use Rattle.word.specs.declared.Division.{Division}
use Rattle.word.proofs.Magnitudes.{answered, answered_test}
use Rattle.word.proofs.Integer.{lt-or-ge}

-- 2 * h + c, modulo a power
pub double : (k h c : ℕ) → c < 2 → h % 2 ^ k * 2 + c ≡ (2 * h + c) % 2 ^ (k + 1)
double k h c f =
    let d : (2 * h + c) / 2 ≡ h = omega arith in
    let m : (2 * h + c) % 2 ≡ c = omega arith in
    sym (mod-pow-add (2 * h + c) k 1 ∙ rw (d, m))

-- ---- a difference of words, half by half

module _ (a b r : ℕ) (b-half : b < 2 ^ 64) (r-half : r < 2 ^ 64) (taken : (r + b) % 2 ^ 64 ≡ a) where
  -- a difference of halves and its borrow
  borrowed : r + b ≡ a + from_bool (ltb a b) * 2 ^ 64
  borrowed =
      ⊎_elim
      (λ (l : a < b). rw (lt-ltb a b l) (omega arith))
      (λ (l : b ≤ a). rw (le-ltb a b l) (omega arith))
      (lt-or-ge a b)

  -- with a borrow it is not 0
  not_least : ltb a b ≡ true → 1 ≤ r
  not_least t = let l : a < b = ltb-true a b t in omega arith

one_at_most : (t : Bool) → (from_bool t < 2) × (from_bool t < 2 ^ 64)
one_at_most true = (omega arith, omega arith)
one_at_most false = (omega arith, omega arith)

either_one : (s t : Bool) → (s ≡ true → t ≡ false) → (bit_or (from_bool s) (from_bool t) ≡ from_bool s + from_bool t) × (bit_or (from_bool s) (from_bool t) < 2)
either_one true t f = rw (f refl) (refl, omega arith)
either_one false true f = (refl, omega arith)
either_one false false f = (refl, omega arith)

-- the three differences together, with the borrows c, x and y
whole : (K ah al bh bl l d h c x y : ℕ) → l + bl ≡ al + c * K → d + bh ≡ ah + x * K → h + c ≡ d + y * K
    → h * K + l + (bh * K + bl) ≡ ah * K + al + (x + y) * (K * K)
whole K ah al bh bl l d h c x y e f g =
    let f' : d * K + bh * K ≡ ah * K + x * K * K = sym (add-mul d bh K) ∙ ap (λ (n : ℕ). n * K) f ∙ add-mul ah (x * K) K in
    let g' : h * K + c * K ≡ d * K + y * K * K = sym (add-mul h c K) ∙ ap (λ (n : ℕ). n * K) g ∙ add-mul d (y * K) K in
    omega (arith, add-mul x y (K * K), mul_assoc x K K, mul_assoc y K K)

module _ (ah al bh bl l d h : ℕ) (b-low : bl < 2 ^ 64) (b-high : bh < 2 ^ 64) (l-half : l < 2 ^ 64) (d-half : d < 2 ^ 64) (h-half : h < 2 ^ 64)
    (lows : (l + bl) % 2 ^ 64 ≡ al) (highs : (d + bh) % 2 ^ 64 ≡ ah) (carried : (h + from_bool (ltb al bl)) % 2 ^ 64 ≡ d) where
  apart : ltb ah bh ≡ true → ltb d (from_bool (ltb al bl)) ≡ false
  apart t =
      let n = not_least ah bh d b-high d-half highs t in
      let m = (one_at_most (ltb al bl)).0 in
      le-ltb d (from_bool (ltb al bl)) (omega arith)

  -- a borrow out of the low halves is taken from the high ones
  pub difference_of_halves : (h * 2 ^ 64 + l + (bh * 2 ^ 64 + bl) ≡ ah * 2 ^ 64 + al + bit_or (from_bool (ltb ah bh)) (from_bool (ltb d (from_bool (ltb al bl)))) * 2 ^ 128)
      × (bit_or (from_bool (ltb ah bh)) (from_bool (ltb d (from_bool (ltb al bl)))) < 2)
  difference_of_halves =
      let e = either_one (ltb ah bh) (ltb d (from_bool (ltb al bl))) apart in
      let x = borrowed al bl l b-low l-half lows in
      let y = borrowed ah bh d b-high d-half highs in
      let z = borrowed d (from_bool (ltb al bl)) h (one_at_most (ltb al bl)).1 h-half carried in
      (rw e.0 (whole (2 ^ 64) ah al bh bl l d h (from_bool (ltb al bl)) (from_bool (ltb ah bh)) (from_bool (ltb d (from_bool (ltb al bl)))) x y z), e.1)

-- ---- a step: to the remainder r the next bit is brought down, which gives s, and to the quotient q a bit is added. v is s less the divisor b, w is 1 where that borrows

module _ (M q r b bit s v w : ℕ) (small : bit < 2) (less : r < b) (brought : s ≡ 2 * r + bit) (borrows : v + b ≡ s + w * M) where
  step : (k t : ℕ) → t + k * b ≡ s → (q * 2 + k) * b + t ≡ 2 * (q * b + r) + bit
  step k t e = omega (arith, add-mul (q * 2) k b, mul_right_comm q 2 b)

  pub step_less : v < M → w ≡ 1 → ((q * 2 + (1 - w)) * b + s ≡ 2 * (q * b + r) + bit) × (s < b)
  step_less f e =
      let m : w * M ≡ M = ap (λ (n : ℕ). n * M) e ∙ one-mul M in
      (rw e (step 0 s (omega arith)), omega arith)

  pub step_more : w ≡ 0 → ((q * 2 + (1 - w)) * b + v ≡ 2 * (q * b + r) + bit) × (v < b)
  step_more e =
      let m : w * M ≡ 0 = ap (λ (n : ℕ). n * M) e ∙ zero-mul M in
      (rw e (step 1 v (omega arith)), omega arith)

-- ---- the loop: the bits of a from i on are divided

module _ (a i : ℕ) (more : 0 < i) where
  half : a / 2 ^ (i - 1) / 2 ≡ a / 2 ^ i
  half = let e : i - 1 + 1 ≡ i = omega arith in shr-shr a (i - 1) 1 ∙ ap (λ (n : ℕ). a / 2 ^ n) e

  -- the next bit
  pub next : a / 2 ^ (i - 1) ≡ 2 * (a / 2 ^ i) + a / 2 ^ (i - 1) % 2
  next = omega (arith, half)

  -- brought down to a remainder, it gives no more than a
  pub next_fits : (M q b r : ℕ) → a < M → a / 2 ^ i ≡ q * b + r → 2 * r + a / 2 ^ (i - 1) % 2 < M
  next_fits M q b r f e = omega (arith, next, shr_le a (i - 1))

-- the remainder t and below it the n bits of a half h
module _ (t h n : ℕ) (bits : h < 2 ^ n) where
  -- a bit of the half
  pub bit_of_half : (j : ℕ) → j < n → h / 2 ^ j % 2 ≡ (t * 2 ^ n + h) / 2 ^ j % 2
  bit_of_half j f =
      let e : n - (1 + j) + (1 + j) ≡ n = omega arith in
      let m : (t * 2 ^ n + h) % 2 ^ (1 + j) ≡ h % 2 ^ (1 + j) =
      sym (mod-mod-pow (t * 2 ^ n + h) (n - (1 + j)) (1 + j)) ∙ ap (λ (k : ℕ). (t * 2 ^ n + h) % 2 ^ k % 2 ^ (1 + j)) e
      ∙ ap (λ (k : ℕ). k % 2 ^ (1 + j)) (low t n bits) in
      sym (field h 1 j) ∙ ap (λ (k : ℕ). k / 2 ^ j) (sym m) ∙ field (t * 2 ^ n + h) 1 j

  -- the quotient so far has a bit for each that was brought down
  pub room_left : (i q b r : ℕ) → i ≤ n → t < b → (t * 2 ^ n + h) / 2 ^ i ≡ q * b + r → q < 2 ^ (n - i)
  room_left i q b r f l e =
      let p : 2 ^ n ≡ 2 ^ (n - i) * 2 ^ i = let s : n ≡ n - i + i = omega arith in ap (λ (k : ℕ). 2 ^ k) s ∙ pow-add 2 (n - i) i in
      let up : suc t * 2 ^ n ≤ b * 2 ^ n = mul-le-mul_right (2 ^ n) l in
      let down : (q * b + r) * 2 ^ i ≤ t * 2 ^ n + h = rw (← e) (div-mul-le_self (t * 2 ^ n + h) (2 ^ i)) in
      let x : q * (b * 2 ^ i) ≡ q * b * 2 ^ i = sym (mul_assoc q b (2 ^ i)) in
      let y : 2 ^ (n - i) * (b * 2 ^ i) ≡ b * 2 ^ n = mul_left_comm (2 ^ (n - i)) b (2 ^ i) ∙ ap (λ (k : ℕ). b * k) (sym p) in
      lt_of_mul-lt-mul_right (b * 2 ^ i) (omega (arith, suc-mul t (2 ^ n), add-mul (q * b) r (2 ^ i)))

-- ---- both halves

-- nothing above a half
pub half_alone : (n l : ℕ) → l < 2 ^ 64 → 0 * 2 ^ n + l < 2 ^ 128
half_alone n l f = rw (zero-mul, zero-add) (lt_of_lt_of_le f (pow_mono {i = 64} {j = 128} (omega arith)))

pub of_half : (m l n : ℕ) → 0 * m + l ≡ n → l ≡ n
of_half m l n e = omega (arith, zero-mul m)

-- the remainder that the high half leaves, and the low half below it, are no more than the dividend
pub below_dividend : (K M hi lo q b r : ℕ) → hi ≡ q * b + r → hi * K + lo < M → r * K + lo < M
below_dividend K M hi lo q b r e f = let d : hi * K ≡ q * b * K + r * K = ap (λ (n : ℕ). n * K) e ∙ add-mul (q * b) r K in omega arith

pub both_halves : (K hi lo b qh rh ql rl : ℕ) → hi ≡ qh * b + rh → rh * K + lo ≡ ql * b + rl → hi * K + lo ≡ (qh * K + ql) * b + rl
both_halves K hi lo b qh rh ql rl e f =
    let d : hi * K ≡ qh * b * K + rh * K = ap (λ (n : ℕ). n * K) e ∙ add-mul (qh * b) rh K in
    omega (arith, add-mul (qh * K) ql b, mul_right_comm qh K b)

-- there is one quotient and one remainder
pub unique : {n b q r : ℕ} → n ≡ q * b + r → r < b → (q ≡ n / b) × (r ≡ n % b)
unique {q} e h = (rw e (sym (digits_div q h)), rw e (sym (digits_mod q h)))

-- what a division gives is its quotient, its remainder and its steps
pub divided_is : (n d q r s : ℕ) → n ≡ q * d + r → r < d → s ≡ 128 - count_leading_zeros 128 n → ◌≡◌ {A = Divided} (record { quotient = q; remainder = r; steps = s }) (divided n d)
unfolding divided
divided_is n d q r s e f g = let u = unique e f in λ i. record { quotient = u.0 i; remainder = u.1 i; steps = g i }

-- a division that is there, by a divisor that passed the test t
pub division_given : (t : Bool) (n d : ℕ) (x : Divided) → Some x ≡ only t (divided n d) → (t ≡ true) × (x.quotient ≡ n / d) × (x.remainder ≡ n % d)
unfolding divided
division_given t n d x e = let a = answered t x (divided n d) e in (answered_test t x (divided n d) e, (λ i. (a i).quotient), (λ i. (a i).remainder))

-- a part of a division that is there, as `map` takes it by a closure that relates x and w by Q
pub part_given : {Q : Division → Word → Type 0} (f : Divided → ℕ) → ((x : Division) (w : Word) → Q x w → val w ≡ f (divided_of x)) → (t : Bool) (v : Divided) (o : Option Division) (r : Option Word)
    → division_of o ≡ only t v → MatchOption o (r ≡ None) (λ x. IsSomeAnd r (Q x)) → number_of r ≡ only t (f v)
part_given f part true v None r e h = cc
part_given f part false v None r e h = ap number_of h
part_given f part false v (Some x) r e h = cc
part_given f part true v (Some x) None e h = absurd h
part_given f part true v (Some x) (Some w) e h = ap Some (part x w h ∙ ap f (answered true (divided_of x) v e))

-- ---- what `is_zero` says of a divisor n

module _ (n : ℕ) {t : Bool} (tested : t ≡ not (ltb 0 n)) where
  pub by_zero : t ≡ true → ltb 0 n ≡ false
  by_zero e = not-true (ltb 0 n) (sym tested ∙ e)

-- Integers by sign and magnitude: products, quotients and shifts. Assumes nothing.
use Rattle.std.proofs.Common.{◌≡◌, ℕ, zero, suc, ◌+◌, ◌-◌, ◌*◌, ◌/◌, ◌%◌, ◌^◌, ◌<◌, ◌≤◌, Bool, true, false, ltb, ℤ, pos, negsuc, ◌*ℤ◌, neg_ℤ, nat_abs, sym, refl, ap, ◌∙◌, lt_of_le_of_lt, div-le_self, arith, pow_pos, ltb-false}
use Rattle.std.specs.Prelude.{None, Some}
use lib.Signed.{mag, mag_rem, quot_z, rem_z, shr_z}
use Rattle.word.specs.Value.{residue, signed, fits, fitted, is_neg, quotient, remainder}
use Rattle.word.specs.Step.{with_sign, differ}
use Rattle.word.specs.Option.{only}
use Rattle.word.proofs.Halves.{pred_sub}
use Rattle.word.proofs.Integer.{signed_low, residue-pos, residue-negsuc, residue-neg, signed-residue}
use Rattle.word.proofs.Sums.{yes_fitted, not-fitted, under_twice, flip_low}

-- ---- results by sign and magnitude

pub product_sign : (x y : ℤ) → with_sign (differ (is_neg x) (is_neg y)) (nat_abs x * nat_abs y) ≡ x *ℤ y
product_sign (pos a) (pos b) = refl
product_sign (pos a) (negsuc b) = refl
product_sign (negsuc a) (pos b) = refl
product_sign (negsuc a) (negsuc b) = refl

pub quotient_sign : (x y : ℤ) → with_sign (differ (is_neg x) (is_neg y)) (nat_abs x / nat_abs y) ≡ quot_z x y
quotient_sign (pos a) (pos b) = refl
quotient_sign (pos a) (negsuc b) = refl
quotient_sign (negsuc a) (pos b) = refl
quotient_sign (negsuc a) (negsuc b) = refl

pub remainder_sign : (x y : ℤ) → with_sign (is_neg x) (nat_abs x % nat_abs y) ≡ rem_z x y
remainder_sign (pos a) y = refl
remainder_sign (negsuc a) y = refl

-- ---- what fits

-- magnitude b or more does not fit b integers of each sign, less one
too_large : (b : ℕ) (s : Bool) (n : ℕ) → b < n → b ≤ mag (with_sign s n)
too_large b true zero h = absurd (omega arith)
too_large b true (suc n) h = omega arith
too_large b false n h = omega arith

pub magnitude_past : (s : Bool) (n : ℕ) → 2 ^ 127 < n → None ≡ fitted (with_sign s n)
magnitude_past s n h = not-fitted (with_sign s n) (too_large (2 ^ 127) s n h)

pub positive_past : (n : ℕ) → 2 ^ 127 ≤ n → None ≡ fitted (pos n)
positive_past n h = not-fitted (pos n) h

pub positive_fits : (n : ℕ) → n < 2 ^ 127 → Some (signed 128 n) ≡ fitted (pos n)
positive_fits n h = ap Some (signed_low 128 n h) ∙ yes_fitted (pos n) h

negative_mag : (b n : ℕ) → 0 < b → n ≤ b → mag (neg_ℤ (pos n)) < b
negative_mag b zero p h = p
negative_mag b (suc n) p h = omega arith

below_twice : (H n : ℕ) → 0 < H → n ≤ H → n < H + H
below_twice H n p h = omega arith

pub negative_fits : (n : ℕ) → n ≤ 2 ^ 127 → Some (signed 128 ((2 ^ 128 - n) % 2 ^ 128)) ≡ fitted (neg_ℤ (pos n))
negative_fits n h =
    let b : mag (neg_ℤ (pos n)) < 2 ^ 127 = negative_mag (2 ^ 127) n (pow_pos 127) h in
    let e : n ≡ residue 128 (pos n) = sym (residue-pos 128 n (below_twice (2 ^ 127) n (pow_pos 127) h)) in
    ap Some
    (ap (λ (r : ℕ). signed 128 ((2 ^ 128 - r) % 2 ^ 128)) e ∙ ap (signed 128) (residue-neg 128 (pos n))
    ∙ signed-residue 128 (neg_ℤ (pos n)) (omega arith) b)
    ∙ yes_fitted (neg_ℤ (pos n)) b

-- ---- an answer that is there, and one that is not

pub answered : {A : Type 0} (t : Bool) (v a : A) → Some v ≡ only t a → v ≡ a
answered true v a e = cc
answered false v a e = cc

pub unanswered : {A : Type 0} (t : Bool) (a : A) → None ≡ only t a → t ≡ false
unanswered true a e = cc
unanswered false a e = refl

past_twice : (H n : ℕ) → 0 < H → H + H ≤ n → H < n
past_twice H n p h = omega arith

-- a magnitude past 128 bits
pub product_past : (s : Bool) (n : ℕ) → None ≡ only (ltb n (2 ^ 128)) n → None ≡ fitted (with_sign s n)
product_past s n e = magnitude_past s n (past_twice (2 ^ 127) n (pow_pos 127) (ltb-false n (2 ^ 128) (unanswered (ltb n (2 ^ 128)) n e)))

-- ---- the shift that rounds down

pub shift_negative : (x : ℤ) (m : ℕ) → is_neg x ≡ true → mag x < 2 ^ 127
    → signed 128 (2 ^ 128 - 1 - (2 ^ 128 - 1 - residue 128 x) / m) ≡ shr_z x m
shift_negative (pos v) m t f = cc
shift_negative (negsuc v) m t f =
    let b : v / m < 2 ^ 127 = lt_of_le_of_lt (div-le_self v m) f in
    ap (λ (r : ℕ). signed 128 (2 ^ 128 - 1 - (2 ^ 128 - 1 - r) / m)) (residue-negsuc 128 v (under_twice (2 ^ 127) f))
    ∙ ap (λ (r : ℕ). signed 128 (2 ^ 128 - 1 - r / m)) (flip_low (2 ^ 127) v f)
    ∙ ap (signed 128) (pred_sub (2 ^ 128) (v / m) ∙ sym (residue-negsuc 128 (v / m) (under_twice (2 ^ 127) b)))
    ∙ signed-residue 128 (negsuc (v / m)) (omega arith) b

pub shift_positive : (x : ℤ) (m : ℕ) → is_neg x ≡ false → mag x < 2 ^ 127 → signed 128 (residue 128 x / m) ≡ shr_z x m
shift_positive (pos v) m t f =
    ap (λ (r : ℕ). signed 128 (r / m)) (residue-pos 128 v (under_twice (2 ^ 127) f))
    ∙ signed_low 128 (v / m) (lt_of_le_of_lt (div-le_self v m) f)
shift_positive (negsuc v) m t f = cc

-- ---- quotient and remainder

pub answered_test : {A : Type 0} (t : Bool) (v a : A) → Some v ≡ only t a → t ≡ true
answered_test true v a e = refl
answered_test false v a e = cc

module _ (x y : ℤ) where
  pub by_zero-none : ltb 0 (nat_abs y) ≡ false → (None ≡ quotient x y) × (None ≡ remainder x y)
  unfolding quotient remainder
  by_zero-none z = (rw z, rw z)

  module _ (some-divisor : ltb 0 (nat_abs y) ≡ true) where
    pub quotient_by : fitted (quot_z x y) ≡ quotient x y
    unfolding quotient
    quotient_by = rw some-divisor

    -- the remainder fits: it is at most as far from 0 as x
    pub remainder_by : mag x < 2 ^ 127 → fits (quot_z x y) ≡ true → fitted (rem_z x y) ≡ remainder x y
    unfolding remainder
    remainder_by f e = rw (some-divisor, e) (sym (yes_fitted (rem_z x y) (lt_of_le_of_lt (mag_rem x y) f)))

    pub remainder-none : fits (quot_z x y) ≡ false → None ≡ remainder x y
    unfolding remainder
    remainder-none e = rw (some-divisor, e)

-- Sums, differences and magnitudes of integers of 128 bits. Assumes nothing.
use Rattle.std.proofs.Common.{◌≡◌, ℕ, suc, ◌+◌, ◌-◌, ◌%◌, ◌^◌, ◌<◌, ◌≤◌, Bool, true, false, not, ℤ, pos, negsuc, ◌+ℤ◌, ◌-ℤ◌, neg_ℤ, nat_abs, sym, refl, ap, ◌∙◌, ⊎_elim, mod-eq_of_lt, arith, le-ltb, lt-ltb}
use Rattle.std.specs.Prelude.{None, Some}
use native.Mathlib.Nat.{add-mod_right, mod-add-mod}
use lib.Signed.{mag}
use Rattle.word.specs.Value.{residue, signed, wrapped, fits, fitted, is_neg}
use Rattle.word.specs.Step.{agrees, unless_wrapped}
use Rattle.word.specs.Option.{only}
use Rattle.word.proofs.Integer.{Difference, difference_add, difference_neg, signed_low, signed_high, residue-pos, residue-negsuc, signed-residue, lt-or-ge}
use Rattle.word.proofs.SignedHalves.{minus_one, flip}

-- ---- what fits

yes_fits : (z : ℤ) → mag z < 2 ^ 127 → fits z ≡ true
unfolding fits
yes_fits z h = lt-ltb (mag z) (2 ^ 127) h

not-fits : (z : ℤ) → 2 ^ 127 ≤ mag z → fits z ≡ false
unfolding fits
not-fits z h = le-ltb (mag z) (2 ^ 127) h

pub yes_fitted : (z : ℤ) → mag z < 2 ^ 127 → Some z ≡ fitted z
yes_fitted z h = rw (yes_fits z h)

pub not-fitted : (z : ℤ) → 2 ^ 127 ≤ mag z → None ≡ fitted z
not-fitted z h = rw (not-fits z h)

wrapped-fits : (z : ℤ) → mag z < 2 ^ 127 → wrapped z ≡ z
unfolding wrapped
wrapped-fits z h = signed-residue 128 z (omega arith) h

-- ---- what wraps turns its sign. H is half of the numbers of the width

module _ (H : ℕ) where
  complement_low : (n : ℕ) → H ≤ n → n < H + H → H + H - suc n < H
  complement_low n f g = omega arith

  pub under_twice : {n : ℕ} → n < H → n < H + H
  under_twice f = omega arith

wrapped_turns : (z : ℤ) → 2 ^ 127 ≤ mag z → mag z < 2 ^ 128 → is_neg (wrapped z) ≡ not (is_neg z)
unfolding wrapped
wrapped_turns (pos n) f g = ap (λ (x : ℕ). is_neg (signed 128 x)) (residue-pos 128 n g) ∙ ap is_neg (signed_high 128 n f g)
wrapped_turns (negsuc n) f g =
    ap (λ (x : ℕ). is_neg (signed 128 x)) (residue-negsuc 128 n g) ∙ ap is_neg (signed_low 128 (2 ^ 128 - suc n) (complement_low (2 ^ 127) n f g))

-- ---- the signs of two summands, and what their sum then may be

module _ (H : ℕ) where
  abbrev Near : Bool → Bool → ℤ → Type 0
  Near true true z = (is_neg z ≡ true) × (mag z < H + H)
  Near true false z = mag z < H
  Near false true z = mag z < H
  Near false false z = (is_neg z ≡ false) × (mag z < H + H)

  under : (z : ℤ) (p q : ℕ) → Difference z p q → p < q → is_neg z ≡ true
  under (pos n) p q d h = absurd (omega arith)
  under (negsuc n) p q d h = refl

  size : (z : ℤ) (p q b : ℕ) → Difference z p q → p < q + b → q ≤ p + b → mag z < b
  size (pos n) p q b d f g = omega arith
  size (negsuc n) p q b d f g = omega arith

  near_add : (x y : ℤ) → mag x < H → mag y < H → Near (is_neg x) (is_neg y) (x +ℤ y)
  near_add (pos a) (pos b) f g = (refl, omega arith)
  near_add (pos a) (negsuc b) f g =
      size (pos a +ℤ negsuc b) (a + 0) (0 + suc b) H (difference_add (pos a) (negsuc b) a 0 0 (suc b) (omega arith) (omega arith)) (omega arith) (omega arith)
  near_add (negsuc a) (pos b) f g =
      size (negsuc a +ℤ pos b) (0 + b) (suc a + 0) H (difference_add (negsuc a) (pos b) 0 (suc a) b 0 (omega arith) (omega arith)) (omega arith) (omega arith)
  near_add (negsuc a) (negsuc b) f g = (refl, omega arith)

  minus : (x y : ℤ) (p q p' q' : ℕ) → Difference x p q → Difference y p' q' → Difference (x -ℤ y) (p + q') (q + p')
  minus x y p q p' q' d e = difference_add x (neg_ℤ y) p q q' p' d (difference_neg y p' q' e)

  near_sub : (x y : ℤ) → mag x < H → mag y < H → Near (is_neg x) (not (is_neg y)) (x -ℤ y)
  near_sub (pos a) (pos b) f g = size (pos a -ℤ pos b) (a + 0) (0 + b) H (minus (pos a) (pos b) a 0 b 0 (omega arith) (omega arith)) (omega arith) (omega arith)
  near_sub (pos a) (negsuc b) f g = (refl, omega arith)
  near_sub (negsuc a) (pos b) f g =
      let d = minus (negsuc a) (pos b) 0 (suc a) b 0 (omega arith) (omega arith) in
      (under (negsuc a -ℤ pos b) (0 + 0) (suc a + b) d (omega arith), size (negsuc a -ℤ pos b) (0 + 0) (suc a + b) (H + H) d (omega arith) (omega arith))
  near_sub (negsuc a) (negsuc b) f g =
      size (negsuc a -ℤ negsuc b) (0 + suc b) (suc a + 0) H (minus (negsuc a) (negsuc b) 0 (suc a) 0 (suc b) (omega arith) (omega arith)) (omega arith) (omega arith)

-- two summands of one sign: the sum fits exactly if it has that sign modulo 2 ^ 128
one_sign : (s : Bool) (z : ℤ) → is_neg z ≡ s → mag z < 2 ^ 128 → only (agrees s s (is_neg (wrapped z))) (wrapped z) ≡ fitted z
one_sign s z e f =
    ⊎_elim
    (λ (h : mag z < 2 ^ 127). ap (λ (y : ℤ). only (agrees s s (is_neg y)) y) (wrapped-fits z h) ∙ ap (λ (t : Bool). only (agrees s s t) z) e
    ∙ ap (λ (t : Bool). only t z) (same s) ∙ yes_fitted z h)
    (λ (h : 2 ^ 127 ≤ mag z). ap (λ (t : Bool). only (agrees s s t) (wrapped z)) (wrapped_turns z h f ∙ ap not e)
    ∙ ap (λ (t : Bool). only t (wrapped z)) (other s) ∙ not-fitted z h)
    (lt-or-ge (mag z) (2 ^ 127))
  where
    same : (s : Bool) → agrees s s s ≡ true
    same true = refl
    same false = refl

    other : (s : Bool) → agrees s s (not s) ≡ false
    other true = refl
    other false = refl

two_signs : (z : ℤ) → mag z < 2 ^ 127 → Some (wrapped z) ≡ fitted z
two_signs z h = ap Some (wrapped-fits z h) ∙ yes_fitted z h

checked : (l r : Bool) (z : ℤ) → Near (2 ^ 127) l r z → unless_wrapped l r (wrapped z) ≡ fitted z
checked true true z n = one_sign true z n.0 n.1
checked true false z n = two_signs z n
checked false true z n = two_signs z n
checked false false z n = one_sign false z n.0 n.1

pub checked_add : (x y : ℤ) → mag x < 2 ^ 127 → mag y < 2 ^ 127 → unless_wrapped (is_neg x) (is_neg y) (wrapped (x +ℤ y)) ≡ fitted (x +ℤ y)
checked_add x y f g = checked (is_neg x) (is_neg y) (x +ℤ y) (near_add (2 ^ 127) x y f g)

pub checked_sub : (x y : ℤ) → mag x < 2 ^ 127 → mag y < 2 ^ 127 → unless_wrapped (is_neg x) (not (is_neg y)) (wrapped (x -ℤ y)) ≡ fitted (x -ℤ y)
checked_sub x y f g = checked (is_neg x) (not (is_neg y)) (x -ℤ y) (near_sub (2 ^ 127) x y f g)

-- ---- magnitudes

pub abs_neg : (x : ℤ) → is_neg x ≡ true → mag x < 2 ^ 127 → residue 128 (neg_ℤ x) ≡ nat_abs x
abs_neg (pos n) t f = cc
abs_neg (negsuc n) t f = residue-pos 128 (suc n) (room (2 ^ 127) f)
  where
    room : (H : ℕ) {n : ℕ} → n < H → suc n < H + H
    room H f = omega arith

pub abs-pos : (x : ℤ) → is_neg x ≡ false → mag x < 2 ^ 127 → residue 128 x ≡ nat_abs x
abs-pos (pos n) t f = residue-pos 128 n (under_twice (2 ^ 127) f)
abs-pos (negsuc n) t f = cc

-- ---- a difference of words, from the sum that it undoes

pub difference : (m r b a : ℕ) → r < m → b ≤ m → (r + b) % m ≡ a → r ≡ (a + (m - b)) % m
difference m r b a f g e =
    let s : r + b + (m - b) ≡ r + m = omega arith in
    sym (ap (λ (n : ℕ). (n + (m - b)) % m) (sym e) ∙ mod-add-mod (r + b) m (m - b) ∙ ap (λ (n : ℕ). n % m) s ∙ add-mod_right r m ∙ mod-eq_of_lt f)

pub abs_of_neg : (x : ℤ) → is_neg x ≡ true → neg_ℤ x ≡ pos (nat_abs x)
abs_of_neg (pos n) t = cc
abs_of_neg (negsuc n) t = refl

pub abs_of_pos : (x : ℤ) → is_neg x ≡ false → x ≡ pos (nat_abs x)
abs_of_pos (pos n) t = refl
abs_of_pos (negsuc n) t = cc

-- ---- the complement

flip_high : (H n : ℕ) → n < H → H + H - suc (H + H - 1 - n) ≡ n
flip_high H n f = omega arith

pub flip_low : (H n : ℕ) → n < H → H + H - 1 - (H + H - suc n) ≡ n
flip_low H n f = omega arith

high_enough : (H n : ℕ) → n < H → (H ≤ H + H - 1 - n) × (H + H - 1 - n < H + H)
high_enough H n f = (omega arith, omega arith)

pub signed_complement : (x : ℤ) → mag x < 2 ^ 127 → signed 128 (2 ^ 128 - 1 - residue 128 x) ≡ negsuc 0 -ℤ x
signed_complement (pos n) f =
    let b = high_enough (2 ^ 127) n f in
    ap (λ (r : ℕ). signed 128 (2 ^ 128 - 1 - r)) (residue-pos 128 n (under_twice (2 ^ 127) f))
    ∙ signed_high 128 (2 ^ 128 - 1 - n) b.0 b.1 ∙ ap negsuc (flip_high (2 ^ 127) n f) ∙ sym (minus_one n)
signed_complement (negsuc n) f =
    ap (λ (r : ℕ). signed 128 (2 ^ 128 - 1 - r)) (residue-negsuc 128 n (under_twice (2 ^ 127) f))
    ∙ ap (signed 128) (flip_low (2 ^ 127) n f) ∙ signed_low 128 n f ∙ sym (flip (negsuc n) refl)

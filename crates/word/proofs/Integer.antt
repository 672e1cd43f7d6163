-- Integers modulo 2 ^ w, and their two's complement in w bits, w a parameter. Assumes nothing.
use Rattle.std.proofs.Common.{◌≡◌, ℕ, zero, suc, ◌+◌, ◌-◌, ◌*◌, ◌/◌, ◌%◌, ◌^◌, ◌<◌, ◌≤◌, Bool, true, false, ltb, ◌⊎◌, ℤ, pos, negsuc, ◌+ℤ◌, ◌-ℤ◌, ◌*ℤ◌, neg_ℤ, sym, refl, ap, ◌∙◌, subst, inl, inr, ⊎_elim, mod-lt, mod-eq_of_lt, mul_assoc, mul_comm, add_comm, div-add-mod', zero-add, mul-add, arith, pow_pos, ltb-false, ltb-true, le-ltb, lt-ltb}
use native.Mathlib.Nat.{zero-mod, two-pow-succ, add-mod, add-mod-mod, mod-add-mod, add-mod_right, add-mul-mod_self_right, mul-mod_left}
use lib.IntN.{neg_ℤ-neg_ℤ, sub_ℕ}
use lib.Signed.{mag}
use Rattle.word.specs.Value.{residue, signed}

-- z is p - q
abbrev pub Difference : ℤ → ℕ → ℕ → Type 0
Difference (pos n) p q = n + q ≡ p
Difference (negsuc n) p q = p + suc n ≡ q

move : (z : ℤ) (p q p' q' : ℕ) → Difference z p q → p + q' ≡ p' + q → Difference z p' q'
move (pos n) p q p' q' d e = omega arith
move (negsuc n) p q p' q' d e = omega arith

sub_cases : (a b : ℕ) (t : Bool) → ltb a b ≡ t → Difference (sub_ℕ a b) a b
sub_cases a b true e = let h : a < b = ltb-true a b e in rw e (omega arith)
sub_cases a b false e = let h : b ≤ a = ltb-false a b e in rw e (omega arith)

difference_sub : (a b : ℕ) → Difference (sub_ℕ a b) a b
difference_sub a b = sub_cases a b (ltb a b) refl

pub difference_add : (x y : ℤ) (p q p' q' : ℕ) → Difference x p q → Difference y p' q' → Difference (x +ℤ y) (p + p') (q + q')
difference_add (pos a) (pos b) p q p' q' d e = omega arith
difference_add (pos a) (negsuc b) p q p' q' d e = move (sub_ℕ a (suc b)) a (suc b) (p + p') (q + q') (difference_sub a (suc b)) (omega arith)
difference_add (negsuc a) (pos b) p q p' q' d e = move (sub_ℕ b (suc a)) b (suc a) (p + p') (q + q') (difference_sub b (suc a)) (omega arith)
difference_add (negsuc a) (negsuc b) p q p' q' d e = omega arith

pub difference_neg : (x : ℤ) (p q : ℕ) → Difference x p q → Difference (neg_ℤ x) q p
difference_neg (pos zero) p q d = omega arith
difference_neg (pos (suc a)) p q d = omega arith
difference_neg (negsuc a) p q d = omega arith

-- every integer is some difference
pub parts : (z : ℤ) → (p : ℕ) × (q : ℕ) × Difference z p q
parts (pos n) = (n, 0, omega arith)
parts (negsuc n) = (0, suc n, omega arith)

-- ---- the residue

pub residue-lt : (w : ℕ) (z : ℤ) → residue w z < 2 ^ w
unfolding residue
residue-lt w (pos n) = mod-lt n (pow_pos w)
residue-lt w (negsuc n) = let p : 0 < 2 ^ w = pow_pos w in omega arith

-- a multiple of the modulus changes no residue
drop_multiple : (n k m : ℕ) → (n + (m + k * m)) % m ≡ n % m
drop_multiple n k m = ap (λ (x : ℕ). x % m) (e n m (k * m)) ∙ add-mod_right (n + k * m) m ∙ add-mul-mod_self_right n k m
  where
    e : (n m j : ℕ) → n + (m + j) ≡ n + j + m
    e n m j = omega arith

-- m - n % m, less the part of n below m, is 0 modulo m
complement : (a n m : ℕ) → 0 < m → (a + (m - n % m + n)) % m ≡ a % m
complement a n m h =
    let l : n % m < m = mod-lt n h in
    let e : a + (m - n % m + n) ≡ a + (m + n / m * m) = omega (arith, div-add-mod' n m) in
    ap (λ (x : ℕ). x % m) e ∙ drop_multiple a (n / m) m

pub residue_difference : (w : ℕ) (z : ℤ) (p q : ℕ) → Difference z p q → (residue w z + q) % 2 ^ w ≡ p % 2 ^ w
unfolding residue
residue_difference w (pos n) p q d = mod-add-mod n (2 ^ w) q ∙ ap (λ (x : ℕ). x % 2 ^ w) d
residue_difference w (negsuc n) p q d =
    let l : n % 2 ^ w < 2 ^ w = mod-lt n (pow_pos w) in
    let e : 2 ^ w - 1 - n % 2 ^ w + q ≡ p + (2 ^ w - n % 2 ^ w + n) = omega arith in
    ap (λ (x : ℕ). x % 2 ^ w) e ∙ complement p n (2 ^ w) (pow_pos w)

-- a summand cancels
cancel : (m r s q : ℕ) → r < m → s < m → (r + q) % m ≡ (s + q) % m → r ≡ s
cancel m r s q f g e =
    let h : 0 < m = omega arith in
    let at : (x : ℕ) → x < m → (x + q + (m - q % m)) % m ≡ x =
    λ x l. ap (λ (y : ℕ). y % m) (turn x q (m - q % m)) ∙ complement x q m h ∙ mod-eq_of_lt l in
    sym (at r f) ∙ sym (mod-add-mod (r + q) m (m - q % m)) ∙ ap (λ (x : ℕ). (x + (m - q % m)) % m) e
    ∙ mod-add-mod (s + q) m (m - q % m) ∙ at s g
  where
    turn : (x q c : ℕ) → x + q + c ≡ x + (c + q)
    turn x q c = omega arith

pub residue_unique : (w : ℕ) (z : ℤ) (p q r : ℕ) → Difference z p q → r < 2 ^ w → (r + q) % 2 ^ w ≡ p % 2 ^ w → r ≡ residue w z
residue_unique w z p q r d f e = cancel (2 ^ w) r (residue w z) q f (residue-lt w z) (e ∙ sym (residue_difference w z p q d))

module _ (w : ℕ) where
  pub residue-add : (x y : ℤ) → (residue w x + residue w y) % 2 ^ w ≡ residue w (x +ℤ y)
  residue-add x y =
      let a = parts x in
      let b = parts y in
      residue_unique w (x +ℤ y) (a.0 + b.0) (a.1 + b.1) ((residue w x + residue w y) % 2 ^ w)
      (difference_add x y a.0 a.1 b.0 b.1 a.2 b.2) (mod-lt (residue w x + residue w y) (pow_pos w))
      (mod-add-mod (residue w x + residue w y) (2 ^ w) (a.1 + b.1)
      ∙ ap (λ (n : ℕ). n % 2 ^ w) (pair (residue w x) (residue w y) a.1 b.1)
      ∙ add-mod (residue w x + a.1) (residue w y + b.1) (2 ^ w)
      ∙ (λ i. (residue_difference w x a.0 a.1 a.2 i + residue_difference w y b.0 b.1 b.2 i) % 2 ^ w)
      ∙ sym (add-mod a.0 b.0 (2 ^ w)))
    where
      pair : (r s p q : ℕ) → r + s + (p + q) ≡ r + p + (s + q)
      pair r s p q = omega arith

  pub residue-neg : (x : ℤ) → (2 ^ w - residue w x) % 2 ^ w ≡ residue w (neg_ℤ x)
  residue-neg x =
      let a = parts x in
      let r = residue w x in
      let l : r < 2 ^ w = residue-lt w x in
      let e : 2 ^ w - r + (r + a.1) ≡ a.1 + 2 ^ w = omega arith in
      residue_unique w (neg_ℤ x) a.1 a.0 ((2 ^ w - r) % 2 ^ w) (difference_neg x a.0 a.1 a.2) (mod-lt (2 ^ w - r) (pow_pos w))
      (mod-add-mod (2 ^ w - r) (2 ^ w) a.0 ∙ sym (add-mod-mod (2 ^ w - r) a.0 (2 ^ w))
      ∙ ap (λ (n : ℕ). (2 ^ w - r + n) % 2 ^ w) (sym (residue_difference w x a.0 a.1 a.2))
      ∙ add-mod-mod (2 ^ w - r) (r + a.1) (2 ^ w) ∙ ap (λ (n : ℕ). n % 2 ^ w) e ∙ add-mod_right a.1 (2 ^ w))

  pub residue-sub : (x y : ℤ) → (residue w x + (2 ^ w - residue w y)) % 2 ^ w ≡ residue w (x -ℤ y)
  residue-sub x y =
      sym (add-mod-mod (residue w x) (2 ^ w - residue w y) (2 ^ w)) ∙ ap (λ (n : ℕ). (residue w x + n) % 2 ^ w) (residue-neg y)
      ∙ residue-add x (neg_ℤ y)

-- ---- products

mul-mod_r : (u v m : ℕ) → u * (v % m) % m ≡ u * v % m
mul-mod_r u v m =
    let e : u * v ≡ u * (v % m) + u * (v / m) * m =
    ap (λ (n : ℕ). u * n) (sym (div-add-mod' v m) ∙ add_comm (v / m * m) (v % m)) ∙ mul-add u (v % m) (v / m * m)
    ∙ ap (λ (n : ℕ). u * (v % m) + n) (sym (mul_assoc u (v / m) m)) in
    sym (ap (λ (n : ℕ). n % m) e ∙ add-mul-mod_self_right (u * (v % m)) (u * (v / m)) m)

mul-mod_l : (u v m : ℕ) → u % m * v % m ≡ u * v % m
mul-mod_l u v m = ap (λ (n : ℕ). n % m) (mul_comm (u % m) v) ∙ mul-mod_r v u m ∙ ap (λ (n : ℕ). n % m) (mul_comm v u)

mul_complement : (u v m : ℕ) → v < m → u * (m - v) % m ≡ (m - u * v % m) % m
mul_complement u v m l =
    let h : 0 < m = omega arith in
    let s : m - v + v ≡ m = omega arith in
    let left : (u * (m - v) % m + u * v) % m ≡ 0 =
    mod-add-mod (u * (m - v)) m (u * v) ∙ ap (λ (n : ℕ). n % m) (sym (mul-add u (m - v) v) ∙ ap (λ (n : ℕ). u * n) s) ∙ mul-mod_left u m in
    let right : ((m - u * v % m) % m + u * v) % m ≡ 0 =
    mod-add-mod (m - u * v % m) m (u * v) ∙ ap (λ (n : ℕ). n % m) (sym (zero-add (m - u * v % m + u * v))) ∙ complement 0 (u * v) m h ∙ zero-mod m in
    cancel m (u * (m - v) % m) ((m - u * v % m) % m) (u * v) (mod-lt (u * (m - v)) h) (mod-lt (m - u * v % m) h) (left ∙ sym right)

module _ (w : ℕ) where
  mul-neg : (u : ℕ) (y z : ℤ) → u * residue w y % 2 ^ w ≡ residue w z → u * residue w (neg_ℤ y) % 2 ^ w ≡ residue w (neg_ℤ z)
  mul-neg u y z e =
      ap (λ (n : ℕ). u * n % 2 ^ w) (sym (residue-neg w y)) ∙ mul-mod_r u (2 ^ w - residue w y) (2 ^ w)
      ∙ mul_complement u (residue w y) (2 ^ w) (residue-lt w y) ∙ ap (λ (n : ℕ). (2 ^ w - n) % 2 ^ w) e ∙ residue-neg w z

  mul-neg_left : (v : ℕ) (x z : ℤ) → residue w x * v % 2 ^ w ≡ residue w z → residue w (neg_ℤ x) * v % 2 ^ w ≡ residue w (neg_ℤ z)
  mul-neg_left v x z e =
      ap (λ (n : ℕ). n % 2 ^ w) (mul_comm (residue w (neg_ℤ x)) v)
      ∙ mul-neg v x z (ap (λ (n : ℕ). n % 2 ^ w) (mul_comm v (residue w x)) ∙ e)

  mul-pos : (a b : ℕ) → residue w (pos a) * residue w (pos b) % 2 ^ w ≡ residue w (pos (a * b))
  unfolding residue
  mul-pos a b = mul-mod_l a (b % 2 ^ w) (2 ^ w) ∙ mul-mod_r a b (2 ^ w)

  pub residue-mul : (x y : ℤ) → residue w x * residue w y % 2 ^ w ≡ residue w (x *ℤ y)
  residue-mul (pos a) (pos b) = mul-pos a b
  residue-mul (pos a) (negsuc b) = mul-neg (residue w (pos a)) (pos (suc b)) (pos (a * suc b)) (mul-pos a (suc b))
  residue-mul (negsuc a) (pos b) = mul-neg_left (residue w (pos b)) (pos (suc a)) (pos (suc a * b)) (mul-pos (suc a) b)
  residue-mul (negsuc a) (negsuc b) =
      mul-neg_left (residue w (negsuc b)) (pos (suc a)) (neg_ℤ (pos (suc a * suc b)))
      (mul-neg (residue w (pos (suc a))) (pos (suc b)) (pos (suc a * suc b)) (mul-pos (suc a) (suc b)))
      ∙ ap (residue w) (neg_ℤ-neg_ℤ (pos (suc a * suc b)))

-- ---- two's complement

-- half of the numbers of w bits, twice
pub half_twice : (w : ℕ) → 0 < w → 2 ^ w ≡ 2 ^ (w - 1) + 2 ^ (w - 1)
half_twice w h =
    let e : w ≡ suc (w - 1) = omega arith in
    ap (λ (n : ℕ). 2 ^ n) e ∙ two-pow-succ (w - 1)

pub signed_low : (w n : ℕ) → n < 2 ^ (w - 1) → signed w n ≡ pos n
unfolding signed
signed_low w n h = rw (lt-ltb n (2 ^ (w - 1)) h)

minus : (a b : ℕ) → a < b → pos a -ℤ pos b ≡ negsuc (b - suc a)
minus a zero h = absurd (omega arith)
minus a (suc b) h = rw (lt-ltb a (suc b) h)

pub signed_high : (w n : ℕ) → 2 ^ (w - 1) ≤ n → n < 2 ^ w → signed w n ≡ negsuc (2 ^ w - suc n)
unfolding signed
signed_high w n h l = rw (le-ltb n (2 ^ (w - 1)) h) (minus n (2 ^ w) l)

-- the residue of an integer that w bits hold
pub residue-pos : (w n : ℕ) → n < 2 ^ w → residue w (pos n) ≡ n
unfolding residue
residue-pos w n h = mod-eq_of_lt h

pub residue-negsuc : (w n : ℕ) → n < 2 ^ w → residue w (negsuc n) ≡ 2 ^ w - suc n
unfolding residue
residue-negsuc w n h = ap (λ (x : ℕ). 2 ^ w - 1 - x) (mod-eq_of_lt h) ∙ omega arith

order : (n m : ℕ) (t : Bool) → ltb n m ≡ t → (n < m) ⊎ (m ≤ n)
order n m true e = inl (ltb-true n m e)
order n m false e = inr (ltb-false n m e)

pub lt-or-ge : (n m : ℕ) → (n < m) ⊎ (m ≤ n)
lt-or-ge n m = order n m (ltb n m) refl

-- a pattern read as an integer and back
pub residue-signed : (w n : ℕ) → n < 2 ^ w → residue w (signed w n) ≡ n
residue-signed w n l =
    ⊎_elim (λ (h : n < 2 ^ (w - 1)). ap (residue w) (signed_low w n h) ∙ residue-pos w n l)
    (λ (h : 2 ^ (w - 1) ≤ n). ap (residue w) (signed_high w n h l) ∙ residue-negsuc w (2 ^ w - suc n) (omega arith) ∙ omega arith)
    (lt-or-ge n (2 ^ (w - 1)))

-- an integer of w bits read as a pattern and back
pub signed-residue : (w : ℕ) (z : ℤ) → 0 < w → mag z < 2 ^ (w - 1) → signed w (residue w z) ≡ z
signed-residue w (pos n) h l =
    let t : 2 ^ w ≡ 2 ^ (w - 1) + 2 ^ (w - 1) = half_twice w h in
    ap (signed w) (residue-pos w n (omega arith)) ∙ signed_low w n l
signed-residue w (negsuc n) h l =
    let t : 2 ^ w ≡ 2 ^ (w - 1) + 2 ^ (w - 1) = half_twice w h in
    ap (signed w) (residue-negsuc w n (omega arith)) ∙ signed_high w (2 ^ w - suc n) (omega arith) (omega arith) ∙ ap negsuc (omega arith)

-- a pattern of w bits stands for an integer of w bits
pub signed_mag : (w n : ℕ) → 0 < w → n < 2 ^ w → mag (signed w n) < 2 ^ (w - 1)
signed_mag w n h l =
    let t : 2 ^ w ≡ 2 ^ (w - 1) + 2 ^ (w - 1) = half_twice w h in
    ⊎_elim (λ (g : n < 2 ^ (w - 1)). subst (λ (z : ℤ). mag z < 2 ^ (w - 1)) (sym (signed_low w n g)) g)
    (λ (g : 2 ^ (w - 1) ≤ n).
    let b : 2 ^ w - suc n < 2 ^ (w - 1) = omega arith in
    subst (λ (z : ℤ). mag z < 2 ^ (w - 1)) (sym (signed_high w n g l)) b)
    (lt-or-ge n (2 ^ (w - 1)))

-- The order of integers as linear facts of naturals, the lesser and the greater of two, and what lies between products or quotients.
-- Assumes nothing.
use mathlib.Core.Path.{◌≡◌, refl, sym, ap, ◌∙◌, subst}
use mathlib.Core.Bool.{Bool, true, false, not, cond}
use Prim.Native.Nat.{ℕ, suc, ◌+◌, ◌*◌, ◌/◌, ◌≤◌, ◌<◌}
use native.Mathlib.Nat.{add-zero, zero-add, le_refl, mul-le-mul, mul-le-mul_left}
use native.Mathlib.Omega.{arith}
use borrow.Author.Tests.{lt-ltb, le-ltb, ltb-true, ltb-false}
use lib.Arith.{le→nltb}
use lib.Dec.{T, ltb, nltb→le, leb-suc-suc}
use lib.Ieee.Nearest.{div_mono}
use lib.IntN.{ℤ, pos, negsuc, nat_abs, neg_ℤ, neg_ℤ-neg_ℤ, ◌+ℤ◌, ◌*ℤ◌, *ℤ_comm}
use lib.Signed.{mag, lt_z, le_z, quot_z, ◌≤ℤ◌}
use Rattle.word.specs.Value.{is_neg, min_z, max_z}
use Rattle.word.specs.Step.{with_sign, differ}
use Rattle.word.proofs.Integer.{Difference, difference_add, difference_neg}
use Rattle.word.proofs.Magnitudes.{product_sign, quotient_sign}
use Rattle.word.proofs.Orders.{le-not_less}

-- ---- z is up z - down z

abbrev pub up : ℤ → ℕ
up (pos n) = n
up (negsuc n) = 0

abbrev pub down : ℤ → ℕ
down (pos n) = 0
down (negsuc n) = suc n

own : (z : ℤ) → Difference z (up z) (down z)
own (pos n) = omega arith
own (negsuc n) = omega arith

balance : (z : ℤ) (p q : ℕ) → Difference z p q → up z + q ≡ p + down z
balance (pos n) p q d = omega arith
balance (negsuc n) p q d = omega arith

pub sum_parts : (x y : ℤ) → up (x +ℤ y) + (down x + down y) ≡ up x + up y + down (x +ℤ y)
sum_parts x y = balance (x +ℤ y) _ _ (difference_add x y _ _ _ _ (own x) (own y))

pub neg_parts : (x : ℤ) → up (neg_ℤ x) + up x ≡ down x + down (neg_ℤ x)
neg_parts x = balance (neg_ℤ x) _ _ (difference_neg x _ _ (own x))

pub abs_parts : (z : ℤ) → nat_abs z ≡ up z + down z
abs_parts (pos n) = omega arith
abs_parts (negsuc n) = omega arith

less_parts : (x y : ℤ) → lt_z x y ≡ ltb (up x + down y) (up y + down x)
less_parts (pos a) (pos b) = simp add-zero
less_parts (pos a) (negsuc b) = sym (le-ltb (a + suc b) (0 + 0) (omega arith))
less_parts (negsuc a) (pos b) = sym (lt-ltb (0 + 0) (b + suc a) (omega arith))
less_parts (negsuc a) (negsuc b) = simp (zero-add, leb-suc-suc)

pub less_true : (x y : ℤ) → lt_z x y ≡ true → up x + down y < up y + down x
less_true x y e = ltb-true _ _ (sym (less_parts x y) ∙ e)

less_false : (x y : ℤ) → lt_z x y ≡ false → up y + down x ≤ up x + down y
less_false x y e = ltb-false _ _ (sym (less_parts x y) ∙ e)

le_test : (x y : ℤ) → le_z x y ≡ not (ltb (up y + down x) (up x + down y))
le_test x y = le-not_less x y (less_parts y x)

pub le_parts : {x y : ℤ} → x ≤ℤ y → up x + down y ≤ up y + down x
le_parts {x} {y} h = nltb→le _ _ (subst T (le_test x y) h.le)

pub parts_le : (x y : ℤ) → up x + down y ≤ up y + down x → x ≤ℤ y
parts_le x y h = record { le = subst T (sym (le_test x y)) (le→nltb _ _ h) }

-- with these `omega` reads and proves orders of integers
pub ruleset orders = (arith, le_parts, parts_le)

pub pos-le : {m n : ℕ} → m ≤ n → pos m ≤ℤ pos n
pos-le h = omega orders

pub add-le : {x y u v : ℤ} → x ≤ℤ u → y ≤ℤ v → (x +ℤ y) ≤ℤ (u +ℤ v)
add-le {x} {y} {u} {v} h k = omega (orders, sum_parts x y, sum_parts u v)

pub neg-le : {x y : ℤ} → x ≤ℤ y → neg_ℤ y ≤ℤ neg_ℤ x
neg-le {x} {y} h = omega (orders, neg_parts x, neg_parts y)

-- ---- the lesser and the greater of two

sorted : (a b : ℤ) (t : Bool) → lt_z b a ≡ t → (cond t b a ≤ℤ a) × (cond t b a ≤ℤ b) × (a ≤ℤ cond t a b) × (b ≤ℤ cond t a b)
sorted a b true e = omega (orders, less_true b a e)
sorted a b false e = omega (orders, less_false b a e)

pub extremes : (a b : ℤ) → (min_z a b ≤ℤ a) × (min_z a b ≤ℤ b) × (a ≤ℤ max_z a b) × (b ≤ℤ max_z a b)
extremes a b = sorted a b (lt_z b a) refl

chosen : (P : ℤ → Type 0) (t : Bool) {a b : ℤ} → P a → P b → P (cond t a b)
chosen P true h k = h
chosen P false h k = k

pub le-min : (a b c : ℤ) → c ≤ℤ a → c ≤ℤ b → c ≤ℤ min_z a b
le-min a b c h k = chosen (λ (z : ℤ). c ≤ℤ z) (lt_z b a) k h

pub max-le : (a b c : ℤ) → a ≤ℤ c → b ≤ℤ c → max_z a b ≤ℤ c
max-le a b c h k = chosen (λ (z : ℤ). z ≤ℤ c) (lt_z b a) h k

-- no integer between two is larger in size than both
pub between_small : (h : ℕ) (x y z : ℤ) → x ≤ℤ z → z ≤ℤ y → mag x < h → mag y < h → mag z < h
between_small h x (pos m) (pos n) p q f g = omega orders
between_small h x (negsuc m) (pos n) p q f g = absurd (omega orders)
between_small h (pos m) y (negsuc n) p q f g = absurd (omega orders)
between_small h (negsuc m) y (negsuc n) p q f g = omega orders

-- ---- products and quotients

-- z lies between u and v, whichever is the lesser
pub data Between (u v z : ℤ) : Type 0 where
  rising : u ≤ℤ z → z ≤ℤ v → Between u v z
  falling : v ≤ℤ z → z ≤ℤ u → Between u v z

-- -z, or z
abbrev turn : Bool → ℤ → ℤ
turn s z = cond s (neg_ℤ z) z

turn_between : (s : Bool) {u v z : ℤ} → Between u v z → Between (turn s u) (turn s v) (turn s z)
turn_between true (rising h k) = falling (neg-le k) (neg-le h)
turn_between true (falling h k) = rising (neg-le k) (neg-le h)
turn_between false b = b

turn_sign : (s t : Bool) (n : ℕ) → turn s (with_sign t n) ≡ with_sign (differ s t) n
turn_sign true true n = neg_ℤ-neg_ℤ (pos n)
turn_sign true false n = refl
turn_sign false t n = refl

-- f z is h of z's size, with z's sign, or with the other one
module _ (h : ℕ → ℕ) (s : Bool) (f : ℤ → ℤ) (is : (z : ℤ) → with_sign (differ s (is_neg z)) (h (nat_abs z)) ≡ f z) where
  abbrev odd : ℤ → ℤ
  odd z = with_sign (is_neg z) (h (nat_abs z))

  odd_between : {u v z : ℤ} → Between (odd u) (odd v) (odd z) → Between (f u) (f v) (f z)
  odd_between {u} {v} {z} b =
      subst (λ (g : ℤ → ℤ). Between (g u) (g v) (g z)) (λ i x. (turn_sign s (is_neg x) (h (nat_abs x)) ∙ is x) i) (turn_between s b)

  module _ (grows : (m n : ℕ) → m ≤ n → h m ≤ h n) where
    odd_le : (x y : ℤ) → x ≤ℤ y → odd x ≤ℤ odd y
    odd_le (pos a) (pos b) l = pos-le (grows a b (omega orders))
    odd_le (pos a) (negsuc b) l = absurd (omega orders)
    odd_le (negsuc a) (pos b) l = omega (orders, neg_parts (pos (h (suc a))))
    odd_le (negsuc a) (negsuc b) l = neg-le (pos-le (grows (suc b) (suc a) (omega orders)))

    growing : {u v z : ℤ} → u ≤ℤ z → z ≤ℤ v → Between (f u) (f v) (f z)
    growing {u} {v} {z} k l = odd_between (rising (odd_le u z k) (odd_le z v l))

  -- from x to y of one sign: x is above 0, or y below it
  module _ (shrinks : (m n : ℕ) → 0 < m → m ≤ n → h n ≤ h m) where
    odd_ge : (x y : ℤ) → 0 < up x + down y → x ≤ℤ y → odd y ≤ℤ odd x
    odd_ge (pos a) (pos b) p l = pos-le (shrinks a b (omega arith) (omega orders))
    odd_ge (pos a) (negsuc b) p l = absurd (omega orders)
    odd_ge (negsuc a) (pos b) p l = absurd (omega arith)
    odd_ge (negsuc a) (negsuc b) p l = neg-le (pos-le (shrinks (suc b) (suc a) (omega arith) (omega orders)))

    shrinking : {u v z : ℤ} → 0 < up u + down z → 0 < up z + down v → u ≤ℤ z → z ≤ℤ v → Between (f u) (f v) (f z)
    shrinking {u} {v} {z} p q k l = odd_between (falling (odd_ge z v q l) (odd_ge u z p k))

pub right_factor : (x : ℤ) {u v z : ℤ} → u ≤ℤ z → z ≤ℤ v → Between (x *ℤ u) (x *ℤ v) (x *ℤ z)
right_factor x = growing (λ n. nat_abs x * n) (is_neg x) (λ z. x *ℤ z) (product_sign x) (λ m n. mul-le-mul_left (nat_abs x))

pub left_factor : (y : ℤ) {u v z : ℤ} → u ≤ℤ z → z ≤ℤ v → Between (u *ℤ y) (v *ℤ y) (z *ℤ y)
left_factor y {u} {v} {z} h k =
    subst (λ (f : ℤ → ℤ). Between (f u) (f v) (f z)) (λ i x. *ℤ_comm y x i) (right_factor y h k)

pub div-le : {m n k j : ℕ} → m ≤ n → 0 < j → j ≤ k → m / k ≤ n / j
div-le {m} {n} {k} {j} h p l = div_mono m k n j (omega arith) p (mul-le-mul h l)

pub divisor : (x : ℤ) {u v z : ℤ} → 0 < up u + down z → 0 < up z + down v → u ≤ℤ z → z ≤ℤ v → Between (quot_z x u) (quot_z x v) (quot_z x z)
divisor x = shrinking (λ n. nat_abs x / n) (is_neg x) (quot_z x) (quotient_sign x) (λ m n p h. div-le (le_refl (nat_abs x)) p h)

differ_comm : (s t : Bool) → differ s t ≡ differ t s
differ_comm true true = refl
differ_comm true false = refl
differ_comm false true = refl
differ_comm false false = refl

pub dividend : (y : ℤ) {u v z : ℤ} → 0 < nat_abs y → u ≤ℤ z → z ≤ℤ v → Between (quot_z u y) (quot_z v y) (quot_z z y)
dividend y p =
    growing (λ n. n / nat_abs y) (is_neg y) (λ z. quot_z z y)
    (λ z. ap (λ (s : Bool). with_sign s (nat_abs z / nat_abs y)) (differ_comm (is_neg y) (is_neg z)) ∙ quotient_sign z y)
    (λ m n h. div-le h p (le_refl (nat_abs y)))

-- Products of numbers in two digits, and where a product passes two halves. Assumes nothing.
use Rattle.std.proofs.Common.{◌≡◌, ℕ, ◌+◌, ◌*◌, ◌%◌, ◌^◌, ◌<◌, ◌≤◌, false, ltb, refl, le_trans, le_refl, le-add_right, add_assoc, mul_assoc, mul_comm, add-mul, mul-le-mul, add_comm, pos_of_ne-zero, zero-mul, mul-add, mul_left_comm, arith, pow-add, ltb-false}
use native.Mathlib.Nat.{add_left_comm, mul-add-mod_self_right}
use Rattle.std.specs.Prelude.{Some}
use Rattle.word.specs.Option.{only}
use Rattle.word.specs.Value.{val}
use Rattle.word.specs.declared.Word.{Word}
use Rattle.word.proofs.Halves.{cut-mod}

-- a product by its columns
columns : (P a b c d : ℕ) → (a * P + b) * (c * P + d) ≡ a * c * (P * P) + (a * d + b * c) * P + b * d
columns P a b c d = simp (mul-add, add-mul, mul_assoc, mul_comm, mul_left_comm, add_assoc, add_comm, add_left_comm)

-- ---- the product of two words

-- its low halves, out of the products of halves p, x and y
pub low_product : (k ah al bh bl ph pl xh xl yh yl : ℕ) → pl < 2 ^ k → ph * 2 ^ k + pl ≡ al * bl → xh * 2 ^ k + xl ≡ al * bh → yh * 2 ^ k + yl ≡ ah * bl
    → (ah * 2 ^ k + al) * (bh * 2 ^ k + bl) % 2 ^ (k + k) ≡ (ph + (xl + yl)) % 2 ^ k * 2 ^ k + pl
low_product k ah al bh bl ph pl xh xl yh yl f p x y =
    let e : (ah * 2 ^ k + al) * (bh * 2 ^ k + bl) ≡ ((ah * bh + xh + yh) * 2 ^ k + (ph + (xl + yl))) * 2 ^ k + pl =
    rw (columns (2 ^ k) ah al bh bl, ← p, ← x, ← y) (simp (add-mul, mul_assoc, add_assoc, add_comm, add_left_comm)) in
    rw (e, cut-mod k ((ah * bh + xh + yh) * 2 ^ k + (ph + (xl + yl))) pl f, mul-add-mod_self_right (ah * bh + xh + yh) (2 ^ k) (ph + (xl + yl)))

-- two factors past a half each pass two halves together
pub past_both : (k : ℕ) {a b : ℕ} → 2 ^ k ≤ a → 2 ^ k ≤ b → 2 ^ (k + k) ≤ a * b
past_both k f g = rw (pow-add 2 k k) (mul-le-mul f g)

-- n raised by a half, and two halves added
pub raise : (P n h l : ℕ) → n * P + (h * P + l) ≡ (h + n) * P + l
raise P n h l = omega (arith, add-mul h n P)

pub past_raise : (k n h l : ℕ) → 2 ^ k ≤ h + n → 2 ^ (k + k) ≤ n * 2 ^ k + (h * 2 ^ k + l)
past_raise k n h l f = rw (raise (2 ^ k) n h l) (le_trans (past_both k f (le_refl (2 ^ k))) (le-add_right ((h + n) * 2 ^ k) l))

-- ---- words by their high halves

pub low_only : (w : Word) → w.hi ≡ 0 → val w ≡ w.lo
unfolding val
low_only w e = omega arith

pub val_low : (n : ℕ) → val (record { lo = n; hi = 0 }) ≡ n
val_low n = low_only (record { lo = n; hi = 0 }) refl

pub high_set : (w : Word) → (w.hi ≡ 0 → ⊥) → 2 ^ 64 ≤ val w
unfolding val
high_set w f = omega (arith, pos_of_ne-zero f)

-- where one factor has a low half only, two products of halves are enough
pub one_low : (a b high low : Word) → a.hi ≡ 0 → val high ≡ a.lo * b.hi → val low ≡ a.lo * b.lo → val high * 2 ^ 64 + val low ≡ val a * val b
unfolding val
one_low a b high low z e f = rw (e, f, low_only a z) (omega (arith, mul-add a.lo (b.hi * 2 ^ 64) b.lo, mul_assoc a.lo b.hi (2 ^ 64)))

-- a product by 0
pub by_none : (m n : ℕ) → ltb 0 m ≡ false → Some m ≡ only (ltb (m * n) (2 ^ 128)) (m * n)
by_none m n h =
    let l : m ≤ 0 = ltb-false 0 m h in
    let e : m ≡ 0 = omega arith in
    rw (e, zero-mul n)

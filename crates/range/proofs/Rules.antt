-- Signs, amounts of shifts, sizes of divisors, products of ranges from 0 up and quotients of rising ones. Assumes nothing.
use mathlib.Core.Path.{◌≡◌, refl, sym, ap, ◌∙◌}
use mathlib.Core.Bool.{Bool, true, false, not, cond, ◌&&◌, false≢true}
use mathlib.Core.Logic.{⊎_elim}
use Rattle.std.specs.Prelude.{Option, None, Some}
use Prim.Native.Nat.{ℕ, min, suc, ◌+◌, ◌-◌, ◌*◌, ◌/◌, ◌%◌, ◌^◌, ◌<◌, ◌≤◌}
use native.Mathlib.Nat.{min-eq_right, one-mul, zero-mul, mul-zero, mod-eq_of_lt, le_refl, le_trans, le_antisymm, lt_of_le_of_lt}
use native.Mathlib.Omega.{arith}
use borrow.Author.Tests.{eqb-true, le-leb, leb-true, lt-ltb, le-ltb, ltb-false}
use lib.Dec.{eqb, ltb, leb, lit≤}
use lib.IntN.{ℤ, pos, negsuc, ◌-ℤ◌, ◌*ℤ◌}
use lib.Pow.{pow-lt}
use lib.Signed.{le_z, mag}
use Rattle.word.specs.declared.Word.{Word}
use Rattle.word.specs.Option.{only}
use Rattle.word.specs.Value.{val, residue, signed, wrapped, fits, fitted, quotient, is_neg, eq_z, min_z, max_z}
use Rattle.word.proofs.Integer.{signed_low, residue-pos, residue-negsuc, lt-or-ge}
use Rattle.word.proofs.Magnitudes.{answered}
use Rattle.word.proofs.Sums.{under_twice, checked_sub}
use Rattle.range.specs.Interval.{between, corners_of, clamped}
use Rattle.range.proofs.Order.{div-le}

pub not_negative_lem : (z : ℤ) → not (is_neg z) ≡ le_z (pos 0) z
not_negative_lem (pos n) = sym (le-leb 0 n (omega arith))
not_negative_lem (negsuc n) = refl

-- ---- shifts

-- the amount that a bound stands for, by its pattern: that of a negative bound is past 128
pub amount : (z : ℤ) → mag z < 2 ^ 127 → min (residue 128 z) 128 ≡ clamped z
unfolding clamped
amount (pos n) h = ap (λ (r : ℕ). min r 128) (residue-pos 128 n (under_twice (2 ^ 127) h))
amount (negsuc n) h = ap (λ (r : ℕ). min r 128) (residue-negsuc 128 n (under_twice (2 ^ 127) h)) ∙ min-eq_right (far (2 ^ 127) n (lit≤ tt) h)
  where
    far : (H n : ℕ) → 128 ≤ H → n < H → 128 ≤ H + H - suc n
    far H n f g = omega arith

-- an amount below 128 lies in the low half
pub low_amount : (w : Word) → val w < 128 → w.lo % 256 ≡ min (val w) 128
unfolding val
low_amount w h = omega arith

-- 2 ^ k, as the code makes it
pub power-signed : (k : ℕ) → k < 127 → signed 128 (1 * 2 ^ k % 2 ^ 128) ≡ pos (2 ^ k)
power-signed k h =
    let l : 2 ^ k < 2 ^ 127 = pow-lt h in
    rw (one-mul, mod-eq_of_lt (under_twice (2 ^ 127) l)) (signed_low 128 (2 ^ k) l)

-- ---- sizes

-- a difference of two integers that are not below 0 fits
pub difference_fits : (x y : ℤ) → is_neg x ≡ false → is_neg y ≡ false → mag x < 2 ^ 127 → mag y < 2 ^ 127 → wrapped (x -ℤ y) ≡ x -ℤ y
difference_fits (pos a) (pos b) s t f g = answered (fits (pos a -ℤ pos b)) (wrapped (pos a -ℤ pos b)) (pos a -ℤ pos b) (checked_sub (pos a) (pos b) f g)
difference_fits (pos a) (negsuc b) s t f g = cc
difference_fits (negsuc a) y s t f g = cc

-- the greater of two answered sizes is not below 0
pub larger_size : {x y : ℤ} (m n : ℕ) → Some x ≡ fitted (pos m) → Some y ≡ fitted (pos n) → is_neg (max_z x y) ≡ false
larger_size {x} {y} m n e f = rw (answered (fits (pos m)) x (pos m) e, answered (fits (pos n)) y (pos n) f) (of (ltb n m))
  where
    of : (t : Bool) → is_neg (cond t (pos m) (pos n)) ≡ false
    of true = refl
    of false = refl

-- ---- products of ranges from 0 up

last_corner : (t : Bool) (k : ℕ) → corners_of (Some (pos 0)) (Some (pos 0)) (Some (pos 0)) (only t (pos k)) ≡ between (Some (pos 0)) (only t (pos k))
last_corner true k = simp (le-ltb k 0 (omega arith))
last_corner false k = refl

second : (s : Bool) → s && false ≡ false
second true = refl
second false = refl

first_test : (s t : Bool) → s && t ≡ true → s ≡ true
first_test true t e = refl
first_test false t e = e

second_test : (s t : Bool) → s && t ≡ true → t ≡ true
second_test true t e = e
second_test false t e = absurd (false≢true e)

-- three of the four corners are 0, and the fourth is the greatest
pub from_zero : (a b c d : ℤ) → eq_z a (pos 0) && not (is_neg b) ≡ true → eq_z c (pos 0) && not (is_neg d) ≡ true
    → corners_of (fitted (a *ℤ c)) (fitted (a *ℤ d)) (fitted (b *ℤ c)) (fitted (b *ℤ d)) ≡ between (Some (pos 0)) (fitted (b *ℤ d))
unfolding fits
from_zero (pos i) (pos m) (pos j) (pos n) e f =
    rw (eqb-true i 0 (first_test (eqb i 0) true e), eqb-true j 0 (first_test (eqb j 0) true f), zero-mul, zero-mul, mul-zero)
    (last_corner (fits (pos (m * n))) (m * n))
from_zero (pos i) (pos m) (pos j) (negsuc n) e f = absurd (false≢true (sym (second (eqb j 0)) ∙ f))
from_zero (pos i) (pos m) (negsuc j) d e f = absurd (false≢true f)
from_zero (pos i) (negsuc m) c d e f = absurd (false≢true (sym (second (eqb i 0)) ∙ e))
from_zero (negsuc i) b c d e f = absurd (false≢true e)

-- ---- quotients of ranges that rise from 0 or more

no_high : (o : Option ℤ) → between o None ≡ None
no_high None = refl
no_high (Some l) = refl

no_third : (o p q : Option ℤ) → corners_of o p None q ≡ None
no_third None p q = refl
no_third (Some x) None q = refl
no_third (Some x) (Some y) q = refl

module _ {x y : ℕ} (le : x ≤ y) where
  least_first : min_z (pos x) (pos y) ≡ pos x
  least_first = rw (le-ltb y x le)

  greatest_second : max_z (pos x) (pos y) ≡ pos y
  greatest_second = rw (le-ltb y x le)

  least_second : min_z (pos y) (pos x) ≡ pos x
  least_second = same (ltb x y) (ltb-false x y)
    where
      same : (t : Bool) → (t ≡ false → y ≤ x) → cond t (pos x) (pos y) ≡ pos x
      same true f = refl
      same false f = ap pos (le_antisymm (f refl) le)

  greatest_first : max_z (pos y) (pos x) ≡ pos y
  greatest_first = same (ltb x y) (ltb-false x y)
    where
      same : (t : Bool) → (t ≡ false → y ≤ x) → cond t (pos y) (pos x) ≡ pos y
      same true f = refl
      same false f = ap pos (le_antisymm le (f refl))

-- the corners a / c, a / d, b / c and b / d: the second is the least and the third the greatest
outer_corners : (p q r s : ℕ) → q ≤ p → q ≤ s → p ≤ r → s ≤ r
    → corners_of (Some (pos p)) (Some (pos q)) (Some (pos r)) (Some (pos s)) ≡ between (Some (pos q)) (Some (pos r))
outer_corners p q r s f g h k =
    rw (least_second f, least_second k, least_first g, greatest_first f, greatest_first k, greatest_second h)

module _ (i m j n : ℕ) (above : i ≤ m) (beyond : j ≤ n) where
  abbrev Outer : Type 0
  Outer =
      corners_of (quotient (pos i) (pos j)) (quotient (pos i) (pos n)) (quotient (pos m) (pos j)) (quotient (pos m) (pos n))
      ≡ between (quotient (pos i) (pos n)) (quotient (pos m) (pos j))

  -- b / c is the greatest, so all fit if it does
  by_positive : 0 < j → Outer
  unfolding quotient fits
  by_positive p =
      let q : 0 < n = omega arith in
      let f : i / n ≤ i / j = div-le (le_refl i) p beyond in
      let g : i / n ≤ m / n = div-le above q (le_refl n) in
      let h : i / j ≤ m / j = div-le above p (le_refl j) in
      let k : m / n ≤ m / j = div-le (le_refl m) p beyond in
      rw (lt-ltb 0 j p, lt-ltb 0 n q)
      (⊎_elim
      (λ (l : m / j < 2 ^ 127).
      rw (lt-ltb (m / j) (2 ^ 127) l, lt-ltb (m / n) (2 ^ 127) (lt_of_le_of_lt k l), lt-ltb (i / j) (2 ^ 127) (lt_of_le_of_lt h l), lt-ltb (i / n) (2 ^ 127) (lt_of_le_of_lt (le_trans f h) l))
      (outer_corners (i / j) (i / n) (m / j) (m / n) f g h k))
      (λ (l : 2 ^ 127 ≤ m / j). rw (le-ltb (m / j) (2 ^ 127) l) (no_third (only (ltb (i / j) (2 ^ 127)) (pos (i / j))) (only (ltb (i / n) (2 ^ 127)) (pos (i / n))) (only (ltb (m / n) (2 ^ 127)) (pos (m / n))) ∙ sym (no_high (only (ltb (i / n) (2 ^ 127)) (pos (i / n))))))
      (lt-or-ge (m / j) (2 ^ 127)))

  by_none : j ≤ 0 → Outer
  unfolding quotient
  by_none z = rw (le-ltb 0 j z) (sym (no_high (quotient (pos i) (pos n))))

  outer : Outer
  outer = ⊎_elim by_positive by_none (lt-or-ge 0 j)

-- the least quotient of the least dividend, and the greatest of the greatest
pub rising_quotients : (a b c d : ℤ) → le_z (pos 0) a && le_z a b ≡ true → le_z (pos 0) c && le_z c d ≡ true
    → corners_of (quotient a c) (quotient a d) (quotient b c) (quotient b d) ≡ between (quotient a d) (quotient b c)
rising_quotients (pos i) (pos m) (pos j) (pos n) e f = outer i m j n (leb-true i m (second_test (leb 0 i) _ e)) (leb-true j n (second_test (leb 0 j) _ f))
rising_quotients (pos i) (pos m) (pos j) (negsuc n) e f = absurd (false≢true (sym (second (leb 0 j)) ∙ f))
rising_quotients (pos i) (pos m) (negsuc j) d e f = absurd (false≢true f)
rising_quotients (pos i) (negsuc m) c d e f = absurd (false≢true (sym (second (leb 0 i)) ∙ e))
rising_quotients (negsuc i) b c d e f = absurd (false≢true e)

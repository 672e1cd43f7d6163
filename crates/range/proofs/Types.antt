-- Masks, read unsigned and signed. Assumes nothing.
use mathlib.Core.Path.{◌≡◌, ap, sym, ◌∙◌}
use Prim.Native.Nat.{ℕ, min, ◌+◌, ◌-◌, ◌*◌, ◌/◌, ◌%◌, ◌^◌, ◌<◌, ◌≤◌}
use native.Mathlib.Nat.{min-eq_left, le_of_lt, le_refl, lt_of_lt_of_le, mod-eq_of_lt, one-mul}
use native.Mathlib.Omega.{arith}
use lib.IntN.{pos, negsuc, neg_ℤ, ◌-ℤ◌}
use lib.Bits.{bit_and, and_high}
use lib.Pow.{pow_mono, suc_ones, ones_lt, ones_split, shl_exact}
use Rattle.word.specs.Value.{signed}
use Rattle.word.proofs.Integer.{signed_low, lt-or-ge}
use Rattle.word.specs.Option.{only}
use Rattle.range.specs.Interval.{Interval, filtered, inside_bits}
use Rattle.std.proofs.Common.{⊎_elim, ◌&&◌, ltb, lt-ltb, le-ltb}
use borrow.Author.Tests.{lt-leb}
use Rattle.word.proofs.SignedHalves.{minus_one}

-- 1 raised to a place in a half
pub one_raised : (w : ℕ) → (1 * 2 ^ (w % 64)) % 2 ^ 64 ≡ 2 ^ (w % 64)
one_raised w =
    let l : 1 + w % 64 ≤ 64 = omega arith in
    shl_exact 1 (w % 64) 64 (le_refl 2) l ∙ one-mul (2 ^ (w % 64))

-- bit 6 tells on which side of 64 a number below 128 lies
bit_six : (w : ℕ) → bit_and w 64 ≡ w / 64 % 2 * 64
bit_six w = and_high w 1 6

-- the low half's ones
pub low_ones : (w : ℕ) → w < 128 → bit_and w 64 ≡ 0 → (1 * 2 ^ (w % 64)) % 2 ^ 64 - 1 ≡ 2 ^ min w 128 - 1
low_ones w h b =
    let q : w / 64 < 2 = omega arith in
    let z : w / 64 % 2 * 64 ≡ 0 = sym (bit_six w) ∙ b in
    let e : w % 64 ≡ w = omega (arith, mod-eq_of_lt q) in
    rw (one_raised w, min-eq_left (le_of_lt h)) (ap (λ (n : ℕ). 2 ^ n - 1) e)

-- the high half's ones, above a low half of ones
pub high_ones : (w : ℕ) → w < 128 → (bit_and w 64 ≡ 0 → ⊥) → ((1 * 2 ^ (w % 64)) % 2 ^ 64 - 1) * 2 ^ 64 + (2 ^ 64 - 1) ≡ 2 ^ min w 128 - 1
high_ones w h b =
    let z : w / 64 % 2 * 64 ≡ 0 → ⊥ = λ (s : w / 64 % 2 * 64 ≡ 0). b (bit_six w ∙ s) in
    let e : w % 64 + 64 ≡ w = omega arith in
    rw (one_raised w, min-eq_left (le_of_lt h)) (sym (ones_split (w % 64) 64) ∙ ap (λ (n : ℕ). 2 ^ n - 1) e)

-- a mask of fewer than 128 bits, read signed
pub mask_signed : (w : ℕ) → w < 128 → {n : ℕ} → n ≡ 2 ^ min w 128 - 1 → signed 128 n ≡ pos (2 ^ w - 1)
mask_signed w h e =
    let l : w ≤ 127 = omega arith in
    rw (e, min-eq_left (le_of_lt h)) (signed_low 128 (2 ^ w - 1) (lt_of_lt_of_le (ones_lt w) (pow_mono l)))

-- its complement
pub mask_complement : (w : ℕ) → negsuc 0 -ℤ pos (2 ^ w - 1) ≡ neg_ℤ (pos (2 ^ w))
mask_complement w = minus_one (2 ^ w - 1) ∙ ap (λ (n : ℕ). neg_ℤ (pos n)) (suc_ones w)

-- below width 128 the values of Bits(w) are those from 0 to 2 ^ w - 1
pub filtered_by : (w : ℕ) (a : Interval) → filtered w a ≡ only (ltb w 128 && inside_bits w a) a
unfolding filtered
filtered_by w a = ⊎_elim (λ (l : w < 128). rw (lt-ltb w 128 l, lt-leb 128 w l)) (λ (l : 128 ≤ w). rw (le-ltb w 128 l)) (lt-or-ge w 128)

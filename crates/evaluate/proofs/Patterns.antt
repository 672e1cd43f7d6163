-- The low bits of a word, and counts as u32. Assumes nothing.
use mathlib.Core.Path.{◌≡◌, sym, ap, ◌∙◌}
use mathlib.Core.Logic.{⊎_elim}
use Prim.Native.Nat.{ℕ, min, ◌-◌, ◌%◌, ◌^◌, ◌<◌, ◌≤◌}
use native.Mathlib.Nat.{le_of_lt, le_trans, lt_of_lt_of_le, min-le_right, min-eq_left, min-eq_right, mod-eq_of_lt}
use lib.Bits.{bit_and, and_mask}
use lib.Pow.{pow_mono}
use Rattle.word.proofs.Integer.{lt-or-ge}

-- the low bits by a mask that stops at k bits, of a number of k bits
pub masked : (k w v : ℕ) → v < 2 ^ k → bit_and v (2 ^ min w k - 1) ≡ v % 2 ^ w
masked k w v f =
    and_mask v (min w k)
    ∙ ⊎_elim (λ (h : w < k). ap (λ (n : ℕ). v % 2 ^ n) (min-eq_left (le_of_lt h)))
    (λ (h : k ≤ w).
    ap (λ (n : ℕ). v % 2 ^ n) (min-eq_right h) ∙ mod-eq_of_lt f ∙ sym (mod-eq_of_lt (lt_of_lt_of_le f (pow_mono h))))
    (lt-or-ge w k)

-- a count clamped twice, to the lesser bound first
pub clamped_twice : (n m k : ℕ) → m ≤ k → min (min n m) k ≡ min n m
clamped_twice n m k h = min-eq_left (le_trans (min-le_right n m) h)

-- Laws of words. Assumes nothing.
use mathlib.Core.Path.{◌≡◌, ◌∙◌}
use mathlib.Core.Bool.{true, false}
use Prim.Native.Nat.{ℕ, ◌+◌, ◌-◌, ◌%◌, ◌^◌, ◌<◌}
use native.Mathlib.Nat.{add-mod_right, mod-eq_of_lt}
use native.Mathlib.Omega.{arith}
use lib.Count.{ones}
use Rattle.word.specs.Value.{val, is_power_of_two}
use Rattle.word.specs.declared.Word.{Word}
use Rattle.word.proofs.Products.{val_low}

-- words below a width
module _ (w : Word) (n : ℕ) (short : n < 2 ^ 16) (below : val w < n) where
  pub low_word : w.lo ≡ val w
  unfolding val
  low_word = omega arith

  pub low_part : w.lo % 65536 ≡ val w
  unfolding val
  low_part = omega arith

module _ (v w : Word) (n : ℕ) (short : n < 2 ^ 16) (first : val v < n) (second : val w < n) where
  pub low_sum : val (record { lo = v.lo + w.lo; hi = 0 }) ≡ val v + val w
  low_sum = val_low (v.lo + w.lo) ∙ omega (arith, low_word v n short first, low_word w n short second)

  pub low_difference : val (record { lo = v.lo - w.lo; hi = 0 }) ≡ val v - val w
  low_difference = val_low (v.lo - w.lo) ∙ omega (arith, low_word v n short first, low_word w n short second)

pred_mod : (m n : ℕ) → (n ≡ 0 → ⊥) → n < m → (n + (m - 1)) % m ≡ n - 1
pred_mod m n z h =
    let e : n + (m - 1) ≡ n - 1 + m = omega arith in
    rw (e, add-mod_right) (mod-eq_of_lt (omega arith))

not-zero : (n : ℕ) → is_power_of_two n ≡ true → n ≡ 0 → ⊥
unfolding is_power_of_two ones
not-zero n p e =
    let f : false ≡ true = rw e at p in
    let z : ◌≡◌ {A = ℕ} 0 1 = cc in
    omega arith

-- a power of two less 1, as Rust's wrapping subtraction says it
pub less_one : (n : ℕ) → is_power_of_two n ≡ true → n < 2 ^ 128 → (n + (2 ^ 128 - val (record { lo = 1; hi = 0 }))) % 2 ^ 128 ≡ n - 1
unfolding val
less_one n p h = pred_mod (2 ^ 128) n (not-zero n p) h

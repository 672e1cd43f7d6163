-- Laws of decimal digits: a number's last digit behind the others, and how many there are. Assumes nothing.
use mathlib.Core.Bool.{Bool, true, false, cond}
use mathlib.Core.List.{List, [], ◌∷◌, ◌++◌}
use mathlib.Core.Path.{◌≡◌, refl, ap, ◌∙◌}
use Prim.Native.Nat.{ℕ, zero, suc, ◌+◌, ◌/◌, ◌%◌, ◌^◌, ◌≤◌, ◌<◌}
use native.Mathlib.Nat.{pow-suc}
use native.Mathlib.Omega.{arith}
use borrow.Author.Tests.{lt-ltb, le-ltb, ltb-true, ltb-false}
use lib.Dec.{ltb}
use lib.ListN.{length, length-append}
use Rattle.text.specs.Text.{digit, decimal_below, decimal}

-- any bound above the number serves
same : (k j n : ℕ) → n < k → n < j → decimal_below k n ≡ decimal_below j n
same zero j n p q = absurd (omega arith)
same (suc k) zero n p q = absurd (omega arith)
same (suc k) (suc j) n p q = by (ltb n 10) refl λ l. same k j (n / 10) (omega arith) (omega arith)
  where
    by : (b : Bool) → ltb n 10 ≡ b → (10 ≤ n → decimal_below k (n / 10) ≡ decimal_below j (n / 10))
        → cond b (digit n ∷ []) (decimal_below k (n / 10) ++ (digit (n % 10) ∷ [])) ≡ cond b (digit n ∷ []) (decimal_below j (n / 10) ++ (digit (n % 10) ∷ []))
    by true e h = refl
    by false e h = rw (h (ltb-false n 10 e))

pub decimal_small : (n : ℕ) → n < 10 → decimal n ≡ digit n ∷ []
unfolding decimal
decimal_small n l = rw (lt-ltb n 10 l)

pub decimal_large : (n : ℕ) → 10 ≤ n → decimal n ≡ decimal (n / 10) ++ (digit (n % 10) ∷ [])
unfolding decimal
decimal_large n l = rw (le-ltb n 10 l) (ap (λ (r : List ℕ). r ++ (digit (n % 10) ∷ [])) (same n (suc (n / 10)) (n / 10) (omega arith) (omega arith)))

pub length_small : (n : ℕ) → n < 10 → length (decimal n) ≡ 1
length_small n l = ap length (decimal_small n l)

pub length_large : (n : ℕ) → 10 ≤ n → length (decimal n) ≡ length (decimal (n / 10)) + 1
length_large n l = ap length (decimal_large n l) ∙ length-append (decimal (n / 10)) (digit (n % 10) ∷ [])

-- no more digits than the bound
short : (k n : ℕ) → length (decimal_below k n) ≤ k
short zero n = omega arith
short (suc k) n = by (ltb n 10) (short k (n / 10))
  where
    by : (b : Bool) → length (decimal_below k (n / 10)) ≤ k
        → length (cond b (digit n ∷ []) (decimal_below k (n / 10) ++ (digit (n % 10) ∷ []))) ≤ suc k
    by true s = omega arith
    by false s = rw length-append (omega arith)

pub decimal_short : (n : ℕ) → length (decimal n) ≤ suc n
unfolding decimal
decimal_short n = short (suc n) n

-- a number below 10 ^ (k + 1) has at most k + 1 digits
pub decimal_digits : (k n : ℕ) → n < 10 ^ suc k → length (decimal n) ≤ suc k
decimal_digits zero n l = omega (arith, length_small n l)
decimal_digits (suc k) n l = by (ltb n 10) refl (λ f. decimal_digits k (n / 10) (omega (arith, l, pow-suc 10 (suc k))))
  where
    by : (b : Bool) → ltb n 10 ≡ b → (10 ≤ n → length (decimal (n / 10)) ≤ suc k) → length (decimal n) ≤ suc (suc k)
    by true e h = omega (arith, length_small n (ltb-true n 10 e))
    by false e h = let f = ltb-false n 10 e in omega (arith, length_large n f, h f)

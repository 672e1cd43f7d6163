-- Sums, differences and products modulo S. Assumes nothing.
use mathlib.Core.Path.{◌≡◌}
use Prim.Native.Nat.{ℕ, ◌+◌, ◌-◌, ◌%◌, ◌≤◌, ◌<◌}
use native.Mathlib.Decide.{dec_lt}
use native.Mathlib.Nat.{mod-eq_of_lt, mod-eq-sub-mod}
use native.Mathlib.Omega.{arith}

-- a sum of two numbers below S wraps once at most
pub data Wrap (n S r : ℕ) : Type 0 where
  under : n < S → r ≡ n → Wrap n S r
  over : S ≤ n → r + S ≡ n → Wrap n S r

pub wrap : (n S : ℕ) → n < S + S → Wrap n S (n % S)
wrap n S l = go (dec_lt n S)
  where
    go : Dec (n < S) → Wrap n S (n % S)
    go (yes q) = under q (mod-eq_of_lt q)
    go (no q) =
        let p : S ≤ n = omega arith in
        let m : n - S < S = omega arith in
        over p (omega (arith, mod-eq-sub-mod p, mod-eq_of_lt m))

pub sub_same : (x S : ℕ) → x < S → (x + (S - x)) % S ≡ 0
sub_same x S l = go (wrap (x + (S - x)) S (omega arith))
  where
    go : Wrap (x + (S - x)) S ((x + (S - x)) % S) → (x + (S - x)) % S ≡ 0
    go (under p q) = absurd (omega arith)
    go (over p q) = omega arith

pub sub_exact : (x y S : ℕ) → x < S → y ≤ x → (x + (S - y)) % S ≡ x - y
sub_exact x y S l m = go (wrap (x + (S - y)) S (omega arith))
  where
    go : Wrap (x + (S - y)) S ((x + (S - y)) % S) → (x + (S - y)) % S ≡ x - y
    go (under p q) = absurd (omega arith)
    go (over p q) = omega arith

-- x + c is b modulo S just if x is b - c
module _ (x c b S : ℕ) (lx : x < S) (lc : c < S) (lb : b < S) where
  pub shift_to : (x + c) % S ≡ b → x ≡ (b + (S - c)) % S
  shift_to e = go (wrap (x + c) S (omega arith)) (wrap (b + (S - c)) S (omega arith))
    where
      go : Wrap (x + c) S ((x + c) % S) → Wrap (b + (S - c)) S ((b + (S - c)) % S) → x ≡ (b + (S - c)) % S
      go (under p q) (under p' q') = omega arith
      go (under p q) (over p' q') = omega arith
      go (over p q) (under p' q') = omega arith
      go (over p q) (over p' q') = omega arith

  pub shift_from : x ≡ (b + (S - c)) % S → (x + c) % S ≡ b
  shift_from e = go (wrap (x + c) S (omega arith)) (wrap (b + (S - c)) S (omega arith))
    where
      go : Wrap (x + c) S ((x + c) % S) → Wrap (b + (S - c)) S ((b + (S - c)) % S) → (x + c) % S ≡ b
      go (under p q) (under p' q') = omega arith
      go (under p q) (over p' q') = omega arith
      go (over p q) (under p' q') = omega arith
      go (over p q) (over p' q') = omega arith

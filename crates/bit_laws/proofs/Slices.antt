-- Slices of slices and of two numbers side by side. Assumes nothing.
use mathlib.Core.Path.{◌≡◌, sym, ap, ◌∙◌}
use Prim.Native.Nat.{ℕ, ◌+◌, ◌-◌, ◌*◌, ◌/◌, ◌%◌, ◌^◌, ◌≤◌, ◌<◌}
use native.Mathlib.Decide.{dec_lt}
use native.Mathlib.Nat.{mod-lt}
use native.Mathlib.Omega.{arith}
use lib.Pow.{pow_pos}
use Rattle.bit_laws.specs.Bit.{bit}
use Rattle.bit_laws.proofs.Bit.{bit_ext, bit_big, bit-shr, bit-mod, bit-mod_big, bit_high, bit_low_part, bit-shl, bit-shl_low}

-- the low w bits of x are y
pub low_bits : (x y w : ℕ) → y < 2 ^ w → ((i : ℕ) → i < w → bit x i ≡ bit y i) → x % 2 ^ w ≡ y
low_bits x y w l h = bit_ext _ _ (λ i. go i (dec_lt i w))
  where
    go : (i : ℕ) → Dec (i < w) → bit (x % 2 ^ w) i ≡ bit y i
    go i (yes p) = bit-mod x w i p ∙ h i p
    go i (no p) = bit-mod_big x w i (omega arith) ∙ sym (bit_big y w i l (omega arith))

at_place : (x a b : ℕ) → a ≡ b → bit x a ≡ bit x b
at_place x a b e = ap (bit x) e

pub slice-slice : (x p s o w : ℕ) → o + w ≤ s → x / 2 ^ p % 2 ^ s / 2 ^ o % 2 ^ w ≡ x / 2 ^ (p + o) % 2 ^ w
slice-slice x p s o w f =
    low_bits _ _ w (mod-lt (x / 2 ^ (p + o)) (pow_pos w))
    (λ i l.
    bit-shr (x / 2 ^ p % 2 ^ s) o i ∙ bit-mod (x / 2 ^ p) s (o + i) (omega arith) ∙ bit-shr x p (o + i) ∙ at_place x _ _ (omega arith)
    ∙ sym (bit-mod (x / 2 ^ (p + o)) w i l ∙ bit-shr x (p + o) i))

module _ (a b k o w : ℕ) (f : b < 2 ^ k) where
  pub slice_high : k ≤ o → (a * 2 ^ k + b) / 2 ^ o % 2 ^ w ≡ a / 2 ^ (o - k) % 2 ^ w
  slice_high q =
      low_bits _ _ w (mod-lt (a / 2 ^ (o - k)) (pow_pos w))
      (λ i l.
      bit-shr (a * 2 ^ k + b) o i ∙ at_place (a * 2 ^ k + b) (o + i) (k + (o - k + i)) (omega arith) ∙ bit_high a b k (o - k + i) f
      ∙ sym (bit-mod (a / 2 ^ (o - k)) w i l ∙ bit-shr a (o - k) i))

  pub slice_low : o + w ≤ k → (a * 2 ^ k + b) / 2 ^ o % 2 ^ w ≡ b / 2 ^ o % 2 ^ w
  slice_low q =
      low_bits _ _ w (mod-lt (b / 2 ^ o) (pow_pos w))
      (λ i l. bit-shr (a * 2 ^ k + b) o i ∙ bit_low_part a b k (o + i) f (omega arith) ∙ sym (bit-mod (b / 2 ^ o) w i l ∙ bit-shr b o i))

  pub slice_split : o < k → k < o + w
      → (a * 2 ^ k + b) / 2 ^ o % 2 ^ w ≡ a / 2 ^ 0 % 2 ^ (w - (k - o)) * 2 ^ (k - o) + b / 2 ^ o % 2 ^ (k - o)
  slice_split p q = bit_ext _ _ (λ i. go i (dec_lt i (k - o)) (dec_lt i w))
    where
      u : ℕ
      u = a / 2 ^ 0 % 2 ^ (w - (k - o))

      v : ℕ
      v = b / 2 ^ o % 2 ^ (k - o)

      lv : v < 2 ^ (k - o)
      lv = mod-lt (b / 2 ^ o) (pow_pos (k - o))

      go : (i : ℕ) → Dec (i < k - o) → Dec (i < w) → bit ((a * 2 ^ k + b) / 2 ^ o % 2 ^ w) i ≡ bit (u * 2 ^ (k - o) + v) i
      go i (yes r) s =
          bit-mod ((a * 2 ^ k + b) / 2 ^ o) w i (omega arith) ∙ bit-shr (a * 2 ^ k + b) o i ∙ bit_low_part a b k (o + i) f (omega arith)
          ∙ sym (bit_low_part u v (k - o) i lv r ∙ bit-mod (b / 2 ^ o) (k - o) i r ∙ bit-shr b o i)
      go i (no r) (yes s) =
          let j : ℕ = i - (k - o) in
          bit-mod ((a * 2 ^ k + b) / 2 ^ o) w i s ∙ bit-shr (a * 2 ^ k + b) o i ∙ at_place (a * 2 ^ k + b) (o + i) (k + j) (omega arith)
          ∙ bit_high a b k j f
          ∙ sym (at_place (u * 2 ^ (k - o) + v) i (k - o + j) (omega arith) ∙ bit_high u v (k - o) j lv
          ∙ bit-mod (a / 2 ^ 0) (w - (k - o)) j (omega arith) ∙ bit-shr a 0 j ∙ at_place a (0 + j) j (omega arith))
      go i (no r) (no s) =
          let j : ℕ = i - (k - o) in
          bit-mod_big ((a * 2 ^ k + b) / 2 ^ o) w i (omega arith)
          ∙ sym (at_place (u * 2 ^ (k - o) + v) i (k - o + j) (omega arith) ∙ bit_high u v (k - o) j lv
          ∙ bit-mod_big (a / 2 ^ 0) (w - (k - o)) j (omega arith))

-- two slices of one number side by side
pub slice_join : (x o v w : ℕ) → v ≤ w → x / 2 ^ (o + v) % 2 ^ (w - v) * 2 ^ v + x / 2 ^ o % 2 ^ v ≡ x / 2 ^ o % 2 ^ w
slice_join x o v w l = bit_ext _ _ (λ i. go i (dec_lt i v) (dec_lt i w))
  where
    a : ℕ
    a = x / 2 ^ (o + v) % 2 ^ (w - v)

    b : ℕ
    b = x / 2 ^ o % 2 ^ v

    lb : b < 2 ^ v
    lb = mod-lt (x / 2 ^ o) (pow_pos v)

    go : (i : ℕ) → Dec (i < v) → Dec (i < w) → bit (a * 2 ^ v + b) i ≡ bit (x / 2 ^ o % 2 ^ w) i
    go i (yes p) s = bit_low_part a b v i lb p ∙ bit-mod (x / 2 ^ o) v i p ∙ sym (bit-mod (x / 2 ^ o) w i (omega arith))
    go i (no p) (yes s) =
        let j : ℕ = i - v in
        at_place (a * 2 ^ v + b) i (v + j) (omega arith) ∙ bit_high a b v j lb ∙ bit-mod (x / 2 ^ (o + v)) (w - v) j (omega arith)
        ∙ bit-shr x (o + v) j ∙ at_place x (o + v + j) (o + i) (omega arith) ∙ sym (bit-mod (x / 2 ^ o) w i s ∙ bit-shr x o i)
    go i (no p) (no s) =
        let j : ℕ = i - v in
        at_place (a * 2 ^ v + b) i (v + j) (omega arith) ∙ bit_high a b v j lb ∙ bit-mod_big (x / 2 ^ (o + v)) (w - v) j (omega arith)
        ∙ sym (bit-mod_big (x / 2 ^ o) w i (omega arith))

-- ---- shifts within a width

-- a shift left and back right: the bits that stay, moved down
pub shift_back : (x a b w : ℕ) → a ≤ b → b ≤ w → x * 2 ^ a % 2 ^ w / 2 ^ b ≡ x / 2 ^ (b - a) % 2 ^ (w - b)
shift_back x a b w l q = bit_ext _ _ (λ i. go i (dec_lt i (w - b)))
  where
    go : (i : ℕ) → Dec (i < w - b) → bit (x * 2 ^ a % 2 ^ w / 2 ^ b) i ≡ bit (x / 2 ^ (b - a) % 2 ^ (w - b)) i
    go i (yes p) =
        bit-shr (x * 2 ^ a % 2 ^ w) b i ∙ bit-mod (x * 2 ^ a) w (b + i) (omega arith) ∙ at_place (x * 2 ^ a) (b + i) (a + (b - a + i)) (omega arith)
        ∙ bit-shl x a (b - a + i) ∙ sym (bit-mod (x / 2 ^ (b - a)) (w - b) i p ∙ bit-shr x (b - a) i)
    go i (no p) = bit-shr (x * 2 ^ a % 2 ^ w) b i ∙ bit-mod_big (x * 2 ^ a) w (b + i) (omega arith) ∙ sym (bit-mod_big (x / 2 ^ (b - a)) (w - b) i (omega arith))

-- or what is left of the shift, of the bits that stay
pub shift_left : (x a b w : ℕ) → b < a → a ≤ w → x * 2 ^ a % 2 ^ w / 2 ^ b ≡ x / 2 ^ 0 % 2 ^ (w - a) * 2 ^ (a - b) % 2 ^ w
shift_left x a b w l q = bit_ext _ _ (λ i. go i (dec_lt i (a - b)) (dec_lt i (w - b)))
  where
    y : ℕ
    y = x / 2 ^ 0 % 2 ^ (w - a)

    go : (i : ℕ) → Dec (i < a - b) → Dec (i < w - b) → bit (x * 2 ^ a % 2 ^ w / 2 ^ b) i ≡ bit (y * 2 ^ (a - b) % 2 ^ w) i
    go i (yes p) s =
        bit-shr (x * 2 ^ a % 2 ^ w) b i ∙ bit-mod (x * 2 ^ a) w (b + i) (omega arith) ∙ bit-shl_low x a (b + i) (omega arith)
        ∙ sym (bit-mod (y * 2 ^ (a - b)) w i (omega arith) ∙ bit-shl_low y (a - b) i p)
    go i (no p) (yes s) =
        let j : ℕ = i - (a - b) in
        bit-shr (x * 2 ^ a % 2 ^ w) b i ∙ bit-mod (x * 2 ^ a) w (b + i) (omega arith) ∙ at_place (x * 2 ^ a) (b + i) (a + j) (omega arith) ∙ bit-shl x a j
        ∙ sym (bit-mod (y * 2 ^ (a - b)) w i (omega arith) ∙ at_place (y * 2 ^ (a - b)) i (a - b + j) (omega arith) ∙ bit-shl y (a - b) j
        ∙ bit-mod (x / 2 ^ 0) (w - a) j (omega arith) ∙ bit-shr x 0 j ∙ at_place x (0 + j) j (omega arith))
    go i (no p) (no s) =
        bit-shr (x * 2 ^ a % 2 ^ w) b i ∙ bit-mod_big (x * 2 ^ a) w (b + i) (omega arith) ∙ sym (past i (omega arith) (dec_lt i w))
      where
        past : (i : ℕ) → w - b ≤ i → Dec (i < w) → bit (y * 2 ^ (a - b) % 2 ^ w) i ≡ 0
        past i r (yes s) =
            let j : ℕ = i - (a - b) in
            bit-mod (y * 2 ^ (a - b)) w i s ∙ at_place (y * 2 ^ (a - b)) i (a - b + j) (omega arith) ∙ bit-shl y (a - b) j
            ∙ bit-mod_big (x / 2 ^ 0) (w - a) j (omega arith)
        past i r (no s) = bit-mod_big (y * 2 ^ (a - b)) w i (omega arith)

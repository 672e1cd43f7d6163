-- Laws of and, or and exclusive or, and when a number is one with a field replaced. Assumes nothing.
use mathlib.Core.Path.{◌≡◌, sym, ap, ◌∙◌}
use Prim.Native.Nat.{ℕ, ◌-◌, ◌^◌, ◌<◌, min, max}
use native.Mathlib.Decide.{dec_lt}
use native.Mathlib.Omega.{arith}
use lib.Bits.{bit_and, bit_or, bit_xor}
use Rattle.bit_laws.specs.Bit.{bit}
use Rattle.bit_laws.proofs.Bit.{bit-lt, bit-zero, bit_ext, bit-and, bit-or, bit-xor, bit_big, bit_not}

module _ (a b c : ℕ) where
  pub and_assoc : bit_and (bit_and a b) c ≡ bit_and a (bit_and b c)
  and_assoc = bit_ext _ _ (λ i. simp bit-and (omega arith))

  pub or_assoc : bit_or (bit_or a b) c ≡ bit_or a (bit_or b c)
  or_assoc = bit_ext _ _ (λ i. simp bit-or (omega arith))

  pub xor_assoc : bit_xor (bit_xor a b) c ≡ bit_xor a (bit_xor b c)
  xor_assoc = bit_ext _ _ (λ i. simp bit-xor (omega arith))

  pub and-or : bit_and (bit_or a b) c ≡ bit_or (bit_and a c) (bit_and b c)
  and-or = bit_ext _ _ (λ i. simp (bit-and, bit-or) (omega arith))

-- ---- x is (x and keep) or lit just if (x and not keep) is lit

module _ (w x keep lit : ℕ) (lx : x < 2 ^ w) (lk : keep < 2 ^ w) (ll : lit < 2 ^ w) (apart : bit_and lit keep ≡ 0) where
  apart_at : (i : ℕ) → min (bit lit i) (bit keep i) ≡ 0
  apart_at i = sym (bit-and lit keep i) ∙ ap (λ (n : ℕ). bit n i) apart ∙ bit-zero i

  set_at : (i : ℕ) → bit (bit_or (bit_and x keep) lit) i ≡ max (min (bit x i) (bit keep i)) (bit lit i)
  set_at i = bit-or (bit_and x keep) lit i ∙ ap (λ (n : ℕ). max n (bit lit i)) (bit-and x keep i)

  pub field_kept : x ≡ bit_or (bit_and x keep) lit → bit_and x (2 ^ w - 1 - keep) ≡ lit
  field_kept e = bit_ext _ _ (λ i. go i (dec_lt i w))
    where
      go : (i : ℕ) → Dec (i < w) → bit (bit_and x (2 ^ w - 1 - keep)) i ≡ bit lit i
      go i (yes p) =
          bit-and x (2 ^ w - 1 - keep) i
          ∙ omega (arith, ap (λ (n : ℕ). bit n i) e ∙ set_at i, bit_not w keep i lk p, apart_at i, bit-lt x i, bit-lt keep i, bit-lt lit i)
      go i (no p) = bit-and x (2 ^ w - 1 - keep) i ∙ omega (arith, bit_big x w i lx (omega arith), bit_big lit w i ll (omega arith))

  pub kept_field : bit_and x (2 ^ w - 1 - keep) ≡ lit → x ≡ bit_or (bit_and x keep) lit
  kept_field e = bit_ext _ _ (λ i. go i (dec_lt i w))
    where
      go : (i : ℕ) → Dec (i < w) → bit x i ≡ bit (bit_or (bit_and x keep) lit) i
      go i (yes p) =
          omega (
            arith,
            sym (ap (λ (n : ℕ). bit n i) e) ∙ bit-and x (2 ^ w - 1 - keep) i,
            bit_not w keep i lk p,
            bit-lt x i,
            bit-lt keep i,
            bit-lt lit i,
            set_at i,
          )
      go i (no p) = omega (arith, bit_big x w i lx (omega arith), bit_big lit w i ll (omega arith), set_at i)

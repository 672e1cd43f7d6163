-- Numbers of two halves of k bits, k a parameter. Assumes nothing.
use Rattle.std.proofs.Common.{◌≡◌, ℕ, suc, ◌+◌, ◌-◌, ◌*◌, ◌/◌, ◌%◌, ◌^◌, ◌<◌, ◌≤◌, sym, ap, ◌∙◌, le_trans, le-add_right, mul-le-mul_right, suc-mul, add-mul, arith, pow-add}
use lib.Arith.{digits_lt}
use lib.Pow.{high, low, mod-pow-add}
use Rattle.word.specs.Value.{val}
use Rattle.word.specs.declared.Word.{Word}

module _ (k : ℕ) where
  -- a number cut into halves, modulo 2 ^ (k + k)
  pub cut-mod : (h l : ℕ) → l < 2 ^ k → (h * 2 ^ k + l) % 2 ^ (k + k) ≡ h % 2 ^ k * 2 ^ k + l
  cut-mod h l f = mod-pow-add (h * 2 ^ k + l) k k ∙ rw (high h k f, low h k f)

  -- two halves of k bits make a number of k + k bits
  pub two_halves : {h l : ℕ} → h < 2 ^ k → l < 2 ^ k → h * 2 ^ k + l < 2 ^ (k + k)
  two_halves {h} f g = rw (pow-add 2 k k) (digits_lt {q = h} f g)

  -- the sum of two numbers of two halves, with the carry c out of the low ones
  pub add_halves : (ah al bh bl c l : ℕ) → al + bl ≡ c * 2 ^ k + l → l < 2 ^ k
      → (ah * 2 ^ k + al + (bh * 2 ^ k + bl)) % 2 ^ (k + k) ≡ (ah + bh + c) % 2 ^ k * 2 ^ k + l
  add_halves ah al bh bl c l e f =
      let s : ah * 2 ^ k + al + (bh * 2 ^ k + bl) ≡ (ah + bh + c) * 2 ^ k + l =
      omega (arith, add-mul (ah + bh) c (2 ^ k), add-mul ah bh (2 ^ k)) in
      rw s (cut-mod (ah + bh + c) l f)

  -- a number has one high and one low half
  pub halves_unique : (ah al bh bl : ℕ) → al < 2 ^ k → bl < 2 ^ k → ah * 2 ^ k + al ≡ bh * 2 ^ k + bl → (ah ≡ bh) × (al ≡ bl)
  halves_unique ah al bh bl f g e = (
    sym (high ah k f) ∙ ap (λ (n : ℕ). n / 2 ^ k) e ∙ high bh k g,
    sym (low ah k f) ∙ ap (λ (n : ℕ). n % 2 ^ k) e ∙ low bh k g,
  )

  -- a high half below another one decides the order
  pub less_high : (ah al bh bl : ℕ) → al < 2 ^ k → ah < bh → ah * 2 ^ k + al < bh * 2 ^ k + bl
  less_high ah al bh bl f h =
      let m : suc ah * 2 ^ k ≤ bh * 2 ^ k = mul-le-mul_right (2 ^ k) h in
      omega (arith, suc-mul ah (2 ^ k))

  -- all bits of both halves turned
  pub complement_halves : (h l : ℕ) → h < 2 ^ k → l < 2 ^ k → (2 ^ k - suc h) * 2 ^ k + (2 ^ k - suc l) ≡ 2 ^ (k + k) - suc (h * 2 ^ k + l)
  complement_halves h l f g =
      let d : (2 ^ k - suc h + suc h) * 2 ^ k ≡ 2 ^ k * 2 ^ k = ap (λ (n : ℕ). n * 2 ^ k) (omega arith) in
      rw (pow-add 2 k k) (omega (arith, add-mul (2 ^ k - suc h) (suc h) (2 ^ k), suc-mul h (2 ^ k)))

-- the top bit decides on which side of half of the numbers one lies
pub top_clear : (h l : ℕ) → h < 2 ^ 63 → l < 2 ^ 64 → h * 2 ^ 64 + l < 2 ^ 127
top_clear h l f g = digits_lt {q = h} {m = 2 ^ 63} f g

pub top_set : (h l : ℕ) → 2 ^ 63 ≤ h → 2 ^ 127 ≤ h * 2 ^ 64 + l
top_set h l f = le_trans (mul-le-mul_right (2 ^ 64) f) (le-add_right (h * 2 ^ 64) l)

pub pred_sub : (m n : ℕ) → m - 1 - n ≡ m - suc n
pred_sub m n = omega arith

-- a word is a number of 128 bits
pub val-lt : (w : Word) → w.hi < 2 ^ 64 → w.lo < 2 ^ 64 → val w < 2 ^ 128
unfolding val
val-lt w f g = two_halves 64 {h = w.hi} {l = w.lo} f g

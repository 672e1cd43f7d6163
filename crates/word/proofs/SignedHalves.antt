-- Signed words by their halves: value, sign and bits. Assumes nothing.
use Rattle.std.proofs.Common.{◌≡◌, ℕ, zero, suc, ◌+◌, ◌-◌, ◌*◌, ◌^◌, ◌<◌, ◌≤◌, Bool, true, ℤ, pos, negsuc, ◌+ℤ◌, ◌-ℤ◌, ◌*ℤ◌, neg_ℤ, sym, refl, ap, ◌∙◌, subst, ⊎_elim, suc-mul, arith, pow_pos, w64, SFits, to_z, of_z, le-ltb, lt-ltb}
use lib.Signed.{mag, lt_z}
use mir.ValLaws.{to_z-of_z, to_z_pos}
use Rattle.word.specs.Value.{val, int_of, residue, signed, is_neg}
use Rattle.word.specs.declared.Word.{Word}
use Rattle.word.specs.declared.Signed.{Signed}
use Rattle.word.proofs.Halves.{two_halves, complement_halves, top_clear, top_set, pred_sub}
use Rattle.word.proofs.Integer.{lt-or-ge, signed_low, signed_high, residue-pos, residue-negsuc}

to_z_high : (u : ℕ) → 2 ^ 63 ≤ u → to_z w64 u ≡ negsuc (2 ^ 64 - suc u)
to_z_high u g = rw (le-ltb u (2 ^ 63) g)

-- what holds of the halves of a signed word in a local
pub record Held (s : Signed) : Type 0 where
  pub half : SFits w64 s.hi
  pub low : s.lo < 2 ^ 64

-- an integer of two halves, by its sign
abbrev pub joined : ℤ → ℕ → ℤ
joined (pos h) l = pos (h * 2 ^ 64 + l)
joined (negsuc h) l = negsuc (h * 2 ^ 64 + (2 ^ 64 - 1 - l))

below_zero : (n l : ℕ) → l ≤ n → negsuc n +ℤ pos l ≡ negsuc (n - l)
below_zero n l h = rw (lt-ltb l (suc n) (omega arith)) (ap negsuc (omega arith))

-- (h + 1) * P, negated
negated : (h P : ℕ) → 0 < P → neg_ℤ (pos (suc h * P)) ≡ negsuc (h * P + (P - 1))
negated h P f = let e : suc h * P ≡ suc (h * P + (P - 1)) = omega (arith, suc-mul h P) in ap (λ (n : ℕ). neg_ℤ (pos n)) e

join : (h : ℤ) (l : ℕ) → l < 2 ^ 64 → h *ℤ pos (2 ^ 64) +ℤ pos l ≡ joined h l
join (pos h) l f = refl
join (negsuc h) l f =
    ap (λ (z : ℤ). z +ℤ pos l) (negated h (2 ^ 64) (pow_pos 64)) ∙ below_zero (h * 2 ^ 64 + (2 ^ 64 - 1)) l (omega arith)
    ∙ ap negsuc (omega arith)

pub int_joined : (s : Signed) → s.lo < 2 ^ 64 → int_of s ≡ joined s.hi s.lo
unfolding int_of
int_joined s f = join s.hi s.lo f

-- ---- sign and size

joined-neg : (h : ℤ) (l : ℕ) → is_neg (joined h l) ≡ is_neg h
joined-neg (pos h) l = refl
joined-neg (negsuc h) l = refl

pub int_neg : (s : Signed) → s.lo < 2 ^ 64 → is_neg (int_of s) ≡ is_neg s.hi
int_neg s f = ap is_neg (int_joined s f) ∙ joined-neg s.hi s.lo

joined_mag : (h : ℤ) (l : ℕ) → mag h < 2 ^ 63 → l < 2 ^ 64 → mag (joined h l) < 2 ^ 127
joined_mag (pos h) l f g = top_clear h l f g
joined_mag (negsuc h) l f g = top_clear h (2 ^ 64 - 1 - l) f (omega arith)

pub int_mag : (s : Signed) → Held s → mag (int_of s) < 2 ^ 127
int_mag s f = subst (λ (z : ℤ). mag z < 2 ^ 127) (sym (int_joined s f.low)) (joined_mag s.hi s.lo f.half.sfits f.low)

-- ---- bits

half_lt : {n : ℕ} → n < 2 ^ 63 → n < 2 ^ 64
half_lt h = omega arith

complement_back : (l : ℕ) → l < 2 ^ 64 → l ≡ 2 ^ 64 - suc (2 ^ 64 - 1 - l)
complement_back l f = omega arith

joined_bits : (h : ℤ) (l : ℕ) → mag h < 2 ^ 63 → l < 2 ^ 64 → of_z w64 h * 2 ^ 64 + l ≡ residue 128 (joined h l)
joined_bits (pos h) l f g = sym (residue-pos 128 (h * 2 ^ 64 + l) (two_halves 64 {h = h} {l = l} (half_lt f) g))
joined_bits (negsuc h) l f g =
    ap (λ (n : ℕ). (2 ^ 64 - suc h) * 2 ^ 64 + n) (complement_back l g) ∙ complement_halves 64 h (2 ^ 64 - 1 - l) (half_lt f) (omega arith)
    ∙ sym (residue-negsuc 128 (h * 2 ^ 64 + (2 ^ 64 - 1 - l)) (two_halves 64 {h = h} {l = 2 ^ 64 - 1 - l} (half_lt f) (omega arith)))

-- the pattern of a signed word has the bits of its halves
pub int_bits : (s : Signed) → Held s → of_z w64 s.hi * 2 ^ 64 + s.lo ≡ residue 128 (int_of s)
int_bits s f = joined_bits s.hi s.lo f.half.sfits f.low ∙ ap (residue 128) (sym (int_joined s f.low))

joined-signed : (h l : ℕ) → h < 2 ^ 64 → l < 2 ^ 64 → joined (to_z w64 h) l ≡ signed 128 (h * 2 ^ 64 + l)
joined-signed h l f g =
    ⊎_elim
    (λ (t : h < 2 ^ 63). ap (λ (z : ℤ). joined z l) (to_z_pos w64 h t) ∙ sym (signed_low 128 (h * 2 ^ 64 + l) (top_clear h l t g)))
    (λ (t : 2 ^ 63 ≤ h).
    ap (λ (z : ℤ). joined z l) (to_z_high h t)
    ∙ ap negsuc (ap (λ (n : ℕ). (2 ^ 64 - suc h) * 2 ^ 64 + n) (pred_sub (2 ^ 64) l) ∙ complement_halves 64 h l f g)
    ∙ sym (signed_high 128 (h * 2 ^ 64 + l) (top_set h l t) (two_halves 64 {h = h} {l = l} f g)))
    (lt-or-ge h (2 ^ 63))

-- a word read signed, by its halves
pub int_signed : (s : Signed) (w : Word) → w.hi < 2 ^ 64 → w.lo < 2 ^ 64 → s.hi ≡ to_z w64 w.hi → s.lo ≡ w.lo → int_of s ≡ signed 128 (val w)
unfolding val
int_signed s w f g h l =
    int_joined s (rw l g) ∙ (λ i. joined (h i) (l i)) ∙ joined-signed w.hi w.lo f g

-- ---- a half in a local: the code reads it back from its bits

neg_test : (z : ℤ) → lt_z z (pos 0) ≡ is_neg z
neg_test (pos n) = le-ltb n 0 (omega arith)
neg_test (negsuc n) = refl

pub minus_one : (n : ℕ) → negsuc 0 -ℤ pos n ≡ negsuc n
minus_one zero = refl
minus_one (suc n) = ap negsuc (omega arith)

pub flip : (h : ℤ) → is_neg h ≡ true → negsuc 0 -ℤ h ≡ pos (mag h)
flip (pos n) t = cc
flip (negsuc n) t = rw (le-ltb (suc n) 1 (omega arith)) (ap pos (omega arith))

module _ (h : ℤ) (f : SFits w64 h) where
  -- what a test of a half's sign says
  pub sign : {t : Bool} → lt_z (to_z w64 (of_z w64 h)) (pos 0) ≡ t → is_neg h ≡ t
  sign e = sym (neg_test h) ∙ ap (λ (z : ℤ). lt_z z (pos 0)) (sym (to_z-of_z w64 h f)) ∙ e

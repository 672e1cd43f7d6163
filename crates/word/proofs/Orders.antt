-- Order and equality of integers of two halves. Assumes nothing.
use Rattle.std.proofs.Common.{◌≡◌, ℕ, ◌+◌, ◌-◌, ◌*◌, ◌^◌, ◌<◌, ◌≤◌, Bool, true, false, not, ltb, leb, ℤ, pos, negsuc, refl, ap, ◌∙◌, le_of_lt, arith, ltb-false, ltb-true, le-ltb, lt-ltb, eq-eqb, eqb-true, le-leb}
use borrow.Author.Tests.{lt-leb}
use lib.Signed.{lt_z, le_z}
use Rattle.word.specs.Value.{int_of, eq_z}
use Rattle.word.specs.declared.Signed.{Signed}
use Rattle.word.proofs.Halves.{less_high}
use Rattle.word.proofs.SignedHalves.{Held, joined, int_joined}

-- ---- order

-- a high half below the other decides
less_joined : (x y : ℤ) (l m : ℕ) → l < 2 ^ 64 → m < 2 ^ 64 → lt_z x y ≡ true → lt_z (joined x l) (joined y m) ≡ true
less_joined (pos a) (pos b) l m f g t = lt-ltb _ _ (less_high 64 a l b m f (ltb-true a b t))
less_joined (pos a) (negsuc b) l m f g t = cc
less_joined (negsuc a) (pos b) l m f g t = refl
less_joined (negsuc a) (negsuc b) l m f g t =
    lt-ltb _ _ (less_high 64 b (2 ^ 64 - 1 - m) a (2 ^ 64 - 1 - l) (omega arith) (ltb-true b a t))

-- of one high half the low halves decide
low_joined : (x : ℤ) (l m : ℕ) → l < m → m < 2 ^ 64 → lt_z (joined x l) (joined x m) ≡ true
low_joined (pos a) l m f g = lt-ltb (a * 2 ^ 64 + l) (a * 2 ^ 64 + m) (omega arith)
low_joined (negsuc a) l m f g = lt-ltb (a * 2 ^ 64 + (2 ^ 64 - 1 - m)) (a * 2 ^ 64 + (2 ^ 64 - 1 - l)) (omega arith)

low_joined_no : (x : ℤ) (l m : ℕ) → m ≤ l → l < 2 ^ 64 → lt_z (joined x l) (joined x m) ≡ false
low_joined_no (pos a) l m f g = le-ltb (a * 2 ^ 64 + l) (a * 2 ^ 64 + m) (omega arith)
low_joined_no (negsuc a) l m f g = le-ltb (a * 2 ^ 64 + (2 ^ 64 - 1 - m)) (a * 2 ^ 64 + (2 ^ 64 - 1 - l)) (omega arith)

pub less_not : (x y : ℤ) → lt_z y x ≡ true → lt_z x y ≡ false
less_not (pos a) (pos b) t = le-ltb a b (le_of_lt (ltb-true b a t))
less_not (pos a) (negsuc b) t = refl
less_not (negsuc a) (pos b) t = cc
less_not (negsuc a) (negsuc b) t = le-ltb b a (le_of_lt (ltb-true a b t))

neither_less : (x y : ℤ) → lt_z x y ≡ false → lt_z y x ≡ false → x ≡ y
neither_less (pos a) (pos b) s t = ap pos (omega (arith, ltb-false a b s, ltb-false b a t))
neither_less (pos a) (negsuc b) s t = cc
neither_less (negsuc a) (pos b) s t = cc
neither_less (negsuc a) (negsuc b) s t = ap negsuc (omega (arith, ltb-false b a s, ltb-false a b t))

not_less : (a b : ℕ) (t : Bool) → ltb b a ≡ t → leb a b ≡ not t
not_less a b true e = lt-leb a b (ltb-true b a e)
not_less a b false e = le-leb a b (ltb-false b a e)

-- at most is not above
pub le-not_less : (x y : ℤ) {t : Bool} → lt_z y x ≡ t → le_z x y ≡ not t
le-not_less (pos a) (pos b) {t} e = not_less a b t e
le-not_less (pos a) (negsuc b) e = ap not e
le-not_less (negsuc a) (pos b) e = ap not e
le-not_less (negsuc a) (negsuc b) {t} e = not_less b a t e

-- ---- equality

pub same_eq_z : (x : ℤ) → eq_z x x ≡ true
same_eq_z (pos a) = eq-eqb a a refl
same_eq_z (negsuc a) = eq-eqb a a refl

pub same_is : (x y : ℤ) → eq_z x y ≡ true → x ≡ y
same_is (pos m) (pos n) e = ap pos (eqb-true m n e)
same_is (pos m) (negsuc n) e = cc
same_is (negsuc m) (pos n) e = cc
same_is (negsuc m) (negsuc n) e = ap negsuc (eqb-true m n e)

-- ---- the same on signed words

module _ (a b : Signed) (f : Held a) (g : Held b) where
  by_halves : lt_z (int_of a) (int_of b) ≡ lt_z (joined a.hi a.lo) (joined b.hi b.lo)
  by_halves = λ i. lt_z (int_joined a f.low i) (int_joined b g.low i)

  pub int_less : lt_z a.hi b.hi ≡ true → lt_z (int_of a) (int_of b) ≡ true
  int_less t = by_halves ∙ less_joined a.hi b.hi a.lo b.lo f.low g.low t

  module _ (s : lt_z a.hi b.hi ≡ false) (t : lt_z b.hi a.hi ≡ false) where
    one_half : lt_z (int_of a) (int_of b) ≡ lt_z (joined b.hi a.lo) (joined b.hi b.lo)
    one_half = by_halves ∙ ap (λ (h : ℤ). lt_z (joined h a.lo) (joined b.hi b.lo)) (neither_less a.hi b.hi s t)

    pub int_low : a.lo < b.lo → lt_z (int_of a) (int_of b) ≡ true
    int_low h = one_half ∙ low_joined b.hi a.lo b.lo h g.low

    pub int_low_no : b.lo ≤ a.lo → lt_z (int_of a) (int_of b) ≡ false
    int_low_no h = one_half ∙ low_joined_no b.hi a.lo b.lo h f.low

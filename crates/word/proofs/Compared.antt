-- `cmp` of two words by their halves, and what `==`, `<`, `<=`, `min` and `max` answer, in the words of contracts. Assumes nothing.
use Rattle.std.proofs.Common.{◌≡◌, ℕ, ◌<◌, ◌≤◌, Bool, true, false, ◌==◌, ◌&&◌, cond, ℤ, nat_lt, nat_le, min, max, int_lt, int_le, not, subst, true≢false, refl, sym, ap, ◌∙◌, arith, le_of_lt, ltb-true, ltb-false, le-leb, eqb-true, Ordering, Less, Equal, Greater}
use Rattle.std.proofs.lemmas.Bool.{eqb-false}
use Rattle.std.specs.Ordering.{MatchOrdering, nat_cmp, int_cmp, int_eq, is_eq, is_lt, is_le, ordering_then, as_partial_cmp, on, partial_lt, partial_le, ord_min, ord_max}
use Rattle.std.specs.Cmp.{ranks, both_tied, signed_Decides, unsigned_ties}
use native.Mathlib.Nat.{min-eq_left, min-eq_right, max-eq_left, max-eq_right}
use borrow.Author.Tests.{lt-leb}
use Rattle.word.specs.Value.{val, int_of, eq_z, min_z, max_z}
use Rattle.word.specs.declared.Word.{Word}
use Rattle.word.specs.declared.Signed.{Signed}
use Rattle.word.proofs.SignedHalves.{Held}
use Rattle.word.proofs.Orders.{less_not, le-not_less, same_is, same_eq_z, int_less, int_low, int_low_no}

-- ---- by halves

int_cmp_less : (x y : ℤ) → int_lt x y ≡ true → int_cmp x y ≡ Less
int_cmp_less x y e = rw e refl

int_cmp_greater : (x y : ℤ) → int_lt y x ≡ true → int_cmp x y ≡ Greater
int_cmp_greater x y e = rw (less_not x y e, e) refl

int_cmp_equal : (x y : ℤ) → int_lt x y ≡ false → int_lt y x ≡ false → int_cmp x y ≡ Equal
int_cmp_equal x y e d = rw (e, d) refl

module _ (a b : Signed) (f : Held a) (g : Held b) where
  by_tests : (s t u v : Bool) → int_lt a.hi b.hi ≡ s → int_lt b.hi a.hi ≡ t → nat_lt a.lo b.lo ≡ u → (a.lo == b.lo) ≡ v
      → ordering_then (cond s Less (cond t Greater Equal)) (cond u Less (cond v Equal Greater)) ≡ int_cmp (int_of a) (int_of b)
  by_tests true t u v p q r e = sym (int_cmp_less (int_of a) (int_of b) (int_less a b f g p))
  by_tests false true u v p q r e = sym (int_cmp_greater (int_of a) (int_of b) (int_less b a g f q))
  by_tests false false true v p q r e = sym (int_cmp_less (int_of a) (int_of b) (int_low a b f g p q (ltb-true a.lo b.lo r)))
  by_tests false false false true p q r e =
      let l : a.lo ≡ b.lo = eqb-true a.lo b.lo e in
      sym (int_cmp_equal (int_of a) (int_of b) (int_low_no a b f g p q (omega arith)) (int_low_no b a g f q p (omega arith)))
  by_tests false false false false p q r e =
      let l : b.lo ≤ a.lo = ltb-false a.lo b.lo r in
      let n : a.lo ≡ b.lo → ⊥ = eqb-false a.lo b.lo e in
      sym (int_cmp_greater (int_of a) (int_of b) (int_low b a g f q p (omega arith)))

  pub cmp_signed : ordering_then (int_cmp a.hi b.hi) (nat_cmp a.lo b.lo) ≡ int_cmp (int_of a) (int_of b)
  cmp_signed = by_tests (int_lt a.hi b.hi) (int_lt b.hi a.hi) (nat_lt a.lo b.lo) (a.lo == b.lo) refl refl refl refl

module _ (a b : Signed) (f : Held a) (g : Held b) where
  pub eq_signed : (int_eq a.hi b.hi && (a.lo == b.lo)) ≡ int_eq (int_of a) (int_of b)
  eq_signed = both_tied (int_eq a.hi b.hi) (a.lo == b.lo) (int_cmp a.hi b.hi) (nat_cmp a.lo b.lo) refl (unsigned_ties a.lo b.lo)
      ∙ ap is_eq (cmp_signed a b f g)

-- ---- what the operators answer

lt_by : (t u : Bool) → is_lt (cond t Less (cond u Equal Greater)) ≡ t
lt_by true u = refl
lt_by false true = refl
lt_by false false = refl

le_by : (x y : ℕ) (r : Ordering) → MatchOrdering r (x < y) (x ≡ y) (y < x) → is_le r ≡ nat_le x y
le_by x y Less h = sym (le-leb x y (le_of_lt h))
le_by x y Equal h = sym (le-leb x y (omega arith))
le_by x y Greater h = sym (lt-leb x y h)

min_by : {A : Type 0} (f : A → ℕ) (a b : A) (t : Bool) → nat_lt (f b) (f a) ≡ t → f (cond t b a) ≡ min (f a) (f b)
min_by f a b true e = sym (min-eq_right (le_of_lt (ltb-true (f b) (f a) e)))
min_by f a b false e = sym (min-eq_left (ltb-false (f b) (f a) e))

max_by : {A : Type 0} (f : A → ℕ) (a b : A) (t : Bool) → nat_lt (f b) (f a) ≡ t → f (cond t a b) ≡ max (f a) (f b)
max_by f a b true e = sym (max-eq_left (le_of_lt (ltb-true (f b) (f a) e)))
max_by f a b false e = sym (max-eq_right (ltb-false (f b) (f a) e))

-- of words, as of the numbers that they stand for
module _ (a b : Word) where
  pub lt_word : partial_lt (as_partial_cmp (on val nat_cmp)) a b ≡ nat_lt (val a) (val b)
  lt_word = lt_by (nat_lt (val a) (val b)) (val a == val b)

  pub le_word : partial_le (as_partial_cmp (on val nat_cmp)) a b ≡ nat_le (val a) (val b)
  le_word = le_by (val a) (val b) (nat_cmp (val a) (val b)) (ranks (val a) (val b))

  pub min_word : val (ord_min (on val nat_cmp) a b) ≡ min (val a) (val b)
  min_word = min_by val a b (is_lt (nat_cmp (val b) (val a))) (sym (lt_by (nat_lt (val b) (val a)) (val b == val a)))

  pub max_word : val (ord_max (on val nat_cmp) a b) ≡ max (val a) (val b)
  max_word = max_by val a b (is_lt (nat_cmp (val b) (val a))) (sym (lt_by (nat_lt (val b) (val a)) (val b == val a)))

-- of signed words, as of the integers that they stand for
lt_by_z : (t u : Bool) → is_lt (cond t Less (cond u Greater Equal)) ≡ t
lt_by_z true u = refl
lt_by_z false true = refl
lt_by_z false false = refl

le_by_z : (t u : Bool) → (u ≡ true → t ≡ false) → is_le (cond t Less (cond u Greater Equal)) ≡ not u
le_by_z true true h = absurd (true≢false (h refl))
le_by_z true false h = refl
le_by_z false true h = refl
le_by_z false false h = refl

eq_by_z : (x y : ℤ) (t : Bool) → eq_z x y ≡ t → int_eq x y ≡ t
eq_by_z x y true e = (signed_Decides x y).1 (same_is x y e)
eq_by_z x y false e = not_so (int_eq x y) (λ t. true≢false (sym (same_eq_z' x y ((signed_Decides x y).0 t)) ∙ e))
  where
    same_eq_z' : (x y : ℤ) → x ≡ y → eq_z x y ≡ true
    same_eq_z' x y e = subst (λ (z : ℤ). eq_z x z ≡ true) e (same_eq_z x)

    not_so : (t : Bool) → (t ≡ true → ⊥) → t ≡ false
    not_so true h = absurd (h refl)
    not_so false h = refl

pub eq_int : (x y : ℤ) → int_eq x y ≡ eq_z x y
eq_int x y = eq_by_z x y (eq_z x y) refl

module _ (a b : Signed) where
  pub eq_signed_z : on int_of int_eq a b ≡ eq_z (int_of a) (int_of b)
  eq_signed_z = eq_int (int_of a) (int_of b)

  pub lt_signed : partial_lt (as_partial_cmp (on int_of int_cmp)) a b ≡ int_lt (int_of a) (int_of b)
  lt_signed = lt_by_z (int_lt (int_of a) (int_of b)) (int_lt (int_of b) (int_of a))

  pub le_signed : partial_le (as_partial_cmp (on int_of int_cmp)) a b ≡ int_le (int_of a) (int_of b)
  le_signed = le_by_z (int_lt (int_of a) (int_of b)) (int_lt (int_of b) (int_of a)) (less_not (int_of a) (int_of b)) ∙ sym (le-not_less (int_of a) (int_of b) refl)

  pub min_signed : int_of (ord_min (on int_of int_cmp) a b) ≡ min_z (int_of a) (int_of b)
  min_signed = min_by_z (is_lt (int_cmp (int_of b) (int_of a))) (int_lt (int_of b) (int_of a)) (lt_by_z (int_lt (int_of b) (int_of a)) (int_lt (int_of a) (int_of b)))
    where
      min_by_z : (t u : Bool) → t ≡ u → int_of (cond t b a) ≡ cond u (int_of b) (int_of a)
      min_by_z true u e = subst (λ v. int_of b ≡ cond v (int_of b) (int_of a)) e refl
      min_by_z false u e = subst (λ v. int_of a ≡ cond v (int_of b) (int_of a)) e refl

  pub max_signed : int_of (ord_max (on int_of int_cmp) a b) ≡ max_z (int_of a) (int_of b)
  max_signed = max_by_z (is_lt (int_cmp (int_of b) (int_of a))) (int_lt (int_of b) (int_of a)) (lt_by_z (int_lt (int_of b) (int_of a)) (int_lt (int_of a) (int_of b)))
    where
      max_by_z : (t u : Bool) → t ≡ u → int_of (cond t a b) ≡ cond u (int_of a) (int_of b)
      max_by_z true u e = subst (λ v. int_of a ≡ cond v (int_of a) (int_of b)) e refl
      max_by_z false u e = subst (λ v. int_of b ≡ cond v (int_of a) (int_of b)) e refl

-- The signed order of fields of w bits: in w bits SMT-LIB's, in more bits the unsigned one. Assumes nothing.
use mathlib.Core.Path.{◌≡◌, refl, sym, ap, ◌∙◌, subst}
use mathlib.Core.Bool.{Bool, true, false, not, not-not, true≢false, false≢true}
use Rattle.std.specs.Prelude.{Some}
use mathlib.Core.Logic.{◌↔◌, ◌⊎◌, inl, inr, ⊎_elim, ⊎_map}
use Prim.Native.Nat.{ℕ, suc, ◌-◌, ◌^◌, ◌<◌, ◌≤◌}
use native.Mathlib.Nat.{eq-or-lt_of_le}
use native.Mathlib.Omega.{arith}
use borrow.Author.Tests.{lt-ltb, le-ltb}
use lib.Dec.{ltb, leb, eqb}
use lib.IntN.{ℤ, pos}
use lib.Signed.{lt_z, le_z}
use Rattle.word.specs.Value.{signed}
use Rattle.word.specs.Option.{from_bool}
use Rattle.word.proofs.Integer.{lt-or-ge}
use Rattle.word.proofs.Orders.{le-not_less}
use Rattle.evaluate.specs.SmtLib.{msb, ordered, bvslt, bvsle}
use Rattle.evaluate.proofs.Fields.{by_tops, signed-narrow}

-- a test as an answer
pub test_answer : (x y : Bool) → (Some (from_bool x) ≡ Some (from_bool y)) ↔ (x ≡ y)
test_answer x y = (λ e. let q : from_bool x ≡ from_bool y = cc in sym (back x) ∙ ap (λ (n : ℕ). eqb n 1) q ∙ back y, ap (λ (t : Bool). Some (from_bool t)))
  where
    back : (t : Bool) → eqb (from_bool t) 1 ≡ t
    back true = refl
    back false = refl

complements : (n a b : ℕ) → a < n → b < n → ltb (n - suc b) (n - suc a) ≡ ltb a b
complements n a b f g =
    ⊎_elim (λ (h : a < b). lt-ltb (n - suc b) (n - suc a) (omega arith) ∙ sym (lt-ltb a b h))
    (λ (h : b ≤ a). le-ltb (n - suc b) (n - suc a) (omega arith) ∙ sym (le-ltb a b h)) (lt-or-ge a b)

module _ (w a b : ℕ) (some-width : 0 < w) (at_most : w ≤ 128) (l : a < 2 ^ w) (m : b < 2 ^ w) where
  -- in w bits
  signed_order : lt_z (signed w a) (signed w b) ≡ bvslt w a b
  signed_order =
      by_tops w a b some-width l m (λ (s t : Bool) (x y : ℤ). lt_z x y ≡ ordered s t (ltb a b))
      (λ f g. refl) (λ f g. refl) (λ f g. refl) (λ f g. complements (2 ^ w) a b l m)

  -- the unsigned order is the signed one where the top bits are equal
  unsigned_order : (ltb a b ≡ bvslt w a b) ↔ (msb w a ≡ msb w b)
  unsigned_order =
      by_tops w a b some-width l m (λ (s t : Bool) (x y : ℤ). (ltb a b ≡ ordered s t (ltb a b)) ↔ (s ≡ t))
      (λ f g. (λ e. refl, λ e. refl))
      (λ f g. (λ e. absurd (false≢true (sym (le-ltb a b (omega arith)) ∙ e)), λ e. absurd (true≢false e)))
      (λ f g. (λ e. absurd (true≢false (sym (lt-ltb a b (omega arith)) ∙ e)), λ e. absurd (false≢true e)))
      (λ f g. (λ e. refl, λ e. refl))

  -- in 128 bits
  pub less_agrees : (lt_z (signed 128 a) (signed 128 b) ≡ bvslt w a b) ↔ ((w ≡ 128) ⊎ (msb w a ≡ msb w b))
  less_agrees =
      ⊎_elim
      (λ (e : w ≡ 128). (λ q. inl e, λ c. subst (λ (v : ℕ). lt_z (signed v a) (signed v b) ≡ bvslt w a b) e signed_order))
      (λ (j : w < 128).
      rw (signed-narrow w 128 a j l, signed-narrow w 128 b j m)
      (λ q. inr (unsigned_order.0 q), ⊎_elim (λ (e : w ≡ 128). absurd (omega arith)) unsigned_order.1))
      (eq-or-lt_of_le at_most)

-- ---- at most is not above

opposite : (s t : Bool) (a b : ℕ) → ordered s t (leb a b) ≡ not (ordered t s (ltb b a))
opposite false false a b = le-not_less (pos a) (pos b) refl
opposite true false a b = refl
opposite false true a b = refl
opposite true true a b = le-not_less (pos a) (pos b) refl

pub at_most-agrees : (w a b : ℕ) → 0 < w → w ≤ 128 → a < 2 ^ w → b < 2 ^ w
    → (le_z (signed 128 a) (signed 128 b) ≡ bvsle w a b) ↔ ((w ≡ 128) ⊎ (msb w a ≡ msb w b))
at_most-agrees w a b p h l m =
    let u = less_agrees w b a p h m l in
    let x : Bool = lt_z (signed 128 b) (signed 128 a) in
    let y : Bool = bvslt w b a in
    rw (le-not_less (signed 128 a) (signed 128 b) refl, opposite (msb w a) (msb w b) a b)
    (λ q. ⊎_map (λ e. e) sym (u.0 (sym (not-not x) ∙ ap not q ∙ not-not y)), λ c. ap not (u.1 (⊎_map (λ e. e) sym c)))

-- When an answer that stands under tests is there, and what it then is. Assumes nothing.
use mathlib.Core.Path.{◌≡◌, refl, ap, sym, ◌∙◌}
use mathlib.Core.Bool.{Bool, true, false, cond, false≢true}
use Rattle.std.specs.Prelude.{Option, Some}
use mathlib.Core.Logic.{◌↔◌}
use Prim.Native.Nat.{ℕ, ◌<◌}
use native.Mathlib.Omega.{arith}
use borrow.Author.Tests.{lt-ltb, ltb-true, ne_eqb}
use lib.Dec.{ltb, eqb}
use Rattle.word.specs.Option.{only, provided, mapped}
use Rattle.range.specs.declared.ScalarType.{ScalarType}
use Rattle.range.specs.declared.ScalarType.TheVariants as ty
use Rattle.range.proofs.Answers.{none-some}
use Rattle.evaluate.specs.Evaluate.{is_integer, by_type, reduced}

-- of a value under two tests
pub given : {A : Type 0} (f : A → ℕ) (t u : Bool) (z : A) (v : ℕ)
    → (mapped f (provided t (only u z)) ≡ Some v) ↔ ((t ≡ true) × (u ≡ true) × (f z ≡ v))
given f true true z v = (λ e. (refl, refl, cc), λ c. ap Some c.2)
given f true false z v = (λ e. absurd (none-some e), λ c. absurd (false≢true c.1))
given f false u z v = (λ e. absurd (none-some e), λ c. absurd (false≢true c.0))

-- n, a quotient or remainder by b, of the type
module _ (t : ScalarType) (b n : ℕ) (same : reduced t n ≡ n) where
  pub divided : (v : ℕ) → (mapped (reduced t) (only (ltb 0 b) n) ≡ Some v) ↔ ((b ≡ 0 → ⊥) × (n ≡ v))
  divided v =
      let g = given (reduced t) true (ltb 0 b) n v in
      (λ q. (λ z. let h : 0 < b = ltb-true 0 b (g.0 q).1 in omega arith, sym same ∙ (g.0 q).2), λ q. g.1 (refl, lt-ltb 0 b (omega arith), same ∙ q.1))

  -- against n, with c for a divisor 0
  pub divided-some : (c : ℕ) → (mapped (reduced t) (only (ltb 0 b) n) ≡ Some (cond (eqb b 0) c n)) ↔ (b ≡ 0 → ⊥)
  divided-some c = (λ q. ((divided (cond (eqb b 0) c n)).0 q).0, λ h. (divided (cond (eqb b 0) c n)).1 (h, rw (ne_eqb b 0 h)))

-- a choice by the type, as a test
pub by_type_lem : (t : ScalarType) (i u : Option ℕ) → by_type t i u ≡ cond (is_integer t) i u
by_type_lem ty.Bool i u = refl
by_type_lem (ty.Bits w) i u = refl
by_type_lem ty.Integer i u = refl

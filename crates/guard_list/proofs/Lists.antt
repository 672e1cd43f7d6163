-- A list that can be taken, and the test of it. Assumes nothing.
use mathlib.Core.Path.{◌≡◌, refl}
use mathlib.Core.Bool.{true, ◌&&◌}
use mathlib.Core.List.{List, [], ◌∷◌}
use Prim.Native.Nat.{ℕ, zero, suc, ◌≤◌}
use native.Mathlib.Omega.{arith}
use borrow.Author.Tests.{eqb-true, eq-eqb, leb-true, le-leb}
use lib.Dec.{eqb, leb}
use lib.ListN.{length, get_or}
use Rattle.range.proofs.Sound.{tests}
use Rattle.guard_list.specs.GuardList.{MOST, are_answers, is_guard_list}

-- each answer is 0 or 1
answers_small : (es : List ℕ) → are_answers es ≡ true → (i : ℕ) → get_or es i 0 ≤ 1
answers_small [] e i = omega arith
answers_small (x ∷ es) e zero = leb-true x 1 (tests (leb x 1) (are_answers es) e).0
answers_small (x ∷ es) e (suc i) = answers_small es (tests (leb x 1) (are_answers es) e).1 i

small_answers : (es : List ℕ) → ((i : ℕ) → get_or es i 0 ≤ 1) → are_answers es ≡ true
small_answers [] s = refl
small_answers (x ∷ es) s = rw (le-leb x 1 (s 0), small_answers es (λ i. s (suc i)))

module _ (cs es : List ℕ) where
  pub list_parts : is_guard_list cs es ≡ true → (length cs ≤ MOST) × (length es ≡ length cs) × ((i : ℕ) → get_or es i 0 ≤ 1)
  unfolding is_guard_list
  list_parts e =
      let a = tests (leb (length cs) MOST) (eqb (length es) (length cs) && are_answers es) e in
      let b = tests (eqb (length es) (length cs)) (are_answers es) a.1 in
      (leb-true (length cs) MOST a.0, eqb-true (length es) (length cs) b.0, answers_small es b.1)

  pub parts_list : length cs ≤ MOST → length es ≡ length cs → ((i : ℕ) → get_or es i 0 ≤ 1) → is_guard_list cs es ≡ true
  unfolding is_guard_list
  parts_list most same small = rw (le-leb (length cs) MOST most, eq-eqb (length es) (length cs) same, small_answers es small)

  pub even : is_guard_list cs es ≡ true → length es ≡ length cs
  even e = (list_parts e).1

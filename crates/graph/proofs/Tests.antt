-- The tests of a node's words by their codes, and the tests of all nodes and of all words. Assumes nothing.
use mathlib.Core.Path.{◌≡◌, refl, sym, ap, ◌∙◌}
use mathlib.Core.Bool.{Bool, true, false, not, cond, ◌&&◌}
use mathlib.Core.List.{List, [], ◌∷◌, ◌++◌}
use mathlib.Core.Logic.{⊎_elim}
use Prim.Native.Nat.{ℕ, zero, suc, ◌+◌, ◌<◌}
use native.Mathlib.Numerals.{add-one}
use native.Mathlib.Omega.{arith}
use borrow.Author.Tests.{ne_eqb, lt-ltb}
use lib.Bits.{bit_or, or_add_and, and_le_r}
use lib.Dec.{ltb, eqb}
use Rattle.std.specs.List.{list_all, range_with_len}
use Rattle.word.proofs.Integer.{lt-or-ge}
use Rattle.evaluate.specs.Operator.{WIDTHS, is_unary_code, is_binary_code}
use Rattle.graph.specs.Layout.{CONSTANT, INPUT, REFINE, EFFECT, SLICE, CONCAT}
use Rattle.graph.specs.WellFormed.{are_fields, is_operation, all_pass, are_zeros}

-- past the codes of the other operations only the operators are left
pub operators : (n code x y z : ℕ) → CONCAT < code
    → is_operation n code x y z
    ≡ cond (is_unary_code code z) (are_fields x n y 1 z WIDTHS) (cond (is_binary_code code) (are_fields x n y n z 1) false)
operators n code x y z h =
    simp (
      ne_eqb code CONSTANT (λ e. omega arith),
      ne_eqb code INPUT (λ e. omega arith),
      ne_eqb code REFINE (λ e. omega arith),
      ne_eqb code EFFECT (λ e. omega arith),
      ne_eqb code SLICE (λ e. omega arith),
      ne_eqb code CONCAT (λ e. omega arith),
    )

-- a number is 0 if it is not above 0
pub zero_test : (n : ℕ) → not (ltb 0 n) ≡ eqb n 0
zero_test zero = refl
zero_test (suc n) = rw (lt-ltb 0 (suc n) (omega arith), ne_eqb (suc n) 0 (λ e. omega arith))

-- ---- a test of all numbers below another: one number more, one that fails, and each by itself

-- one test is that test and no other
pub both_true : (t : Bool) → t ≡ t && true
both_true true = refl
both_true false = refl

both_false : (t : Bool) → t && false ≡ false
both_false true = refl
both_false false = refl

decided : (t : Bool) → (t ≡ false → t ≡ true) → t ≡ true
decided true f = refl
decided false f = f refl

module _ (p : ℕ → Bool) where
  module _ (n : ℕ) where
    pub pass_on : all_pass p n ≡ true → p n ≡ true → all_pass p (n + 1) ≡ true
    pass_on e f = rw (add-one n, e, f)

    pub pass_off : p n ≡ false → (m : ℕ) → n < m → all_pass p m ≡ false
    pass_off e zero h = absurd (omega arith)
    pass_off e (suc m) h =
        ⊎_elim (λ l. rw (pass_off e m l))
        (λ l. let q : m ≡ n = omega arith in rw (q, e) (both_false (all_pass p n)))
        (lt-or-ge n m)

  pub pass_of : (m : ℕ) → all_pass p m ≡ true → (n : ℕ) → n < m → p n ≡ true
  pass_of m e n h = decided (p n) (λ q. q ∙ sym (pass_off n q m h) ∙ e)

  pub all_pass_lem : (m : ℕ) → ((n : ℕ) → n < m → p n ≡ true) → all_pass p m ≡ true
  all_pass_lem zero h = refl
  all_pass_lem (suc m) h = rw (all_pass_lem m (λ n l. h n (omega arith))) (h m (omega arith))

-- ---- the same by chains of iterators

both_assoc : (s t u : Bool) → s && (t && u) ≡ s && t && u
both_assoc true t u = refl
both_assoc false t u = refl

shifted : (q : ℕ → Bool) (n : ℕ) → q 0 && all_pass (λ k. q (suc k)) n ≡ all_pass q (suc n)
shifted q zero = sym (both_true (q 0))
shifted q (suc n) = both_assoc (q 0) (all_pass (λ k. q (suc k)) n) (q (suc n)) ∙ ap (λ (t : Bool). t && q (suc n)) (shifted q n)

passes_from : (p : ℕ → Bool) (n a : ℕ) → list_all p (range_with_len a n) ≡ all_pass (λ k. p (a + k)) n
passes_from p zero a = refl
passes_from p (suc n) a =
    ap (λ (t : Bool). p a && t) (passes_from p n (a + 1))
    ∙ (λ i. p (first i) && all_pass (λ k. p (next k i)) n)
    ∙ shifted (λ k. p (a + k)) n
  where
    first : a ≡ a + 0
    first = omega arith

    next : (k : ℕ) → a + 1 + k ≡ a + suc k
    next k = omega arith

-- `all` over the numbers below n
pub passes : (p : ℕ → Bool) (n : ℕ) → list_all p (range_with_len 0 n) ≡ all_pass p n
passes p n = passes_from p n 0 ∙ (λ i. all_pass (λ k. p (same k i)) n)
  where
    same : (k : ℕ) → 0 + k ≡ k
    same k = omega arith

-- an Or is 0 if both numbers are
or_test : (a b : ℕ) → eqb (bit_or a b) 0 ≡ eqb a 0 && eqb b 0
or_test zero b = refl
or_test (suc a) b =
    rw (ne_eqb (bit_or (suc a) b) 0 (λ e. omega (arith, or_add_and (suc a) b, and_le_r (suc a) b)), ne_eqb (suc a) 0 (λ e. omega arith))

zeros_push : (ws : List ℕ) (w : ℕ) → are_zeros (ws ++ (w ∷ [])) ≡ are_zeros ws && eqb w 0
zeros_push [] w = sym (both_true (eqb w 0))
zeros_push (x ∷ ws) w = ap (λ (t : Bool). eqb x 0 && t) (zeros_push ws w) ∙ both_assoc (eqb x 0) (are_zeros ws) (eqb w 0)

-- a fold by Or: one word more
pub zeros_more : (ws : List ℕ) (ones w : ℕ) → eqb ones 0 ≡ are_zeros ws → eqb (bit_or ones w) 0 ≡ are_zeros (ws ++ (w ∷ []))
zeros_more ws ones w e = or_test ones w ∙ ap (λ (t : Bool). t && eqb w 0) e ∙ sym (zeros_push ws w)

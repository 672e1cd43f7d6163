-- The comparison of keys, and one turn of each loop of the search, as an equation of what is left to do.
use mathlib.Core.Path.{◌≡◌, refl, sym, ap, subst, ◌∙◌}
use mathlib.Core.Bool.{Bool, true, false, cond, ◌&&◌, true≢false, false≢true}
use mathlib.Core.List.{List}
use Rattle.std.specs.Prelude.{None, Some}
use mathlib.Core.Logic.{⊎_elim}
use Prim.Native.Nat.{ℕ, zero, suc, ◌+◌, ◌-◌, ◌*◌, ◌<◌, ◌≤◌}
use native.Mathlib.Nat.{add-zero}
use native.Mathlib.Omega.{arith}
use borrow.Author.Tests.{eq-eqb, ne_eqb}
use lib.Dec.{eqb, lit<}
use lib.ListN.{length, get_or, take, drop}
use lib.Seq.{drop-cons}
use Rattle.std.specs.List.{list_all, range_with_len}
use Rattle.word.proofs.Integer.{lt-or-ge}
use Rattle.graph.specs.Layout.{WORDS, X, KEY, node_start}
use Rattle.graph.specs.Insert.{same_words, same_key, are_apart, lowest}
use Rattle.graph.proofs.Interned.{word_differs}

-- ---- the words of a key

and_cond : (t u : Bool) → t && u ≡ cond t u false
and_cond true u = refl
and_cond false u = refl

-- the words from j on, one by one
same_from : (g ws : List ℕ) (at n j : ℕ) → j + n ≤ length ws
    → list_all (λ k. eqb (get_or g (at + k) 0) (get_or ws k 0)) (range_with_len j n) ≡ same_words g (at + j) (take n (drop j ws))
same_from g ws at zero j h = refl
same_from g ws at (suc n) j h =
    let a : at + (j + 1) ≡ suc (at + j) = omega arith in
    let b : j + 1 ≡ suc j = omega arith in
    rw (drop-cons ws j 0 (omega arith))
    (ap (λ (t : Bool). eqb (get_or g (at + j) 0) (get_or ws j 0) && t) (same_from g ws at n (j + 1) (omega arith) ∙ (λ i. same_words g (a i) (take n (drop (b i) ws))))
    ∙ and_cond (eqb (get_or g (at + j) 0) (get_or ws j 0)) (same_words g (suc (at + j)) (take n (drop (suc j) ws))))

-- `all` over the n words of g from `at` on
pub same_is : (g ws : List ℕ) (at n : ℕ) → n ≤ length ws → list_all (λ k. eqb (get_or g (at + k) 0) (get_or ws k 0)) (range_with_len 0 n) ≡ same_words g at (take n ws)
same_is g ws at n h = same_from g ws at n 0 (omega arith) ∙ ap (λ (m : ℕ). same_words g m (take n ws)) (add-zero at)

-- ---- the numbers from i to n

module _ (p : ℕ → Bool) (i n : ℕ) where
  pub lowest_at : i < n → p i ≡ true → lowest p i (n - i) ≡ Some i
  lowest_at h t = let e : n - i ≡ suc (n - (i + 1)) = omega arith in rw (e, t)

  pub lowest_on : i < n → p i ≡ false → lowest p i (n - i) ≡ lowest p (i + 1) (n - (i + 1))
  lowest_on h t =
      let e : n - i ≡ suc (n - (i + 1)) = omega arith in
      let d : suc i ≡ i + 1 = omega arith in
      rw (e, t) (λ k. lowest p (d k) (n - (i + 1)))

  pub lowest_end : n ≤ i → lowest p i (n - i) ≡ None
  lowest_end h = let e : n - i ≡ 0 = omega arith in rw e

  -- also past the end
  pub lowest_next : p i ≡ false → lowest p i (n - i) ≡ lowest p (i + 1) (n - (i + 1))
  lowest_next t =
      ⊎_elim
      (λ (h : i < n). lowest_on h t)
      (λ (h : n ≤ i). let d : n - i ≡ 0 = omega (arith, h) in let e : n - (i + 1) ≡ 0 = omega (arith, h) in rw (d, e))
      (lt-or-ge i n)

-- ---- nodes with another first field

-- one more behind k of them
pub apart_more : (g : List ℕ) (first k at : ℕ) → are_apart g first at k ≡ true → (get_or g (at + k * WORDS + X) 0 ≡ first → ⊥) → are_apart g first at (suc k) ≡ true
apart_more g first zero at a d =
    let e : at + 0 * WORDS + X ≡ at + X = omega arith in rw (ne_eqb (get_or g (at + X) 0) first (subst (λ (i : ℕ). get_or g i 0 ≡ first → ⊥) e d))
apart_more g first (suc k) at a d = by (apart_more g first k (at + WORDS)) (eqb (get_or g (at + X) 0) first) refl
  where
    on : at + suc k * WORDS + X ≡ at + WORDS + k * WORDS + X
    on = omega arith

    by : (are_apart g first (at + WORDS) k ≡ true → (get_or g (at + WORDS + k * WORDS + X) 0 ≡ first → ⊥) → are_apart g first (at + WORDS) (suc k) ≡ true)
        → (t : Bool) → eqb (get_or g (at + X) 0) first ≡ t → are_apart g first at (suc (suc k)) ≡ true
    by later true q = absurd (false≢true (sym (ap (λ (t : Bool). cond t false (are_apart g first (at + WORDS) k)) q) ∙ a))
    by later false q =
        ap (λ (t : Bool). cond t false (are_apart g first (at + WORDS) (suc k))) q
        ∙ later (sym (ap (λ (t : Bool). cond t false (are_apart g first (at + WORDS) k)) q) ∙ a) (subst (λ (i : ℕ). get_or g i 0 ≡ first → ⊥) on d)

module _ (g ws : List ℕ) (e : ℕ) (l : KEY ≤ length ws) where
  -- none of them has the key: the search from past them has the same answer, also where they reach past its end
  pub lowest_past : (k n : ℕ) → are_apart g (get_or ws X 0) (node_start n) k ≡ true →
      lowest (same_key g ws) n (e - n) ≡ lowest (same_key g ws) (n + k) (e - (n + k))
  lowest_past zero n a = rw add-zero
  lowest_past (suc k) n a = by (lowest_past k (n + 1)) (eqb (get_or g (node_start n + X) 0) (get_or ws X 0)) refl
    where
      next : node_start n + WORDS ≡ node_start (n + 1)
      next = omega arith

      more : (n + 1) + k ≡ n + suc k
      more = omega arith

      by : (are_apart g (get_or ws X 0) (node_start (n + 1)) k ≡ true → lowest (same_key g ws) (n + 1) (e - (n + 1)) ≡ lowest (same_key g ws) ((n + 1) + k) (e - ((n + 1) + k)))
          → (t : Bool) → eqb (get_or g (node_start n + X) 0) (get_or ws X 0) ≡ t → lowest (same_key g ws) n (e - n) ≡ lowest (same_key g ws) (n + suc k) (e - (n + suc k))
      by later true q = absurd (false≢true (sym (ap (λ (t : Bool). cond t false (are_apart g (get_or ws X 0) (node_start n + WORDS) k)) q) ∙ a))
      by later false q =
          let b : are_apart g (get_or ws X 0) (node_start n + WORDS) k ≡ true = sym (ap (λ (t : Bool). cond t false (are_apart g (get_or ws X 0) (node_start n + WORDS) k)) q) ∙ a in
          let d : same_key g ws n ≡ false = word_differs g (node_start n) KEY ws l X (lit< tt) (λ w. true≢false (sym (eq-eqb (get_or g (node_start n + X) 0) (get_or ws X 0) w) ∙ q)) in
          lowest_next (same_key g ws) n e d
          ∙ later (rw (← next) b)
          ∙ ap (λ (m : ℕ). lowest (same_key g ws) m (e - m)) more

  -- the same of k nodes, and j behind them
  pub lowest_past_both : (k j n m at : ℕ) → node_start (n + k) ≡ at → n + k + j ≡ m → are_apart g (get_or ws X 0) (node_start n) k ≡ true → are_apart g (get_or ws X 0) at j ≡ true
      → lowest (same_key g ws) n (e - n) ≡ lowest (same_key g ws) m (e - m)
  lowest_past_both k j n m at d h a b =
      lowest_past k n a
      ∙ lowest_past j (n + k) (rw d b)
      ∙ ap (λ (i : ℕ). lowest (same_key g ws) i (e - i)) h

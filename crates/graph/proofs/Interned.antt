-- What interning finds, and what it makes.
use mathlib.Core.Path.{◌≡◌, refl, sym, ap, ◌∙◌}
use mathlib.Core.Logic.{⊎_elim, ◌↔◌}
use mathlib.Core.Bool.{Bool, true, false, cond}
use mathlib.Core.List.{List, [], ◌∷◌}
use Rattle.std.specs.Prelude.{Option, None, Some}
use Prim.Native.Nat.{ℕ, zero, suc, ◌+◌, ◌≤◌, ◌<◌}
use native.Mathlib.Nat.{eq-or-lt_of_le, add-zero}
use native.Mathlib.Omega.{arith}
use borrow.Author.Tests.{ltb-true, eqb-true, eq-eqb}
use lib.Dec.{ltb, eqb}
use lib.ListN.{length, get_or, take}
use Rattle.range.specs.Interval.{Interval}
use Rattle.range.specs.declared.ScalarType.{ScalarType}
use Rattle.graph.specs.Layout.{WORDS, KEY, LIMIT, REGION, node_start, word_at, count_of}
use Rattle.graph.specs.Node.{Op, words_of}
use Rattle.graph.specs.Insert.{made, id, resolve, same_words, same_key, lowest, interned, appended, found_or, inserted}
use Rattle.graph.proofs.Nodes.{length-words, appended-length, appended_full}

-- ---- the lowest number that passes a test

-- of the numbers from i up to j, n is the first that passes
abbrev pub First : (ℕ → Bool) → ℕ → ℕ → ℕ → Type 0
First p i j n = (i ≤ n) × (n < j) × (p n ≡ true) × ((m : ℕ) → i ≤ m → m < n → p m ≡ false)

module _ (p : ℕ → Bool) where
  -- what is found is the first that passes
  pub lowest-some : (i k n : ℕ) → lowest p i k ≡ Some n → First p i (i + k) n
  lowest-some i zero n e = let z : ◌≡◌ {A = ℕ} 0 1 = cc in absurd (omega arith)
  lowest-some i (suc k) n e = by (p i) refl (lowest-some (suc i) k n) e
    where
      by : (t : Bool) → p i ≡ t → (lowest p (suc i) k ≡ Some n → First p (suc i) (suc i + k) n)
          → cond t (Some i) (lowest p (suc i) k) ≡ Some n → First p i (i + suc k) n
      by true t later e = let d : i ≡ n = cc in (omega arith, omega arith, ap p (sym d) ∙ t, λ m a b. absurd (omega arith))
      by false t later e =
          let r = later e in
          (omega arith, omega arith, r.2, λ m a b. ⊎_elim (λ d. ap p (sym d) ∙ t) (λ l. r.3 m l b) (eq-or-lt_of_le a))

  -- where nothing is found, none passes
  pub lowest-none : (i k : ℕ) → lowest p i k ≡ None → (m : ℕ) → i ≤ m → m < i + k → p m ≡ false
  lowest-none i zero e m a b = absurd (omega arith)
  lowest-none i (suc k) e m a b = by (p i) refl (λ f l. lowest-none (suc i) k f m l (omega arith)) e
    where
      by : (t : Bool) → p i ≡ t → (lowest p (suc i) k ≡ None → i < m → p m ≡ false) → cond t (Some i) (lowest p (suc i) k) ≡ None → p m ≡ false
      by true t later e = let z : ◌≡◌ {A = ℕ} 0 1 = cc in absurd (omega arith)
      by false t later e = ⊎_elim (λ d. ap p (sym d) ∙ t) (later e) (eq-or-lt_of_le a)

-- ---- the key of a node

-- where the words are the same, each of them is
each_word : (g : List ℕ) (at n : ℕ) (ws : List ℕ) → n ≤ length ws → same_words g at (take n ws) ≡ true → (k : ℕ) → k < n → get_or g (at + k) 0 ≡ get_or ws k 0
each_word g at zero ws l e k h = absurd (omega arith)
each_word g at (suc n) [] l e k h = absurd (omega arith)
each_word g at (suc n) (w ∷ ws) l e k h = by (eqb (get_or g at 0) w) refl (λ f. each_word g (suc at) n ws (omega arith) f) e k h
  where
    by : (t : Bool) → eqb (get_or g at 0) w ≡ t
        → (same_words g (suc at) (take n ws) ≡ true → (k : ℕ) → k < n → get_or g (suc at + k) 0 ≡ get_or ws k 0)
        → cond t (same_words g (suc at) (take n ws)) false ≡ true
        → (k : ℕ) → k < suc n → get_or g (at + k) 0 ≡ get_or (w ∷ ws) k 0
    by false t later e k h = let z : ◌≡◌ {A = ℕ} 0 1 = cc in absurd (omega arith)
    by true t later e zero h = rw add-zero (eqb-true (get_or g at 0) w t)
    by true t later e (suc k) h = let d : at + suc k ≡ suc at + k = omega arith in rw d (later e k (omega arith))

-- where one word differs, the words are not the same
pub word_differs : (g : List ℕ) (at n : ℕ) (ws : List ℕ) → n ≤ length ws → (k : ℕ) → k < n → (get_or g (at + k) 0 ≡ get_or ws k 0 → ⊥)
    → same_words g at (take n ws) ≡ false
word_differs g at n ws l k h d = by (same_words g at (take n ws)) refl
  where
    by : (t : Bool) → same_words g at (take n ws) ≡ t → same_words g at (take n ws) ≡ false
    by true e = absurd (d (each_word g at n ws l e k h))
    by false e = e

-- and where each of them is, the words are
all_words : (g : List ℕ) (at n : ℕ) (ws : List ℕ) → ((k : ℕ) → k < n → get_or g (at + k) 0 ≡ get_or ws k 0) → same_words g at (take n ws) ≡ true
all_words g at zero ws each = refl
all_words g at (suc n) [] each = refl
all_words g at (suc n) (w ∷ ws) each =
    let e : get_or g at 0 ≡ w = rw add-zero at (each 0 (omega arith)) in
    rw (eq-eqb (get_or g at 0) w e)
    (all_words g (suc at) n ws (λ k h. let d : suc at + k ≡ at + suc k = omega arith in rw d (each (suc k) (omega arith))))

-- a node has the key of the words where each word of its key is theirs
pub same_key_lem : (g ws : List ℕ) (n : ℕ) → length ws ≡ WORDS → (same_key g ws n ≡ true) ↔ ((k : ℕ) → k < KEY → word_at g n k ≡ get_or ws k 0)
same_key_lem g ws n l = (each_word g (node_start n) KEY ws (omega arith), all_words g (node_start n) KEY ws)

-- ---- a node that is found, and a new one

length-appended : (g ws : List ℕ) → length g ≡ REGION → length ws ≡ WORDS → length (appended g ws).words ≡ REGION
length-appended g ws l w = by (ltb (count_of g) LIMIT) refl
  where
    by : (t : Bool) → ltb (count_of g) LIMIT ≡ t → length (appended g ws).words ≡ REGION
    by true t = appended-length g ws l w (ltb-true (count_of g) LIMIT t)
    by false t = rw (appended_full g ws t) l

module _ (g : List ℕ) (t : ScalarType) (r : Option Interval) (o : Op) where
  pub inserted-found : (n : ℕ) → interned g o (words_of t r o) ≡ Some n → inserted g t r o ≡ made (id (resolve g n)) g
  unfolding inserted
  inserted-found n e = ap (λ (x : Option ℕ). found_or g x (appended g (words_of t r o))) e

  pub inserted_new : interned g o (words_of t r o) ≡ None → inserted g t r o ≡ appended g (words_of t r o)
  unfolding inserted
  inserted_new e = ap (λ (x : Option ℕ). found_or g x (appended g (words_of t r o))) e

  -- neither changes the length of the region
  pub length_inserted : length g ≡ REGION → length (inserted g t r o).words ≡ REGION
  unfolding inserted
  length_inserted l = by (interned g o (words_of t r o))
    where
      by : (x : Option ℕ) → length (found_or g x (appended g (words_of t r o))).words ≡ REGION
      by None = length-appended g (words_of t r o) l (length-words t r o)
      by (Some n) = l

-- What question 1 says of the marks: the counts rise with the marks up to the graph's, and the alias words pass. Assumes nothing.
use mathlib.Core.Path.{◌≡◌, refl, subst}
use mathlib.Core.Bool.{Bool, true, false, ◌&&◌}
use mathlib.Core.List.{List}
use mathlib.Core.Logic.{⊎_elim}
use Prim.Native.Nat.{ℕ, zero, suc, ◌<◌, ◌≤◌}
use native.Mathlib.Nat.{le_refl}
use native.Mathlib.Omega.{arith}
use borrow.Author.Tests.{eqb-true, leb-true, eq-eqb, ne_eqb, le-leb}
use lib.Dec.{eqb, leb}
use lib.ListN as list
use lib.ListN.{get_or, take}
use lib.Seq.{get_or-take, length-take-le}
use Rattle.word.proofs.Integer.{lt-or-ge}
use Rattle.range.proofs.Sound.{tests}
use Rattle.graph.specs.Layout.{REGION, count_of}
use Rattle.graph.specs.WellFormed.{is_alias, all_pass, is_graph}
use Rattle.graph.proofs.Grown.{Graph, graph_facts}
use Rattle.graph.proofs.Tests.{pass_of, all_pass_lem}
use Rattle.mark.specs.Layout.{MOST, MARKS, standing, count_at, aliases_at}
use Rattle.mark.specs.WellFormed.{are_aliases, is_mark, are_first, are_marks, is_marked}

-- the first k marks, the last of at most so many nodes
pub record First (limit : ℕ) (m : List ℕ) (s : ℕ) : Type 0 where
  pub fewer : (k : ℕ) → k < s → count_at m k ≤ limit
  pub rising : (j k : ℕ) → j ≤ k → k < s → count_at m j ≤ count_at m k
  pub aliases : (k : ℕ) → k < s → (i : ℕ) → i < count_at m k → is_alias i (count_at m k) (get_or (aliases_at m k) i 0) ≡ true

-- what holds of the last of some marks, and of those before it, holds of each
last_or : (P : ℕ → Type 0) (s : ℕ) → P s → ((k : ℕ) → k < s → P k) → (k : ℕ) → k < suc s → P k
last_or P s a b k l = ⊎_elim (b k) (λ (q : s ≤ k). let e : s ≡ k = omega arith in subst P e a) (lt-or-ge k s)

pub first_facts : (limit : ℕ) (m : List ℕ) (s : ℕ) → are_first limit m s ≡ true → First limit m s
first_facts limit m zero e = record { fewer = λ k l. absurd (omega arith); rising = λ j k p l. absurd (omega arith); aliases = λ k l. absurd (omega arith) }
first_facts limit m (suc s) e =
    let d = tests (is_mark limit m s) (are_first (count_at m s) m s) e in
    let h = tests (leb (count_at m s) limit) (are_aliases (aliases_at m s) (count_at m s)) d.0 in
    let f = first_facts (count_at m s) m s d.1 in
    let p : count_at m s ≤ limit = leb-true (count_at m s) limit h.0 in
    record {
      fewer = last_or (λ k. count_at m k ≤ limit) s p (λ k l. let q = f.fewer k l in omega arith);
      rising = λ j k q l.
          last_or (λ k. j ≤ k → count_at m j ≤ count_at m k) s
          (λ r. last_or (λ i. count_at m i ≤ count_at m s) s (le_refl (count_at m s)) f.fewer j (omega arith))
          (λ i b r. f.rising j i r b) k l q;
      aliases = last_or (λ k. (i : ℕ) → i < count_at m k → is_alias i (count_at m k) (get_or (aliases_at m k) i 0) ≡ true) s
          (pass_of (λ i. is_alias i (count_at m s) (get_or (aliases_at m s) i 0)) (count_at m s) h.1)
          f.aliases;
    }

pub facts_first : (limit : ℕ) (m : List ℕ) (s : ℕ) → First limit m s → are_first limit m s ≡ true
facts_first limit m zero f = refl
facts_first limit m (suc s) f =
    rw (
      le-leb (count_at m s) limit (f.fewer s (omega arith)),
      all_pass_lem (λ i. is_alias i (count_at m s) (get_or (aliases_at m s) i 0)) (count_at m s) (f.aliases s (omega arith)),
    )
    (facts_first (count_at m s) m s (record {
      fewer = λ k l. f.rising k s (omega arith) (omega arith);
      rising = λ j k p l. f.rising j k p (omega arith);
      aliases = λ k l. f.aliases k (omega arith);
    }))

-- the marks of a graph with so many nodes
pub record Marks (nodes : ℕ) (m : List ℕ) : Type 0 where
  pub length : list.length m ≡ MARKS
  pub most : standing m ≤ MOST
  pub first : First nodes m (standing m)

pub marks_facts : (nodes : ℕ) (m : List ℕ) → are_marks nodes m ≡ true → Marks nodes m
unfolding are_marks
marks_facts nodes m e =
    let d = tests (eqb (list.length m) MARKS) _ e in
    let f = tests (leb (standing m) MOST) _ d.1 in
    record {
      length = eqb-true (list.length m) MARKS d.0;
      most = leb-true (standing m) MOST f.0;
      first = first_facts nodes m (standing m) f.1;
    }

pub facts_marks : (nodes : ℕ) (m : List ℕ) → Marks nodes m → are_marks nodes m ≡ true
unfolding are_marks
facts_marks nodes m f = rw (eq-eqb (list.length m) MARKS f.length, le-leb (standing m) MOST f.most) (facts_first nodes m (standing m) f.first)

-- more nodes
pub first_more : {limit : ℕ} (more : ℕ) {m : List ℕ} {s : ℕ} → limit ≤ more → First limit m s → First more m s
first_more more l f = record { fewer = λ k p. let q = f.fewer k p in omega arith; rising = f.rising; aliases = f.aliases }

pub marks_more : {nodes : ℕ} (more : ℕ) {m : List ℕ} → nodes ≤ more → Marks nodes m → Marks more m
marks_more more l f = record { length = f.length; most = f.most; first = first_more more l f.first }

-- ---- question 1 of both regions

pub marked_both : (g m : List ℕ) → is_marked g m ≡ true → (is_graph g ≡ true) × (are_marks (count_of g) m ≡ true)
unfolding is_marked
marked_both g m e = tests (is_graph g) (are_marks (count_of g) m) e

pub both_marked : (g m : List ℕ) → is_graph g ≡ true → are_marks (count_of g) m ≡ true → is_marked g m ≡ true
unfolding is_marked
both_marked g m a b = rw (a, b)

-- ---- the loop over the marks

-- one mark less
pub first_on : (limit : ℕ) (m : List ℕ) (j k : ℕ) → k ≡ suc j → is_mark limit m j ≡ true → are_first limit m k ≡ are_first (count_at m j) m j
first_on limit m j k q e = rw (q, e)

-- one that is no mark
pub first_off : (limit : ℕ) (m : List ℕ) (j k : ℕ) → k ≡ suc j → is_mark limit m j ≡ false → are_first limit m k ≡ false
first_off limit m j k q e = rw (q, e)

pub mark_fewer : (limit : ℕ) (m : List ℕ) (k : ℕ) → is_mark limit m k ≡ true → count_at m k ≤ limit
mark_fewer limit m k e = leb-true (count_at m k) limit (tests (leb (count_at m k) limit) (are_aliases (aliases_at m k) (count_at m k)) e).0

-- what is left to test once there is room for the marks
pub marks_are : (nodes : ℕ) (m : List ℕ) → list.length m ≡ MARKS → standing m ≤ MOST → are_marks nodes m ≡ are_first nodes m (standing m)
unfolding are_marks
marks_are nodes m e l = rw (eq-eqb (list.length m) MARKS e, le-leb (standing m) MOST l)

-- ---- the alias words of a mark's nodes alone

taken_pass : (ws : List ℕ) (n m : ℕ) → m ≤ n → all_pass (λ i. is_alias i n (get_or (take n ws) i 0)) m ≡ all_pass (λ i. is_alias i n (get_or ws i 0)) m
taken_pass ws n zero h = refl
taken_pass ws n (suc m) h = rw (taken_pass ws n m (omega arith), get_or-take n ws m 0 (omega arith))

pub aliases_taken : (ws : List ℕ) (n : ℕ) → n ≤ list.length ws → are_aliases (take n ws) (list.length (take n ws)) ≡ are_aliases ws n
aliases_taken ws n h = rw (length-take-le n ws h) (taken_pass ws n n (le_refl n))

-- ---- both regions

pub regions_facts : (g m : List ℕ) → is_marked g m ≡ true → Graph g × Marks (count_of g) m
regions_facts g m e = let d = marked_both g m e in (graph_facts g d.0, marks_facts (count_of g) m d.1)

-- ---- a slice of another length

pub short_graph : (g m : List ℕ) → (list.length g ≡ REGION → ⊥) → is_marked g m ≡ false
unfolding is_marked is_graph
short_graph g m h = rw (ne_eqb _ REGION h)

pub short_marks : (g m : List ℕ) → (list.length m ≡ MARKS → ⊥) → is_marked g m ≡ false
unfolding is_marked are_marks
short_marks g m h = rw (ne_eqb _ MARKS h) (no_second (is_graph g))
  where
    no_second : (b : Bool) → b && false ≡ false
    no_second true = refl
    no_second false = refl

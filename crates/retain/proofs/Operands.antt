-- Operands: those of a graph's node lie below it, and what question 6 says of them. Assumes nothing.
use mathlib.Core.Path.{◌≡◌, refl}
use mathlib.Core.Bool.{Bool, true, false, cond, false≢true, ◌&&◌}
use mathlib.Core.List.{List, [], ◌∷◌}
use mathlib.Core.Logic.{⊎_elim}
use Prim.Native.Nat.{ℕ, zero, suc, ◌<◌, ◌≤◌}
use native.Mathlib.Omega.{arith}
use borrow.Author.Tests.{eqb-true, leb-true, ne_eqb, lt-ltb, le-ltb, le-leb, lt-leb}
use lib.Dec.{eqb, ltb, leb}
use lib.ListN.{length, get_or}
use Rattle.word.proofs.Integer.{lt-or-ge}
use Rattle.range.proofs.Sound.{tests, either}
use Rattle.evaluate.specs.Operator.{BINARY, unary_of, binary_of}
use Rattle.graph.specs.Layout.{REFINE, SLICE, CONCAT, OPERATION, X, Y, Z, word_at, count_of}
use Rattle.graph.specs.Node as node
use Rattle.graph.specs.Node.{narrow, operation_of}
use Rattle.graph.specs.Insert.{start}
use Rattle.graph.proofs.Codes.{operator}
use Rattle.graph.proofs.Grown.{Graph, start_le}
use Rattle.graph.proofs.Tests.{pass_of}
use Rattle.retain.specs.Retain.{through, renamed, is_kept, has_first, has_second, operands_at, are_kept, is_allowed, is_keep_list}

-- ---- the first operand

first_start : (code x y z : ℕ) → has_first code ≡ true → x < start (operation_of code x y z)
first_start zero x y z e = absurd (false≢true e)
first_start (suc zero) x y z e = absurd (false≢true e)
first_start (suc (suc zero)) x y z e = omega arith
first_start (suc (suc (suc zero))) x y z e = absurd (false≢true e)
first_start (suc (suc (suc (suc zero)))) x y z e = omega arith
first_start (suc (suc (suc (suc (suc zero))))) x y z e = omega arith
first_start (suc (suc (suc (suc (suc (suc c)))))) x y z e =
    let code = suc (suc (suc (suc (suc (suc c))))) in
    rw (operator code x y z (omega arith)) (by (ltb code BINARY))
  where
    by : (t : Bool) → x < start (cond t (node.unary (unary_of (suc (suc (suc (suc (suc (suc c)))))) (narrow z)) x) (node.binary (binary_of (suc (suc (suc (suc (suc (suc c))))))) x y))
    by true = omega arith
    by false = omega arith

-- ---- the second

second_start : (code x y z : ℕ) → has_second code ≡ true → y < start (operation_of code x y z)
second_start zero x y z e = absurd (false≢true e)
second_start (suc zero) x y z e = absurd (false≢true e)
second_start (suc (suc zero)) x y z e = absurd (false≢true e)
second_start (suc (suc (suc zero))) x y z e = absurd (false≢true e)
second_start (suc (suc (suc (suc zero)))) x y z e = absurd (false≢true e)
second_start (suc (suc (suc (suc (suc zero))))) x y z e = omega arith
second_start (suc (suc (suc (suc (suc (suc c)))))) x y z e =
    let code = suc (suc (suc (suc (suc (suc c))))) in
    let l : BINARY ≤ code = leb-true BINARY code (rw (ne_eqb code CONCAT (λ q. omega arith)) at e) in
    rw (operator code x y z (omega arith), le-ltb code BINARY l) (omega arith)

-- with a second operand there is a first
second_first : (code : ℕ) → has_second code ≡ true → has_first code ≡ true
second_first code e =
    let l : SLICE ≤ code = ⊎_elim (λ q. let c = eqb-true code CONCAT q in omega arith) (λ q. omega (arith, leb-true BINARY code q)) (either (eqb code CONCAT) (leb BINARY code) e) in
    rw (ne_eqb code REFINE (λ q. omega arith), le-leb SLICE code l)

-- ---- operands read through a mapping

pub renamed-operation : (f : ℕ → ℕ) (code x y z : ℕ)
    → operation_of code (through f (has_first code) x) (through f (has_second code) y) z ≡ renamed f (operation_of code x y z)
renamed-operation f zero x y z = refl
renamed-operation f (suc zero) x y z = refl
renamed-operation f (suc (suc zero)) x y z = refl
renamed-operation f (suc (suc (suc zero))) x y z = refl
renamed-operation f (suc (suc (suc (suc zero)))) x y z = refl
renamed-operation f (suc (suc (suc (suc (suc zero))))) x y z = refl
renamed-operation f (suc (suc (suc (suc (suc (suc c)))))) x y z =
    let code = suc (suc (suc (suc (suc (suc c))))) in
    let l : CONCAT < code = omega arith in
    let a : has_first code ≡ true = rw (ne_eqb code REFINE (λ q. omega arith), le-leb SLICE code (omega arith)) in
    ⊎_elim
    (λ (s : code < BINARY).
    let b : has_second code ≡ false = rw (ne_eqb code CONCAT (λ q. omega arith), lt-leb BINARY code s) in
    rw (a, b, operator code (f x) y z l, operator code x y z l, lt-ltb code BINARY s))
    (λ (s : BINARY ≤ code).
    let b : has_second code ≡ true = rw (ne_eqb code CONCAT (λ q. omega arith), le-leb BINARY code s) in
    rw (a, b, operator code (f x) (f y) z l, operator code x y z l, le-ltb code BINARY s))
    (lt-or-ge code BINARY)

-- ---- in a graph

module _ {g : List ℕ} (f : Graph g) (n : ℕ) (h : n < count_of g) where
  pub first_below : has_first (word_at g n OPERATION) ≡ true → word_at g n X < n
  first_below e = omega (arith, first_start (word_at g n OPERATION) (word_at g n X) (word_at g n Y) (word_at g n Z) e, start_le f n h)

  pub second_below : has_second (word_at g n OPERATION) ≡ true → word_at g n Y < n
  second_below e = omega (arith, second_start (word_at g n OPERATION) (word_at g n X) (word_at g n Y) (word_at g n Z) e, start_le f n h)

-- ---- question 6

pub record KeepList (g keep mapping : List ℕ) : Type 0 where
  pub keeps : length keep ≡ count_of g
  pub ids : length mapping ≡ count_of g
  pub closed : (n : ℕ) → n < count_of g → is_kept keep n ≡ true → are_kept keep (operands_at g n) ≡ true

pub keep_list_facts : (g keep mapping : List ℕ) → is_keep_list g keep mapping ≡ true → KeepList g keep mapping
unfolding is_keep_list
keep_list_facts g keep mapping e =
    let d = tests (eqb (length keep) (count_of g)) _ e in
    let f = tests (eqb (length mapping) (count_of g)) _ d.1 in
    record {
      keeps = eqb-true (length keep) (count_of g) d.0;
      ids = eqb-true (length mapping) (count_of g) f.0;
      closed = λ n h k. allowed n k (pass_of (is_allowed g keep) (count_of g) f.1 n h);
    }
  where
    allowed : (n : ℕ) → is_kept keep n ≡ true → is_allowed g keep n ≡ true → are_kept keep (operands_at g n) ≡ true
    allowed n k a =
        let o : get_or keep n 0 ≡ 1 = eqb-true (get_or keep n 0) 1 k in
        ⊎_elim (λ z. let q : get_or keep n 0 ≡ 0 = eqb-true (get_or keep n 0) 0 z in absurd (omega arith))
        (λ b. (tests (is_kept keep n) (are_kept keep (operands_at g n)) b).1)
        (either (eqb (get_or keep n 0) 0) (is_kept keep n && are_kept keep (operands_at g n)) a)

module _ {g keep mapping : List ℕ} (d : KeepList g keep mapping) (n : ℕ) (h : n < count_of g) (k : is_kept keep n ≡ true) where
  pub first_kept : has_first (word_at g n OPERATION) ≡ true → is_kept keep (word_at g n X) ≡ true
  first_kept e = (tests (is_kept keep (word_at g n X)) _ (rw e at (d.closed n h k))).0

  pub second_kept : has_second (word_at g n OPERATION) ≡ true → is_kept keep (word_at g n Y) ≡ true
  second_kept e =
      let a : are_kept keep (word_at g n X ∷ word_at g n Y ∷ []) ≡ true = rw (second_first (word_at g n OPERATION) e, e) at (d.closed n h k) in
      (tests (is_kept keep (word_at g n Y)) true (tests (is_kept keep (word_at g n X)) _ a).1).0

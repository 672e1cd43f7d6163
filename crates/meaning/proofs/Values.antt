-- A node's value hangs on the types and operations up to it and on nothing else. Assumes nothing.
use mathlib.Core.Path.{◌≡◌, refl, sym, ap, ◌∙◌}
use mathlib.Core.Bool.{Bool, true, false}
use mathlib.Core.List.{List, [], ◌∷◌, ◌++◌}
use Rattle.std.specs.Prelude.{Option, None, Some}
use Prim.Native.Nat.{ℕ, zero, suc, ◌+◌, ◌≤◌, ◌<◌}
use native.Mathlib.Decide.{dec_lt}
use native.Mathlib.Numerals.{add-one}
use native.Mathlib.Omega.{arith}
use borrow.Author.Tests.{lt-ltb, ltb-true}
use lib.Dec.{ltb}
use lib.ListN.{length, get_or, length-append, get_or-append}
use lib.Seq.{get_or_at}
use Rattle.word.specs.Option.{from_bool}
use Rattle.range.specs.declared.ScalarType.{ScalarType}
use Rattle.range.proofs.Answers.{none-some, some_is, provided_is}
use Rattle.evaluate.specs.Evaluate.{unary_value, binary_value}
use Rattle.graph.specs.Node as node
use Rattle.graph.specs.Node.{Op, type_at, operation_at}
use Rattle.graph.specs.Insert.{start}
use Rattle.meaning.specs.Value.{Env, size, of_type, and_then, Operand, operation_means, missing, operands, value, operand}

-- ---- defined values

-- a defined value of a type
pub typed_is : (t : ScalarType) (x v : ℕ) → of_type t x ≡ Some v → (v ≡ x) × (v < size t)
unfolding of_type
typed_is t x v e =
    let p = provided_is (ltb x (size t)) (Some x) e in
    let s : v ≡ x = sym (some_is p.1) in
    (s, rw s (ltb-true x (size t) p.0))

pub typed_of : (t : ScalarType) (x : ℕ) → x < size t → of_type t x ≡ Some x
unfolding of_type
typed_of t x l = rw (lt-ltb x (size t) l)

-- a test as a number is a Bool
pub truth_small : (b : Bool) → from_bool b < 2
truth_small true = omega arith
truth_small false = omega arith

pub then_is : (a : Option ℕ) (f : ℕ → Option ℕ) (v : ℕ) → and_then a f ≡ Some v → (x : ℕ) × (a ≡ Some x) × (f x ≡ Some v)
then_is None f v e = absurd (none-some e)
then_is (Some x) f v e = (x, refl, e)

-- a value that is of the type stays
pub then_typed : (t : ScalarType) (a : Option ℕ) → ((x : ℕ) → a ≡ Some x → x < size t) → and_then a (of_type t) ≡ a
then_typed t None h = refl
then_typed t (Some x) h = typed_of t x (h x refl)

-- ---- values by the nodes below

module _ (ρ : Env) (g h : List ℕ) where
  operands_same : (m : ℕ) → ((i : ℕ) → i < m → type_at h i ≡ type_at g i) → ((i : ℕ) → i < m → operation_at h i ≡ operation_at g i)
      → operands ρ h m ≡ operands ρ g m
  unfolding operands
  operands_same zero t o = refl
  operands_same (suc m) t o =
      let below = operands_same m (λ i l. t i (omega arith)) (λ i l. o i (omega arith)) in
      (λ k. below k
      ++ (record {
        type = t m (omega arith) k;
        val = operation_means ρ (t m (omega arith) k) (o m (omega arith) k) (λ i. get_or (below k) i missing);
      } ∷ []))

  pub value_same : (n : ℕ) → ((i : ℕ) → i ≤ n → type_at h i ≡ type_at g i) → ((i : ℕ) → i ≤ n → operation_at h i ≡ operation_at g i)
      → value ρ h n ≡ value ρ g n
  unfolding value
  value_same n t o =
      (λ k. operation_means ρ (t n (omega arith) k) (o n (omega arith) k)
      (λ i. get_or (operands_same n (λ j l. t j (omega arith)) (λ j l. o j (omega arith)) k) i missing))

module _ (ρ : Env) (g : List ℕ) where
  operands-length : (m : ℕ) → length (operands ρ g m) ≡ m
  unfolding operands
  operands-length zero = refl
  operands-length (suc m) = length-append (operands ρ g m) _ ∙ ap (λ (n : ℕ). n + 1) (operands-length m) ∙ add-one m

  operands_at_lem : (m i : ℕ) → i < m → get_or (operands ρ g m) i missing ≡ operand ρ g i
  unfolding operands value
  operands_at_lem zero i l = absurd (omega arith)
  operands_at_lem (suc m) i l = go (dec_lt i m) (λ q. operands_at_lem m i q)
    where
      go : Dec (i < m) → (i < m → get_or (operands ρ g m) i missing ≡ operand ρ g i) → get_or (operands ρ g (suc m)) i missing ≡ operand ρ g i
      go (yes q) ih = get_or-append (operands ρ g m) _ missing i (omega (arith, operands-length m)) ∙ ih q
      go (no q) ih = let e : m ≡ i = omega arith in rw (← e) (get_or_at (operands ρ g m) _ [] missing m (operands-length m))

-- ---- a value of the values of the operands

pub means_same : (ρ : Env) (t : ScalarType) (n : ℕ) (o : Op) → start o ≤ n → (f h : ℕ → Operand) → ((i : ℕ) → i < n → f i ≡ h i)
    → operation_means ρ t o f ≡ operation_means ρ t o h
means_same ρ t n (node.constant c) b f h e = refl
means_same ρ t n (node.input i) b f h e = refl
means_same ρ t n (node.refine i) b f h e = rw (e i (omega arith))
means_same ρ t n (node.effect i) b f h e = refl
means_same ρ t n (node.slice i o w) b f h e = rw (e i (omega arith))
means_same ρ t n (node.concat i j v) b f h e = rw (e i (omega arith), e j (omega arith))
means_same ρ t n (node.unary u i) b f h e = rw (e i (omega arith))
means_same ρ t n (node.binary o i j) b f h e = rw (e i (omega arith), e j (omega arith))

pub value_step : (ρ : Env) (g : List ℕ) (n : ℕ) → start (operation_at g n) ≤ n
    → value ρ g n ≡ operation_means ρ (type_at g n) (operation_at g n) (operand ρ g)
unfolding value
value_step ρ g n b = means_same ρ (type_at g n) n (operation_at g n) b _ (operand ρ g) (λ i l. operands_at_lem ρ g n i l)

-- a defined value is of its node's type
pub means_small : (ρ : Env) (t : ScalarType) (o : Op) (f : ℕ → Operand) (v : ℕ) → operation_means ρ t o f ≡ Some v → v < size t
means_small ρ t (node.constant c) f v e = (typed_is t _ v e).1
means_small ρ t (node.input i) f v e = (typed_is t _ v e).1
means_small ρ t (node.refine i) f v e = (typed_is t _ v (then_is (f i).val _ v e).2).1
means_small ρ t (node.effect i) f v e = (typed_is t _ v e).1
means_small ρ t (node.slice i o w) f v e = (typed_is t _ v (then_is (f i).val _ v e).2).1
means_small ρ t (node.concat i j k) f v e = (typed_is t _ v (then_is (f j).val _ v (then_is (f i).val _ v e).2).2).1
means_small ρ t (node.unary u i) f v e =
    let p = then_is (f i).val _ v e in
    (typed_is t _ v (then_is (unary_value u p.0) _ v p.2).2).1
means_small ρ t (node.binary o i j) f v e =
    let p = then_is (f i).val _ v e in
    let q = then_is (f j).val _ v p.2 in
    (typed_is t _ v (then_is (binary_value o t p.0 q.0) _ v q.2).2).1

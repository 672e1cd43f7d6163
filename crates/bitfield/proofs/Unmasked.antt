-- Two nodes that are no binary operations have no masked comparison. Assumes nothing.
use mathlib.Core.Path.{◌≡◌, refl}
use mathlib.Core.Bool.{Bool, true, false, cond}
use mathlib.Core.List.{List}
use Rattle.std.specs.Prelude.{None, Some}
use Prim.Native.Nat.{ℕ}
use lib.Dec.{eqb, ltb}
use Rattle.word.specs.Option.{given}
use Rattle.range.specs.declared.ScalarType.{ScalarType}
use Rattle.range.specs.declared.ScalarType.TheVariants as ty
use Rattle.evaluate.specs.declared.Binary.{Binary}
use Rattle.evaluate.specs.Operator.{BINARY}
use Rattle.graph.specs.Layout.{OPERATION, X, Y, Z, CONSTANT, INPUT, REFINE, EFFECT, SLICE, CONCAT, word_at}
use Rattle.graph.specs.Node.{operation_of, type_at}
use Rattle.fold.specs.Shape.{same_type, by_constant_of, by_constant_at}
use Rattle.bitfield.specs.Bitfield.{PairFold, next, end, update_of, update_at, fold_update, fold_typed, fold_pair, fold_masked_comparison}

either : {A B : Type 0} (f : A → B) (b : B) (t : Bool) {x y : A} → f x ≡ b → f y ≡ b → f (cond t x y) ≡ b
either f b true p q = p
either f b false p q = q

-- the operation of such a code is none with a constant
by_none : (g : List ℕ) (code x y z : ℕ) → ltb code BINARY ≡ true → by_constant_of g (operation_of code x y z) ≡ None
by_none g code x y z h =
    rw h
    (either (by_constant_of g) None (eqb code CONSTANT) refl
    (either (by_constant_of g) None (eqb code INPUT) refl
    (either (by_constant_of g) None (eqb code REFINE) refl
    (either (by_constant_of g) None (eqb code EFFECT) refl
    (either (by_constant_of g) None (eqb code SLICE) refl (either (by_constant_of g) None (eqb code CONCAT) refl refl))))))

-- and an update that sets nothing
update_same : (g : List ℕ) (n code x y z : ℕ) → ltb code BINARY ≡ true → update_of g n (operation_of code x y z) ≡ Some (record { preserved = n; literal = 0 })
update_same g n code x y z h =
    rw h
    (either (update_of g n) _ (eqb code CONSTANT) refl
    (either (update_of g n) _ (eqb code INPUT) refl
    (either (update_of g n) _ (eqb code REFINE) refl
    (either (update_of g n) _ (eqb code EFFECT) refl
    (either (update_of g n) _ (eqb code SLICE) refl (either (update_of g n) _ (eqb code CONCAT) refl refl))))))

update_next : (g : List ℕ) (o : Binary) (base n w : ℕ) → ltb (word_at g n OPERATION) BINARY ≡ true → given (update_at g n) (λ u. fold_update g o base w u) end ≡ next
unfolding update_at by_constant_at
update_next g o base n w h =
    rw (update_same g n (word_at g n OPERATION) (word_at g n X) (word_at g n Y) (word_at g n Z) h, by_none g (word_at g n OPERATION) (word_at g n X) (word_at g n Y) (word_at g n Z) h)

typed_next : (g : List ℕ) (o : Binary) (base n : ℕ) (t : ScalarType) → ltb (word_at g n OPERATION) BINARY ≡ true → fold_typed g o base n t ≡ next
typed_next g o base n ty.Bool h = refl
typed_next g o base n (ty.Bits w) h = either (λ (p : PairFold). p) next (same_type (type_at g n) (ty.Bits w)) (update_next g o base n w h) refl
typed_next g o base n ty.Integer h = refl

pair_next : (g : List ℕ) (o : Binary) (base n : ℕ) → ltb (word_at g n OPERATION) BINARY ≡ true → fold_pair g o base n ≡ next
unfolding fold_pair
pair_next g o base n h = typed_next g o base n (type_at g base) h

pub unmasked : (g : List ℕ) (o : Binary) (l r : ℕ) → ltb (word_at g l OPERATION) BINARY ≡ true → ltb (word_at g r OPERATION) BINARY ≡ true
    → fold_masked_comparison g o l r ≡ None
unfolding fold_masked_comparison
unmasked g o l r h k = rw (pair_next g o l r k, pair_next g o r l h)

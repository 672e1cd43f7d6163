-- What an answer that may be missing says. Assumes nothing.
use mathlib.Core.Path.{◌≡◌, refl}
use mathlib.Core.Bool.{Bool, true, false}
use Rattle.std.specs.Prelude.{Option, None, Some}
use Prim.Native.Nat.{ℕ}
use native.Mathlib.Omega.{arith}
use Rattle.word.specs.Option.{provided}

pub none-some : {A : Type 0} {a : A} → None ≡ Some a → ⊥
none-some e = let z : ◌≡◌ {A = ℕ} 0 1 = cc in omega arith

pub some_is : {A : Type 0} {a b : A} → Some a ≡ Some b → a ≡ b
some_is e = cc

-- an answer under a test: the test is true, and it is the answer
pub provided_is : {A : Type 0} (t : Bool) (o : Option A) {r : A} → provided t o ≡ Some r → (t ≡ true) × (o ≡ Some r)
provided_is true o e = (refl, e)
provided_is false o e = absurd (none-some e)

-- Answers that may be none, and tests: what one says that is there, or true, and what holds of each. Assumes nothing.
use mathlib.Core.Path.{◌≡◌, refl, sym, ap, ◌∙◌, subst}
use mathlib.Core.Bool.{Bool, true, false, cond, not, ◌||◌, false≢true}
use mathlib.Core.List.{List, [], ◌∷◌}
use mathlib.Core.Logic.{⊎_elim}
use Rattle.std.specs.Prelude.{Option, None, Some}
use Rattle.word.specs.Option.{provided, mapped, given, both_given, or_else, is_some}
use borrow.Author.Tests.{eqb-true}
use Rattle.range.specs.Interval.{Interval}
use Rattle.range.proofs.Answers.{none-some, some_is}
use Rattle.range.proofs.Sound.{either}
use Rattle.evaluate.specs.Operator.{binary_code, binary_of, binaries}
use Rattle.evaluate.specs.declared.Binary.{Binary}
use Rattle.fold.specs.Shape.{same_binary, is_any}
use Rattle.plan.specs.Plan.{Plan}
use Rattle.evaluate.proofs.Codes.{binary_back, all, by_binaries}

-- ---- an answer that is there

module _ {A B : Type 0} where
  pub given_is : (o : Option A) (f : A → Option B) {b : B} → given o f None ≡ Some b → (a : A) × (o ≡ Some a) × (f a ≡ Some b)
  given_is None f e = absurd (none-some e)
  given_is (Some a) f e = (a, refl, e)

  pub mapped_is : (f : A → B) (o : Option A) {b : B} → mapped f o ≡ Some b → (a : A) × (o ≡ Some a) × (f a ≡ b)
  mapped_is f None e = absurd (none-some e)
  mapped_is f (Some a) e = (a, refl, some_is e)

  pub both_given_lem : {C : Type 0} (f : A → B → Option C) (o : Option A) (p : Option B) {c : C} → both_given o p f ≡ Some c
      → (a : A) × (b : B) × (o ≡ Some a) × (p ≡ Some b) × (f a b ≡ Some c)
  both_given_lem f None p e = absurd (none-some e)
  both_given_lem f (Some a) None e = absurd (none-some e)
  both_given_lem f (Some a) (Some b) e = (a, b, refl, refl, e)

-- ---- whichever way it goes

module _ {A : Type 0} where
  pub by_test : (P : A → Type 0) (b : Bool) {x y : A} → (b ≡ true → P x) → (b ≡ false → P y) → P (cond b x y)
  by_test P true f h = f refl
  by_test P false f h = h refl

  pub by_provided : (P : Option A → Type 0) (b : Bool) {o : Option A} → (b ≡ true → P o) → P None → P (provided b o)
  by_provided P true f h = f refl
  by_provided P false f h = h

pub by_given : {A B : Type 0} (P : B → Type 0) (o : Option A) {f : A → B} {b : B} → ((a : A) → o ≡ Some a → P (f a)) → (o ≡ None → P b) → P (given o f b)
by_given P None h k = k refl
by_given P (Some a) h k = h a refl

-- ---- what holds of an answer, if there is one

abbrev pub Each : {A : Type 0} → (A → Type 0) → Option A → Type 0
Each {A} P o = (a : A) → o ≡ Some a → P a

module _ {A : Type 0} (P : A → Type 0) where
  pub each_none : Each P None
  each_none a e = absurd (none-some e)

  pub each_some : (b : A) → P b → Each P (Some b)
  each_some b h a e = subst P (some_is e) h

  pub each_provided : (t : Bool) {o : Option A} → (t ≡ true → Each P o) → Each P (provided t o)
  each_provided t h = by_provided (Each P) t h each_none

  pub each_given : {B : Type 0} (o : Option B) {f : B → Option A} → ((b : B) → o ≡ Some b → Each P (f b)) → Each P (given o f None)
  each_given o h = by_given (Each P) o h (λ e. each_none)

  pub each_mapped : {B : Type 0} (f : B → A) (o : Option B) → Each (λ b. P (f b)) o → Each P (mapped f o)
  each_mapped f o h a e = let (b, p, q) = mapped_is f o e in subst P q (h b p)

-- a plan, or else another
pub each_or : (P : Plan → Type 0) (a : Option Plan) {b : Option Plan} → Each P a → Each P b → Each P (or_else a b)
each_or P None f h = h
each_or P (Some p) f h = f

-- a range, or else another
pub each_else : (P : Interval → Type 0) (a : Option Interval) {b : Option Interval} → Each P a → Each P b → Each P (or_else a b)
each_else P None f h = h
each_else P (Some r) f h = f

-- ---- tests of operators

pub binary_is : (a b : Binary) → same_binary a b ≡ true → a ≡ b
binary_is a b e = sym (binary_back a) ∙ ap binary_of (eqb-true (binary_code a) (binary_code b) e) ∙ binary_back b

-- what holds of every operator of a list
abbrev Every : (Binary → Type 0) → List Binary → Type 0
Every P [] = Unit {0}
Every P (a ∷ rest) = P a × Every P rest

-- R, given that of each operator
abbrev pub Cases : (Binary → Type 0) → List Binary → Type 0 → Type 0
Cases P [] R = R
Cases P (a ∷ rest) R = P a → Cases P rest R

module _ (P : Binary → Type 0) where
  holds_of : (os : List Binary) → Every P os → (o : Binary) → is_any os o ≡ true → P o
  holds_of [] h o e = absurd (false≢true e)
  holds_of (a ∷ rest) h o e =
      ⊎_elim (λ (q : same_binary o a ≡ true). subst P (sym (binary_is o a q)) h.0) (λ (q : is_any rest o ≡ true). holds_of rest h.1 o q)
      (either (same_binary o a) (is_any rest o) e)

  curried : (os : List Binary) (R : Type 0) → (Every P os → R) → Cases P os R
  curried [] R f = f tt
  curried (a ∷ rest) R f = λ h. curried rest R (λ t. f (h, t))

  -- what holds of every operator of a list holds of any of them
  pub of_any : (os : List Binary) → Cases P os ((o : Binary) → is_any os o ≡ true → P o)
  of_any os = curried os _ (holds_of os)

-- an operator that passes a test is one of a list, if no other does
pub among : (os : List Binary) (f : Binary → Bool) → all (λ o. is_any os o || not (f o)) binaries ≡ true → (o : Binary) → f o ≡ true → is_any os o ≡ true
among os f h o e =
    ⊎_elim (λ (q : is_any os o ≡ true). q) (λ (q : not (f o) ≡ true). absurd (false≢true (sym (ap not e) ∙ q)))
    (either (is_any os o) (not (f o)) (by_binaries (λ o. is_any os o || not (f o)) h o))

-- one with an answer, if no other has one
pub answering : {A : Type 0} (os : List Binary) (f : Binary → Option A) → all (λ o. is_any os o || not (is_some (f o))) binaries ≡ true → (o : Binary) {a : A}
    → f o ≡ Some a → is_any os o ≡ true
answering os f h o e = among os (λ o. is_some (f o)) h o (ap is_some e)

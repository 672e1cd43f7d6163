-- Questions 2 to 5 asked alone decide what is asked before any call. Assumes nothing.
use mathlib.Core.Path.{◌≡◌, refl, sym, ap}
use mathlib.Core.Bool.{Bool, true, false, false≢true}
use mathlib.Core.List.{List}
use Prim.Native.Nat.{ℕ}
use Rattle.answer.specs.declared.Refusal.{Refusal}
use Rattle.answer.specs.declared.Refusal.TheVariants as no
use Rattle.evaluate.specs.Operator.{WIDEST}
use Rattle.graph.specs.Layout.{count_of}
use Rattle.request.specs.Request.{Request, all_up_to, all_below, widths, ids, typed, declarable}
use Rattle.native.specs.Call.{Called, called, done, refused, question, is_refused}
use Rattle.native.specs.Perform.{asked}

module _ (g : List ℕ) (c : Called) where
  done-refused : (r : Refusal) → called done g ≡ called (refused r) g → ⊥
  done-refused r e = false≢true (ap (λ (x : Called). is_refused x.answer) e)

  -- four questions, and what comes after them
  abbrev four : Bool → Bool → Bool → Bool → Called → Called
  four w i t d x = question g w no.Width (question g i no.Id (question g t no.Typing (question g d no.Value x)))

  yes_four : (w i t d : Bool) → four w i t d (called done g) ≡ called done g → four w i t d c ≡ c
  yes_four true true true true e = refl
  yes_four true true true false e = absurd (done-refused no.Value (sym e))
  yes_four true true false d e = absurd (done-refused no.Typing (sym e))
  yes_four true false t d e = absurd (done-refused no.Id (sym e))
  yes_four false i t d e = absurd (done-refused no.Width (sym e))

  no_four : (w i t d : Bool) (r : Refusal) → four w i t d (called done g) ≡ called (refused r) g → four w i t d c ≡ called (refused r) g
  no_four true true true true r e = absurd (done-refused r e)
  no_four true true true false r e = e
  no_four true true false d r e = e
  no_four true false t d r e = e
  no_four false i t d r e = e

  module _ (q : Request) where
    pub asked_yes : asked g q (called done g) ≡ called done g → asked g q c ≡ c
    asked_yes = yes_four (all_up_to WIDEST (widths q)) (all_below (count_of g) (ids q)) (typed g q) (declarable q)

    pub asked_no : (r : Refusal) → asked g q (called done g) ≡ called (refused r) g → asked g q c ≡ called (refused r) g
    asked_no = no_four (all_up_to WIDEST (widths q)) (all_below (count_of g) (ids q)) (typed g q) (declarable q)

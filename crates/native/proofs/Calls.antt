-- Answers as numbers: no two share one; and two words stored. Assumes nothing.
use mathlib.Core.Path.{◌≡◌, refl, sym, ap, ◌∙◌}
use mathlib.Core.List.{List, [], ◌∷◌}
use Prim.Native.Nat.{ℕ, ◌^◌, ◌<◌}
use native.Mathlib.Omega.{arith}
use lib.ListN.{length, get_or, set}
use Rattle.answer.specs.declared.Refusal.{Refusal}
use Rattle.answer.specs.declared.Refusal.TheVariants as no
use Rattle.native.specs.Call.{Response, id, nothing, done, refused, answer_number}
use Rattle.answer.specs.Refusal.{refusal_number}

-- ---- answers as numbers

-- the refusals by their numbers
abbrev refusals : List Refusal
refusals = no.Graph ∷ no.Graph ∷ no.Width ∷ no.Id ∷ no.Typing ∷ no.Value ∷ no.Keep ∷ no.Room ∷ no.Units ∷ no.Marks ∷ no.Mark ∷ no.Guards ∷ []

refusal_back : (r : Refusal) → get_or refusals (refusal_number r) no.Graph ≡ r
refusal_back no.Graph = refl
refusal_back no.Width = refl
refusal_back no.Id = refl
refusal_back no.Typing = refl
refusal_back no.Value = refl
refusal_back no.Keep = refl
refusal_back no.Room = refl
refusal_back no.Units = refl
refusal_back no.Marks = refl
refusal_back no.Mark = refl
refusal_back no.Guards = refl

refusal_between : (r : Refusal) → (0 < refusal_number r) × (refusal_number r < 12)
refusal_between no.Graph = (omega arith, omega arith)
refusal_between no.Width = (omega arith, omega arith)
refusal_between no.Id = (omega arith, omega arith)
refusal_between no.Typing = (omega arith, omega arith)
refusal_between no.Value = (omega arith, omega arith)
refusal_between no.Keep = (omega arith, omega arith)
refusal_between no.Room = (omega arith, omega arith)
refusal_between no.Units = (omega arith, omega arith)
refusal_between no.Marks = (omega arith, omega arith)
refusal_between no.Mark = (omega arith, omega arith)
refusal_between no.Guards = (omega arith, omega arith)

-- an id is below 2 ^ 63
abbrev pub Small : Response → Type 0
Small (id n) = n < 2 ^ 63
Small nothing = Unit {0}
Small done = Unit {0}
Small (refused r) = Unit {0}

-- no two answers share a number
pub number_unique : (a b : Response) → Small a → Small b → answer_number a ≡ answer_number b → a ≡ b
number_unique (id m) (id n) f g e = ap id e
number_unique (id m) nothing f g e = absurd (omega (arith, f))
number_unique (id m) done f g e = absurd (omega (arith, f))
number_unique (id m) (refused s) f g e = absurd (omega (arith, f, (refusal_between s).1))
number_unique nothing (id n) f g e = absurd (omega (arith, g))
number_unique nothing nothing f g e = refl
number_unique nothing done f g e = absurd (omega arith)
number_unique nothing (refused s) f g e = absurd (omega (arith, (refusal_between s).0, (refusal_between s).1))
number_unique done (id n) f g e = absurd (omega (arith, g))
number_unique done nothing f g e = absurd (omega arith)
number_unique done done f g e = refl
number_unique done (refused s) f g e = absurd (omega (arith, (refusal_between s).1))
number_unique (refused r) (id n) f g e = absurd (omega (arith, g, (refusal_between r).1))
number_unique (refused r) nothing f g e = absurd (omega (arith, (refusal_between r).0, (refusal_between r).1))
number_unique (refused r) done f g e = absurd (omega (arith, (refusal_between r).1))
number_unique (refused r) (refused s) f g e =
    let q : refusal_number r ≡ refusal_number s = omega (arith, (refusal_between r).1, (refusal_between s).1) in
    ap refused (sym (refusal_back r) ∙ ap (λ (k : ℕ). get_or refusals k no.Graph) q ∙ refusal_back s)

-- ---- two words stored

pub two_words : (l : List ℕ) (a b : ℕ) → length l ≡ 2 → set (set l 0 a) 1 b ≡ a ∷ b ∷ []
two_words [] a b e = absurd (omega arith)
two_words (x ∷ []) a b e = absurd (omega arith)
two_words (x ∷ y ∷ []) a b e = refl
two_words (x ∷ y ∷ z ∷ l) a b e = absurd (omega arith)

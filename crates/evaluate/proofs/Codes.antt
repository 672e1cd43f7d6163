-- Codes: what is encoded is decoded, and which codes there are. Assumes nothing.
use mathlib.Core.Path.{◌≡◌, refl, sym, ap, subst, ◌∙◌}
use mathlib.Core.Bool.{Bool, true, false, ◌&&◌}
use mathlib.Core.List.{List, [], ◌∷◌}
use mathlib.Core.Logic.{◌⊎◌, inl, inr, ⊎_elim}
use Prim.Native.Nat.{ℕ, zero, suc, ◌+◌, ◌-◌, ◌<◌, ◌≤◌}
use native.Mathlib.Omega.{arith}
use borrow.Author.Tests.{eqb-true, ltb-true, ltb-false, leb-true, lt-ltb, le-ltb, lt-leb}
use lib.Dec.{eqb, ltb, leb}
use lib.ListN.{length, get_or, get_or-eq_default}
use Rattle.word.proofs.Integer.{lt-or-ge}
use Rattle.range.proofs.Sound.{tests}
use Rattle.evaluate.specs.declared.Unary.{Unary}
use Rattle.evaluate.specs.declared.Unary.TheVariants as un
use Rattle.evaluate.specs.declared.Binary.{Binary}
use Rattle.evaluate.specs.declared.Binary.TheVariants as bi
use Rattle.evaluate.specs.Operator.{UNARY, PARAMETER, UNARY-END, BINARY, BINARY-END, unary_code, unary_width, unaries, unary_of, is_unary_code, binary_code, binaries, binary_of, is_binary_code}

-- ---- a code that is none of a list's

-- code is none of the n numbers from `first` on: what a `match` leaves for its `_`
abbrev pub NoneOf : ℕ → ℕ → ℕ → Type 0
NoneOf code first zero = Unit
NoneOf code first (suc n) = NoneOf code first n × (code ≡ first + n → ⊥)

none_of : (code first n : ℕ) → NoneOf code first n → (code < first) ⊎ (first + n ≤ code)
none_of code first zero h = ⊎_elim inl (λ (l : first ≤ code). inr (omega arith)) (lt-or-ge code first)
none_of code first (suc n) h =
    let d : code ≡ first + n → ⊥ = h.1 in
    ⊎_elim inl (λ (l : first + n ≤ code). inr (omega arith)) (none_of code first n h.0)

-- past a `match` on the first n numbers there are only larger ones
pub past_match : (code n : ℕ) → NoneOf code 0 n → n ≤ code
past_match code n h = ⊎_elim (λ (l : code < 0). absurd (omega arith)) (λ (l : 0 + n ≤ code). omega arith) (none_of code 0 n h)

-- the first of a list of codes from `base` on stands for every code that is no other's
pub first_code : {A : Type 0} (a : A) (l : List A) (base code : ℕ) → NoneOf code (suc base) (length l) → get_or (a ∷ l) (code - base) a ≡ a
first_code a l base code h =
    ⊎_elim
    (λ (b : code < suc base).
    let e : code - base ≡ 0 = omega arith in
    rw e)
    (λ (b : suc base + length l ≤ code). get_or-eq_default (a ∷ l) a {n = code - base} (omega arith))
    (none_of code (suc base) (length l) h)

-- ---- what is encoded is decoded

pub unary_back : (u : Unary) → unary_of (unary_code u) (unary_width u) ≡ u
unary_back un.BoolNot = refl
unary_back un.BitNot = refl
unary_back un.Negate = refl
unary_back (un.Truncate w) = refl
unary_back (un.SignExtend w) = refl
unary_back (un.LeadingZeros w) = refl
unary_back (un.TrailingZeros w) = refl

pub binary_back : (b : Binary) → binary_of (binary_code b) ≡ b
binary_back bi.Add = refl
binary_back bi.Sub = refl
binary_back bi.Mul = refl
binary_back bi.And = refl
binary_back bi.Or = refl
binary_back bi.Xor = refl
binary_back bi.ShiftLeft = refl
binary_back bi.ShiftRight = refl
binary_back bi.ArithmeticShiftRight = refl
binary_back bi.Equal = refl
binary_back bi.NotEqual = refl
binary_back bi.LessSigned = refl
binary_back bi.LessUnsigned = refl
binary_back bi.LessEqualSigned = refl
binary_back bi.LessEqualUnsigned = refl
binary_back bi.DivideSigned = refl
binary_back bi.RemainderSigned = refl
binary_back bi.DivideUnsigned = refl
binary_back bi.RemainderUnsigned = refl

-- ---- the operators have known codes

module _ {A : Type 0} (p : A → Bool) where
  -- does every element pass a test?
  abbrev pub all : List A → Bool
  all [] = true
  all (a ∷ l) = p a && all l

  -- then so does the one at any place, if the one past the end does
  element : (l : List A) (d : A) → all l ≡ true → p d ≡ true → (k : ℕ) → p (get_or l k d) ≡ true
  element [] d e f k = f
  element (a ∷ l) d e f zero = (tests (p a) (all l) e).0
  element (a ∷ l) d e f (suc k) = element l d (tests (p a) (all l) e).1 f k

pub unary_known : (u : Unary) → is_unary_code (unary_code u) (unary_width u) ≡ true
unary_known u =
    subst (λ (v : Unary). is_unary_code (unary_code v) (unary_width v) ≡ true) (unary_back u)
    (element (λ (v : Unary). is_unary_code (unary_code v) (unary_width v)) (unaries (unary_width u)) un.BoolNot refl refl (unary_code u - UNARY))

-- what every binary operator of the list passes, every binary operator does
pub by_binaries : (p : Binary → Bool) → all p binaries ≡ true → (b : Binary) → p b ≡ true
by_binaries p e b =
    subst (λ (c : Binary). p c ≡ true) (binary_back b) (element p binaries bi.Add e (tests (p bi.Add) _ e).0 (binary_code b - BINARY))

pub binary_known : (b : Binary) → is_binary_code (binary_code b) ≡ true
binary_known = by_binaries (λ (c : Binary). is_binary_code (binary_code c)) refl

-- the limits of a known code
pub unary-limits : (code parameter : ℕ) → is_unary_code code parameter ≡ true → (UNARY ≤ code) × (code < UNARY-END)
unary-limits code parameter = by (ltb code PARAMETER) refl
  where
    by : (t : Bool) → ltb code PARAMETER ≡ t → is_unary_code code parameter ≡ true → (UNARY ≤ code) × (code < UNARY-END)
    by true q =
        rw q
        (λ e.
        let l = ltb-true code PARAMETER q in
        let d = tests (leb UNARY code) (eqb parameter 0) e in
        (leb-true UNARY code d.0, omega arith))
    by false q = rw q (λ e. let l = ltb-false code PARAMETER q in (omega arith, ltb-true code UNARY-END e))

pub binary-limits : (code : ℕ) → is_binary_code code ≡ true → (BINARY ≤ code) × (code < BINARY-END)
binary-limits code e =
    let d = tests (leb BINARY code) (ltb code BINARY-END) e in
    (leb-true BINARY code d.0, ltb-true code BINARY-END d.1)

-- a code below or past the unary ones is none of them
pub below_unary : (code parameter : ℕ) → code < UNARY → is_unary_code code parameter ≡ false
below_unary code parameter h = rw (lt-ltb code PARAMETER (omega arith), lt-leb UNARY code h)

pub past_unary : (code parameter : ℕ) → UNARY-END ≤ code → is_unary_code code parameter ≡ false
past_unary code parameter h = rw (le-ltb code PARAMETER (omega arith), le-ltb code UNARY-END h)

-- a code below the binary ones is none of them
pub below_binary : (code : ℕ) → code < BINARY → is_binary_code code ≡ false
below_binary code h = rw (lt-leb BINARY code h)

pub unary_code_lem : (u : Unary) → (UNARY ≤ unary_code u) × (unary_code u < UNARY-END)
unary_code_lem u = unary-limits (unary_code u) (unary_width u) (unary_known u)

pub binary_code_lem : (b : Binary) → (BINARY ≤ binary_code b) × (binary_code b < BINARY-END)
binary_code_lem b = binary-limits (binary_code b) (binary_known b)

-- ---- a known code is that of the operator decoded

module _ {A : Type 0} (code : A → ℕ) where
  -- have the elements the codes from `base` on?
  abbrev numbered : ℕ → List A → Bool
  numbered base [] = true
  numbered base (a ∷ l) = eqb base (code a) && numbered (suc base) l

  code_at : (base : ℕ) (l : List A) (d : A) → numbered base l ≡ true → (k : ℕ) → k < length l → base + k ≡ code (get_or l k d)
  code_at base [] d e k h = absurd (omega arith)
  code_at base (a ∷ l) d e zero h =
      let q : base + 0 ≡ base = omega arith in
      q ∙ eqb-true base (code a) (tests (eqb base (code a)) (numbered (suc base) l) e).0
  code_at base (a ∷ l) d e (suc k) h =
      let q : base + suc k ≡ suc base + k = omega arith in
      q ∙ code_at (suc base) l d (tests (eqb base (code a)) (numbered (suc base) l) e).1 k (omega arith)

pub unary_exact : (code w : ℕ) → UNARY ≤ code → code < UNARY-END → code ≡ unary_code (unary_of code w)
unary_exact code w a b =
    let e : code ≡ UNARY + (code - UNARY) = omega arith in
    e ∙ code_at unary_code UNARY (unaries w) un.BoolNot refl (code - UNARY) (omega arith)

pub binary_exact : (code : ℕ) → BINARY ≤ code → code < BINARY-END → code ≡ binary_code (binary_of code)
binary_exact code a b =
    let e : code ≡ BINARY + (code - BINARY) = omega arith in
    e ∙ code_at binary_code BINARY binaries bi.Add refl (code - BINARY) (omega arith)

-- the operators with a width have w
parameter : (w k : ℕ) → k < UNARY-END - PARAMETER → w ≡ unary_width (get_or (unaries w) (PARAMETER - UNARY + k) un.BoolNot)
parameter w zero h = refl
parameter w (suc zero) h = refl
parameter w (suc (suc zero)) h = refl
parameter w (suc (suc (suc zero))) h = refl
parameter w (suc (suc (suc (suc k)))) h = absurd (omega arith)

-- the width of a unary operator decoded is the parameter that its code takes
pub width_exact : (code w : ℕ) → is_unary_code code w ≡ true → w ≡ unary_width (unary_of code w)
width_exact code w = by (ltb code PARAMETER) refl
  where
    by : (t : Bool) → ltb code PARAMETER ≡ t → is_unary_code code w ≡ true → w ≡ unary_width (unary_of code w)
    by true q =
        rw q
        (λ e.
        let z = eqb-true w 0 (tests (leb UNARY code) (eqb w 0) e).1 in
        subst (λ (v : ℕ). v ≡ unary_width (unary_of code v)) (sym z)
        (eqb-true 0 _ (element (λ (u : Unary). eqb 0 (unary_width u)) (unaries 0) un.BoolNot refl refl (code - UNARY))))
    by false q =
        rw q
        (λ e.
        let l = ltb-false code PARAMETER q in
        let h = ltb-true code UNARY-END e in
        let k : PARAMETER - UNARY + (code - PARAMETER) ≡ code - UNARY = omega arith in
        parameter w (code - PARAMETER) (omega arith) ∙ ap (λ (i : ℕ). unary_width (get_or (unaries w) i un.BoolNot)) k)

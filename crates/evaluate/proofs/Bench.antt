-- The bench of document 01: a table of computed and expected answers, equal in every row by one test that antt computes.
-- Assumes nothing.
use mathlib.Core.Path.{◌≡◌, refl, ap, ap₂}
use mathlib.Core.Bool.{Bool, true, false, ◌&&◌}
use mathlib.Core.List.{List, [], ◌∷◌, ◌++◌}
use Rattle.std.specs.Prelude.{Option, None, Some}
use Prim.Native.Nat.{ℕ, zero, suc, ◌-◌, ◌^◌, ◌<◌}
use native.Mathlib.Nat.{le_of_suc-le-suc, not-suc-le-zero}
use lib.Count.{count_leading_zeros, count_trailing_zeros}
use lib.Dec.{T, eqb→eq}
use lib.IntN.{ℤ, pos, negsuc}
use lib.ListN.{length, get_or}
use Rattle.range.specs.Interval.{Interval, mul_interval}
use Rattle.range.specs.declared.ScalarType.TheVariants as ty
use Rattle.word.specs.Value.{residue, signed, fits, quotient, remainder, eq_z}
use Rattle.word.specs.Option.{from_bool}
use Rattle.evaluate.specs.declared.Unary.TheVariants as un
use Rattle.evaluate.specs.declared.Binary.TheVariants as bi
use Rattle.evaluate.specs.Evaluate.{unary_value, binary_value, slice_value}
use Rattle.evaluate.specs.SmtLib.{bvslt}

-- ---- answers as lists: none is empty

-- a pattern as a number
abbrev number : Option ℕ → List ℤ
number None = []
number (Some n) = pos n ∷ []

-- a pattern as an Integer
abbrev integer : Option ℕ → List ℤ
integer None = []
integer (Some n) = signed 128 n ∷ []

-- the pattern of an Integer
abbrev pattern : ℤ → ℕ
pattern z = residue 128 z

abbrev ends : Option Interval → List ℤ
ends None = []
ends (Some a) = a.low ∷ a.high ∷ []

abbrev interval : ℤ → ℤ → Interval
interval l h = record { low = l; high = h }

-- ---- a table of pairs that are equal

abbrev Row : Type 0
Row = (List ℤ) × (List ℤ)

abbrev same : List ℤ → List ℤ → Bool
same [] [] = true
same [] (y ∷ ys) = false
same (x ∷ xs) [] = false
same (x ∷ xs) (y ∷ ys) = eq_z x y && same xs ys

abbrev every : List Row → Bool
every [] = true
every (r ∷ rs) = same r.0 r.1 && every rs

both_parts : (a b : Bool) → T (a && b) → T a × T b
both_parts true b t = (tt, t)
both_parts false b t = absurd t

eq_z_same : (x y : ℤ) → T (eq_z x y) → x ≡ y
eq_z_same (pos a) (pos b) t = ap pos (eqb→eq a b t)
eq_z_same (pos a) (negsuc b) t = absurd t
eq_z_same (negsuc a) (pos b) t = absurd t
eq_z_same (negsuc a) (negsuc b) t = ap negsuc (eqb→eq a b t)

same_equal : (xs ys : List ℤ) → T (same xs ys) → xs ≡ ys
same_equal [] [] t = refl
same_equal [] (y ∷ ys) t = absurd t
same_equal (x ∷ xs) [] t = absurd t
same_equal (x ∷ xs) (y ∷ ys) t =
    let p = both_parts (eq_z x y) (same xs ys) t in ap₂ (λ (z : ℤ) (zs : List ℤ). z ∷ zs) (eq_z_same x y p.0) (same_equal xs ys p.1)

-- row k of a table
abbrev row : List Row → ℕ → Row
row rs k = get_or rs k ([], [])

rows : (rs : List Row) → T (every rs) → (k : ℕ) → k < length rs → (row rs k).0 ≡ (row rs k).1
rows [] t k h = absurd (not-suc-le-zero h)
rows (r ∷ rs) t zero h = same_equal r.0 r.1 (both_parts (same r.0 r.1) (every rs) t).0
rows (r ∷ rs) t (suc k) h = rows rs (both_parts (same r.0 r.1) (every rs) t).1 k (le_of_suc-le-suc h)

-- ---- the bench, with SMT-LIB's answer, at width 8, after that of LessSigned

abbrev bench : List Row
bench =
    (integer (unary_value (un.SignExtend 8) 128), negsuc 127 ∷ [])
    ∷ (integer (unary_value (un.SignExtend 8) 127), pos 127 ∷ [])
    ∷ (integer (unary_value un.Negate (pattern (negsuc (2 ^ 127 - 1)))), [])
    ∷ (number (binary_value bi.ShiftLeft (ty.Bits 8) 129 1), pos 2 ∷ [])
    ∷ (number (binary_value bi.ArithmeticShiftRight (ty.Bits 8) 128 200), pos 255 ∷ [])
    ∷ (number (binary_value bi.LessSigned ty.Bool 128 1) ++ number (Some (from_bool (bvslt 8 128 1))), pos 0 ∷ pos 1 ∷ [])
    ∷ (integer (binary_value bi.DivideSigned ty.Integer (pattern (negsuc 6)) 2), negsuc 2 ∷ [])
    ∷ (integer (binary_value bi.RemainderSigned ty.Integer (pattern (negsuc 6)) 3), negsuc 0 ∷ [])
    ∷ (number (unary_value (un.LeadingZeros 8) 16), pos 3 ∷ [])
    ∷ (number (unary_value (un.TrailingZeros 8) 0), pos 8 ∷ [])
    ∷ (ends (mul_interval (interval (negsuc 2) (pos 2)) (interval (negsuc 3) (pos 5))), negsuc 14 ∷ pos 12 ∷ [])
    ∷ (number (Some (slice_value 4 8 43981)), pos 188 ∷ [])
    ∷ []

pub bench_holds : (k : ℕ) → k < length bench → (row bench k).0 ≡ (row bench k).1
unfolding unary_value binary_value residue signed fits quotient remainder count_leading_zeros count_trailing_zeros mul_interval
bench_holds = rows bench tt

-- Constants: a value of its type, stored with its range, means itself. Assumes nothing.
use mathlib.Core.Path.{◌≡◌, refl, sym, ap, ◌∙◌, subst}
use mathlib.Core.Bool.{Bool, true, false, cond, false≢true}
use mathlib.Core.List.{List}
use mathlib.Core.Logic.{⊎_elim}
use Rattle.std.specs.Prelude.{Option, None, Some}
use Prim.Native.Nat.{ℕ, ◌%◌, ◌^◌, ◌≤◌, ◌<◌}
use native.Mathlib.Nat.{mod-lt, mod-eq_of_lt, lt_of_lt_of_le, le_refl}
use native.Mathlib.Omega.{arith}
use lib.Dec.{lit<}
use lib.IntN.{ℤ, pos}
use lib.Pow.{pow_mono, pow_pos}
use lib.Signed.{mag, ≤ℤ_refl}
use Rattle.word.specs.Value.{is_neg, signed}
use Rattle.word.proofs.Integer.{lt-or-ge, signed_low, signed_high, signed_mag}
use Rattle.range.specs.Interval.{Interval, ◌∈◌, point, inside_bits, inside_type}
use Rattle.range.specs.declared.ScalarType.{ScalarType}
use Rattle.range.specs.declared.ScalarType.TheVariants as ty
use Rattle.range.proofs.Sound.{point_in}
use Rattle.range.proofs.Answers.{none-some, some_is}
use Rattle.range.proofs.Valid.{Valid, point_inside}
use Rattle.evaluate.specs.Evaluate.{reduced}
use Rattle.evaluate.specs.Operator.{type_width}
use Rattle.graph.specs.Node as node
use Rattle.graph.specs.Node.{Op, op_z}
use Rattle.graph.specs.Insert.{constant_interval}
use Rattle.graph.proofs.Codes.{low_end, high_end, op_offset, Stored}
use Rattle.meaning.specs.Value.{size, integer_of, of_type, valued}
use Rattle.meaning.proofs.Worlds.{World, operation_means, operand}
use Rattle.meaning.proofs.Values.{typed_of}
use Rattle.meaning.proofs.Invariant.{Ends, Within, Storable}

-- ---- sizes

size-le : (t : ScalarType) → type_width t ≤ 128 → size t ≤ 2 ^ 128
size-le ty.Bool l = pow_mono {i = 1} {j = 128} (omega arith)
size-le (ty.Bits w) l = pow_mono l
size-le ty.Integer l = le_refl (2 ^ 128)

pub size-pos : (t : ScalarType) → 0 < size t
size-pos ty.Bool = omega arith
size-pos (ty.Bits w) = pow_pos w
size-pos ty.Integer = pow_pos 128

pub pattern : (t : ScalarType) (c : ℕ) → type_width t ≤ 128 → c < size t → c < 2 ^ 128
pattern t c l h = lt_of_lt_of_le h (size-le t l)

-- a value of its type is not changed by reducing it
pub reduced_same : (t : ScalarType) (c : ℕ) → c < size t → reduced t c ≡ c
reduced_same ty.Bool c h = refl
reduced_same (ty.Bits w) c h = mod-eq_of_lt h
reduced_same ty.Integer c h = refl

pub valued_same : (t : ScalarType) (c : ℕ) → c < size t → valued t c ≡ Some c
valued_same t c h = ap (λ (n : ℕ). of_type t n) (reduced_same t c h) ∙ typed_of t c h

-- a value of Bits(w) by its low bits
pub low_valued : (w c : ℕ) → valued (ty.Bits w) c ≡ Some (c % 2 ^ w)
low_valued w c = typed_of (ty.Bits w) (c % 2 ^ w) (mod-lt c (pow_pos w))

-- ---- ranges

-- a pattern below half is its own integer, another is negative
pub signed_parts : (c : ℕ) → c < 2 ^ 128 → (is_neg (signed 128 c) ≡ false → signed 128 c ≡ pos c)
signed_parts c h e =
    ⊎_elim (λ (l : c < 2 ^ 127). signed_low 128 c l)
    (λ (l : 2 ^ 127 ≤ c). absurd (false≢true (sym e ∙ ap is_neg (signed_high 128 c l h))))
    (lt-or-ge c (2 ^ 127))

module _ (t : ScalarType) (c : ℕ) (l : type_width t ≤ 128) (h : c < size t) where
  pub constant-ends : (a : Interval) → constant_interval t c ≡ Some a → Ends a
  constant-ends a e = by t e
    where
      small : mag (signed 128 c) < 2 ^ 127
      small = signed_mag 128 c (lit< tt) (pattern t c l h)

      here : Some (point (signed 128 c)) ≡ Some a → Ends a
      here q = let p : point (signed 128 c) ≡ a = cc in subst Ends p (record { low = small; high = small })

      maybe : (b : Bool) → cond b None (Some (point (signed 128 c))) ≡ Some a → Ends a
      maybe true q = absurd (none-some q)
      maybe false q = here q

      by : (s : ScalarType) → constant_interval s c ≡ Some a → Ends a
      by ty.Bool q = here q
      by (ty.Bits w) q = maybe (is_neg (signed 128 c)) q
      by ty.Integer q = here q

  pub constant-within : Within t c (constant_interval t c)
  constant-within a e = by t refl e
    where
      here : (z : ℤ) → z ≡ signed 128 c → Some (point (signed 128 c)) ≡ Some a → z ∈ a
      here z p q = let r : point z ≡ a = ap point p ∙ some_is q in subst (λ (b : Interval). z ∈ b) r (point_in z)

      maybe : (b : Bool) → is_neg (signed 128 c) ≡ b → cond b None (Some (point (signed 128 c))) ≡ Some a → (pos c) ∈ a
      maybe true p q = absurd (none-some q)
      maybe false p q = here (pos c) (sym (signed_parts c (pattern t c l h) p)) q

      by : (s : ScalarType) → t ≡ s → constant_interval s c ≡ Some a → (integer_of s c) ∈ a
      by ty.Bool p q = here (pos c) (sym (signed_low 128 c (lt_of_lt_of_le (subst (λ (s : ScalarType). c < size s) p h) (pow_mono {i = 1} {j = 127} (omega arith))))) q
      by (ty.Bits w) p q = maybe (is_neg (signed 128 c)) refl q
      by ty.Integer p q = here (signed 128 c) refl q

  pub constant_valid : (a : Interval) → constant_interval t c ≡ Some a → Valid t a
  constant_valid a e = by t refl e
    where
      here : (s : ScalarType) → inside_type s (point (signed 128 c)) ≡ true → Some (point (signed 128 c)) ≡ Some a → Valid s a
      here s i q = subst (Valid s) (some_is q) (record { full = ≤ℤ_refl (signed 128 c); inside = i })

      bits : (w : ℕ) → c < 2 ^ w → signed 128 c ≡ pos c → inside_bits w (point (signed 128 c)) ≡ true
      bits w k p = ap (λ (z : ℤ). inside_bits w (point z)) p ∙ point_inside w c k

      maybe : (w : ℕ) → c < 2 ^ w → (b : Bool) → is_neg (signed 128 c) ≡ b → cond b None (Some (point (signed 128 c))) ≡ Some a → Valid (ty.Bits w) a
      maybe w k true p q = absurd (none-some q)
      maybe w k false p q = here (ty.Bits w) (bits w k (signed_parts c (pattern t c l h) p)) q

      by : (s : ScalarType) → t ≡ s → constant_interval s c ≡ Some a → Valid s a
      by ty.Bool p q =
          let k : c < 2 = subst (λ (s : ScalarType). c < size s) p h in
          here ty.Bool (bits 1 k (signed_low 128 c (lt_of_lt_of_le k (pow_mono {i = 1} {j = 127} (omega arith))))) q
      by (ty.Bits w) p q = maybe w (subst (λ (s : ScalarType). c < size s) p h) (is_neg (signed 128 c)) refl q
      by ty.Integer p q = here ty.Integer refl q

-- ---- storing

-- the ends of a range that is stored, 0 without one
stored_end : (f : Option Interval → ℤ) → f None ≡ pos 0 → ((a : Interval) → Ends a → mag (f (Some a)) < 2 ^ 127) → (r : Option Interval)
    → ((a : Interval) → r ≡ Some a → Ends a) → mag (f r) < 2 ^ 127
stored_end f z k None e = rw z (pow_pos 127)
stored_end f z k (Some a) e = k a (e a refl)

pub stored_of : {t : ScalarType} {r : Option Interval} {o : Op} → type_width t ≤ 128 → ((a : Interval) → r ≡ Some a → Ends a)
    → op_offset o < 128 → op_z o ≤ 128 → Stored t r o
stored_of {t} {r} {o} wide ends offset parameter = record {
  width = omega arith;
  low = stored_end low_end refl (λ a e. e.low) r ends;
  high = stored_end high_end refl (λ a e. e.high) r ends;
  offset = omega arith;
  parameter = omega arith;
}

module _ (ρ : World) (g : List ℕ) (t : ScalarType) (c : ℕ) (l : type_width t ≤ 128) (h : c < size t) where
  pub constant-means : operation_means ρ t (node.constant c) (operand ρ g) ≡ Some c
  constant-means = valued_same t c h

  pub constant_storable : Storable ρ g t (constant_interval t c) (node.constant c)
  constant_storable = record {
    stored = stored_of l (constant-ends t c l h) (omega arith) (omega arith);
    width = l;
    below = omega arith;
    offset = omega arith;
    parameter = omega arith;
    valid = constant_valid t c l h;
    typed = h;
    refined = λ sure. tt;
    ends = constant-ends t c l h;
    within = λ sure v e. let p : v ≡ c = sym (some_is (sym constant-means ∙ e)) in subst (λ (n : ℕ). Within t n (constant_interval t c)) (sym p) (constant-within t c l h);
  }

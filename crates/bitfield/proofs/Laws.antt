-- Laws of the walk along the bits of nodes and of a concat, one step each, of the turns on the way, and of a bit that rules the fold out. Assumes nothing.
use mathlib.Core.Path.{◌≡◌, refl, sym, ap, ◌∙◌}
use mathlib.Core.Bool.{Bool, true, false, cond, ◌&&◌, true≢false}
use mathlib.Core.List.{List}
use Rattle.std.specs.Prelude.{Option, None, Some}
use Prim.Native.Nat.{ℕ, zero, suc, ◌+◌, ◌-◌, ◌<◌}
use native.Mathlib.Numerals.{add-one}
use native.Mathlib.Omega.{arith}
use borrow.Author.Tests.{not-true, ltb-true}
use lib.Bits.{bit_or}
use lib.Dec.{eqb, ltb}
use Rattle.bitfield.specs.declared.Turns.{Turns}
use Rattle.bitfield.specs.declared.Turns.TheVariants as turns
use Rattle.bitfield.specs.Bitfield.{Bit, BitStep, Field, bit_step, bit_at, reached, negated_bit, known, source, power, same_base, concat_bit, with_bit, no_bits, field_from}
use Rattle.bitfield.specs.Early.{misplaced, ruled_out}
use Rattle.bitfield.specs.Turns.{once_more, turned_by}

-- ---- one bit

pub bit-reached : (g : List ℕ) (k j n i : ℕ) (s : BitStep) → k ≡ suc j → s ≡ bit_step g n i → reached s (bit_at g j) ≡ bit_at g k n i
unfolding bit_at
bit-reached g k j n i s h e = rw (h, e)

-- turned over three times, a bit is as turned over once
thrice : (b : Option Bit) → negated_bit (negated_bit (negated_bit b)) ≡ negated_bit b
thrice None = refl
thrice (Some (known true)) = refl
thrice (Some (known false)) = refl
thrice (Some (source n i)) = refl

more_turned : (t : Turns) (b : Option Bit) → turned_by t (negated_bit b) ≡ turned_by (once_more t) b
more_turned turns.Never b = refl
more_turned turns.Odd b = refl
more_turned turns.Even b = thrice b

pub turned_more : (t u : Turns) (b : Option Bit) → u ≡ once_more t → turned_by t (negated_bit b) ≡ turned_by u b
turned_more t u b e = rw e (more_turned t b)

pub turned_none : (t : Turns) → None ≡ turned_by t None
turned_none turns.Never = refl
turned_none turns.Odd = refl
turned_none turns.Even = refl

-- ---- the bits of a concat

module _ (g : List ℕ) (high low v i : ℕ) (f : Field) (k j : ℕ) (more : k ≡ suc j) where
  pub field-none : concat_bit g high low v i ≡ None → field_from g high low v i k f ≡ None
  field-none e = rw (more, e)

  field-stop : (b : Bit) → concat_bit g high low v i ≡ Some b → with_bit f i b ≡ None → field_from g high low v i k f ≡ None
  field-stop b e w = rw (more, e, w)

  field_on : (b : Bit) (l : Field) → concat_bit g high low v i ≡ Some b → with_bit f i b ≡ Some l
      → field_from g high low v i k f ≡ field_from g high low v (i + 1) j l
  field_on b l e w = rw (more, e, w, add-one)

-- by the parts of the field
module _ (g : List ℕ) (high low v i : ℕ) (b : Option ℕ) (keep literal k j : ℕ) (more : k ≡ suc j) where
  abbrev so_far : Field
  so_far = record { base = b; keep = keep; literal = literal }

  pub field_known : (t : Bool) (w : ℕ) → concat_bit g high low v i ≡ Some (known t) → w ≡ cond t (bit_or literal (power i)) literal
      → field_from g high low v i k so_far ≡ field_from g high low v (i + 1) j (record { base = b; keep = keep; literal = w })
  field_known t w e q = field_on g high low v i so_far k j more (known t) (record { base = b; keep = keep; literal = w }) e (rw q)

  pub field_own : (n s w : ℕ) → concat_bit g high low v i ≡ Some (source n s) → eqb s i && same_base b n ≡ true → w ≡ bit_or keep (power i)
      → field_from g high low v i k so_far ≡ field_from g high low v (i + 1) j (record { base = Some n; keep = w; literal = literal })
  field_own n s w e t q =
      field_on g high low v i so_far k j more (source n s) (record { base = Some n; keep = w; literal = literal }) e (rw (t, q))

-- ---- a bit that rules the fold out

module _ (g : List ℕ) (high low v m : ℕ) (bad : misplaced (concat_bit g high low v m) m ≡ true) where
  -- at that bit there is no field
  at_it : (f : Field) (k : ℕ) → field_from g high low v m (suc k) f ≡ None
  at_it f k = by (concat_bit g high low v m) refl
    where
      by : (b : Option Bit) → concat_bit g high low v m ≡ b → field_from g high low v m (suc k) f ≡ None
      by None e = rw e
      by (Some (known b)) e = absurd (true≢false (sym bad ∙ ap (λ (x : Option Bit). misplaced x m) e))
      by (Some (source n s)) e =
          let d : eqb s m ≡ false = not-true (eqb s m) (sym (ap (λ (x : Option Bit). misplaced x m) e) ∙ bad) in
          rw (e, d)

  -- nor from a lower one on
  ruled : (d k n i : ℕ) → n ≡ d + suc k → i + d ≡ m → (f : Field) → field_from g high low v i n f ≡ None
  ruled zero k n i c e f =
      let a : n ≡ suc k = omega (arith, c) in
      let b : i ≡ m = omega (arith, e) in
      rw (a, b) (at_it f k)
  ruled (suc d) k n i c e f = by (λ l. ruled d k (d + suc k) (i + 1) refl (omega (arith, e)) l) (concat_bit g high low v i) refl
    where
      more : n ≡ suc (d + suc k)
      more = omega (arith, c)

      on : ((l : Field) → field_from g high low v (i + 1) (d + suc k) l ≡ None) → (b : Bit) → concat_bit g high low v i ≡ Some b → (h : Option Field) → with_bit f i b ≡ h → field_from g high low v i n f ≡ None
      on next b q None w = field-stop g high low v i f n (d + suc k) more b q w
      on next b q (Some l) w = field_on g high low v i f n (d + suc k) more b l q w ∙ next l

      by : ((l : Field) → field_from g high low v (i + 1) (d + suc k) l ≡ None) → (b : Option Bit) → concat_bit g high low v i ≡ b → field_from g high low v i n f ≡ None
      by next None q = field-none g high low v i f n (d + suc k) more q
      by next (Some b) q = on next b q (with_bit f i b) refl

pub ruled-out : (g : List ℕ) (high low v w : ℕ) → ruled_out g high low v w ≡ true → field_from g high low v 0 w no_bits ≡ None
ruled-out g high low v w e = by (ltb v w) refl
  where
    test : (t : Bool) → ltb v w ≡ t → cond t (misplaced (concat_bit g high low v v) v) false ≡ true
    test t q = sym (ap (λ (s : Bool). cond s (misplaced (concat_bit g high low v v) v) false) q) ∙ e

    by : (t : Bool) → ltb v w ≡ t → field_from g high low v 0 w no_bits ≡ None
    by true q =
        let l : v < w = ltb-true v w q in
        ruled g high low v v (test true q) v (w - v - 1) w 0 (omega arith) (omega arith) no_bits
    by false q = absurd (true≢false (sym (test false q)))

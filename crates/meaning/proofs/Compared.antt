-- What ranges say of comparisons holds of the values, and what an operator gives of one value twice, or with a constant. Assumes nothing.
use mathlib.Core.Path.{◌≡◌, refl, sym, ap, ◌∙◌, subst}
use mathlib.Core.Bool.{Bool, true, false, not, cond, ◌&&◌}
use mathlib.Core.Logic.{◌⊎◌, inl, inr, ⊎_elim}
use Rattle.std.specs.Prelude.{Option, None, Some}
use Prim.Native.Nat.{ℕ, zero, suc, zero-le, ◌+◌, ◌-◌, ◌*◌, ◌%◌, ◌^◌, ◌≤◌, ◌<◌}
use native.Mathlib.Nat.{zero-mod, mod-eq_of_lt, le_refl, mul-one, div-one, mod-mod, min-eq_left, lt_of_le_of_lt}
use native.Mathlib.Omega.{arith}
use borrow.Author.Tests.{eq-eqb, ne_eqb, lt-ltb, le-ltb, le-leb}
use lib.Bits.{bit_and, bit_or, bit_xor, and_self, or_self, xor_self, and_le_r, and_mask, and_mod, or_mod, xor_mod, and_zero_r, or_zero_r, xor_zero_r, or_add_and}
use lib.Dec.{eqb, ltb, leb}
use lib.IntN.{ℤ, pos, negsuc, ◌+ℤ◌, ◌-ℤ◌, ◌*ℤ◌, +ℤ_invr, +ℤ_idr, *ℤ-zero}
use lib.Pow.{pow_pos, ones_lt}
use lib.Signed.{mag, lt_z, le_z, shr_z, ◌≤ℤ◌, ≤ℤ_refl}
use Rattle.word.specs.Value.{signed, residue, eq_z, fits, fitted, is_power_of_two}
use Rattle.word.specs.Option.{provided, mapped, from_bool}
use Rattle.word.proofs.Integer.{signed_low, signed_high, signed_mag, residue-signed, lt-or-ge}
use Rattle.word.proofs.Counts.{power_of_two}
use Rattle.word.proofs.Orders.{le-not_less, same_is}
use Rattle.range.specs.Interval.{Interval, ◌∈◌, same_interval, nonnegative}
use Rattle.range.specs.declared.ScalarType.{ScalarType}
use Rattle.range.specs.declared.ScalarType.TheVariants as ty
use Rattle.range.proofs.Order.{up, down, orders, less_true}
use Rattle.range.proofs.Sound.{tests, either, at_most_lem}
use Rattle.range.proofs.Answers.{some_is}
use Rattle.meaning.proofs.Answers.{of_any, answering}
use Rattle.evaluate.specs.Evaluate.{reduced, shifted_left, shifted_right, shift_width, arithmetic_shift, binary_value, by_type}
use Rattle.evaluate.specs.declared.Binary.{Binary}
use Rattle.evaluate.specs.declared.Binary.TheVariants as bi
use Rattle.evaluate.proofs.Fields.{residue-narrow}
use Rattle.evaluate.proofs.Shifts.{shift_left, shift_right, arithmetic}
use Rattle.bit_laws.proofs.Logic.{and_assoc, or_assoc, xor_assoc, and-or}
use Rattle.bit_laws.proofs.Sums.{sub_same, sub_exact}
use Rattle.fold.specs.Range.{apart, equal_ranges, less_ranges, less_equal_ranges, unsigned_too, comparison}
use Rattle.fold.specs.Operator.{comparisons}
use Rattle.fold.specs.Shape.{mask}
use Rattle.meaning.specs.Value.{size, integer_of, binary_means}
use Rattle.meaning.proofs.Invariant.{Ends}
use Rattle.meaning.proofs.Constants.{reduced_same, pattern, size-pos, valued_same}

-- ---- order and equality of integers in intervals

pub less_false : (x y : ℤ) → lt_z x y ≡ false → y ≤ℤ x
less_false x y e = at_most_lem y x (le-not_less y x e)

pub same_parts : (x y : ℤ) → up x + down y ≡ up y + down x → x ≡ y
same_parts (pos m) (pos n) e = ap pos (omega arith)
same_parts (pos m) (negsuc n) e = absurd (omega arith)
same_parts (negsuc m) (pos n) e = absurd (omega arith)
same_parts (negsuc m) (negsuc n) e = ap negsuc (omega arith)

is_less : (x y : ℤ) → up x + down y < up y + down x → lt_z x y ≡ true
is_less x y h = go (lt_z x y) refl
  where
    go : (t : Bool) → lt_z x y ≡ t → t ≡ true
    go true e = refl
    go false e = absurd (omega (orders, less_false x y e))

not_less : (x y : ℤ) → y ≤ℤ x → lt_z x y ≡ false
not_less x y h = go (lt_z x y) refl
  where
    go : (t : Bool) → lt_z x y ≡ t → t ≡ false
    go true e = absurd (omega (orders, less_true x y e))
    go false e = refl

module _ (x y : ℤ) (a b : Interval) (f : x ∈ a) (g : y ∈ b) where
  less_in : (truth : Bool) → less_ranges a b ≡ Some truth → lt_z x y ≡ truth
  less_in truth = go (lt_z a.high b.low) (le_z b.high a.low) refl refl
    where
      go : (p q : Bool) → lt_z a.high b.low ≡ p → le_z b.high a.low ≡ q
          → cond p (Some true) (cond q (Some false) None) ≡ Some truth → lt_z x y ≡ truth
      go true q d e h = is_less x y (omega (orders, less_true a.high b.low d)) ∙ cc
      go false true d e h = not_less x y (omega (orders, at_most_lem b.high a.low e)) ∙ cc
      go false false d e h = cc

  at_most_in : (truth : Bool) → less_equal_ranges a b ≡ Some truth → le_z x y ≡ truth
  at_most_in truth = go (le_z a.high b.low) (lt_z b.high a.low) refl refl
    where
      go : (p q : Bool) → le_z a.high b.low ≡ p → lt_z b.high a.low ≡ q
          → cond p (Some true) (cond q (Some false) None) ≡ Some truth → le_z x y ≡ truth
      go true q d e h = le-not_less x y (not_less y x (omega (orders, at_most_lem a.high b.low d))) ∙ cc
      go false true d e h = le-not_less x y (is_less y x (omega (orders, less_true b.high a.low e))) ∙ cc
      go false false d e h = cc

  equal_in : (truth : Bool) → equal_ranges a b ≡ Some truth → ((truth ≡ true) × (x ≡ y)) ⊎ ((truth ≡ false) × (x ≡ y → ⊥))
  equal_in truth = go (eq_z a.low a.high && same_interval a b) (apart a b) refl refl
    where
      ends : eq_z a.low a.high && same_interval a b ≡ true → x ≡ y
      ends d =
          let t = tests (eq_z a.low a.high) (same_interval a b) d in
          let s = tests (eq_z a.low b.low) (eq_z a.high b.high) t.1 in
          let l = same_is a.low a.high t.0 in
          let m = same_is a.low b.low s.0 in
          let n = same_is a.high b.high s.1 in
          same_parts x y (omega (orders, ap up l, ap down l, ap up m, ap down m, ap up n, ap down n))

      away : apart a b ≡ true → x ≡ y → ⊥
      away d q =
          ⊎_elim (λ (h : lt_z a.high b.low ≡ true). omega (orders, less_true a.high b.low h, ap up q, ap down q))
          (λ (h : lt_z b.high a.low ≡ true). omega (orders, less_true b.high a.low h, ap up q, ap down q))
          (either (lt_z a.high b.low) (lt_z b.high a.low) d)

      go : (p q : Bool) → eq_z a.low a.high && same_interval a b ≡ p → apart a b ≡ q
          → cond p (Some true) (cond q (Some false) None) ≡ Some truth → ((truth ≡ true) × (x ≡ y)) ⊎ ((truth ≡ false) × (x ≡ y → ⊥))
      go true q d e h = inl (cc, ends d)
      go false true d e h = inr (cc, away e)
      go false false d e h = inl (cc, cc)

-- ---- values as integers

below_end : (n : ℕ) (z : ℤ) (h : ℕ) → pos n ≤ℤ z → mag z < h → n < h
below_end n (pos m) h l q = omega orders
below_end n (negsuc m) h l q = absurd (omega orders)

-- a value of any type with a range is the integer that its pattern stands for
pub read : (s : ScalarType) (x : ℕ) (a : Interval) → (integer_of s x) ∈ a → Ends a → integer_of s x ≡ signed 128 x
read ty.Bool x a f e = sym (signed_low 128 x (below_end x a.high (2 ^ 127) f.below e.high))
read (ty.Bits w) x a f e = sym (signed_low 128 x (below_end x a.high (2 ^ 127) f.below e.high))
read ty.Integer x a f e = refl

-- an integer that isn't negative is its pattern
pub natural : (w x : ℕ) → x < 2 ^ w → pos 0 ≤ℤ signed w x → signed w x ≡ pos x
natural w x l h =
    ⊎_elim (λ (q : x < 2 ^ (w - 1)). signed_low w x q)
    (λ (q : 2 ^ (w - 1) ≤ x). absurd (below (2 ^ w - suc x) (subst (λ (z : ℤ). pos 0 ≤ℤ z) (signed_high w x q l) h)))
    (lt-or-ge x (2 ^ (w - 1)))
  where
    below : (n : ℕ) → pos 0 ≤ℤ negsuc n → ⊥
    below n h = omega orders

module _ (x y : ℕ) (a b : Interval) (l : x < 2 ^ 128) (m : y < 2 ^ 128) (f : (signed 128 x) ∈ a) (g : (signed 128 y) ∈ b) where
  equal_value : (truth : Bool) → equal_ranges a b ≡ Some truth → eqb x y ≡ truth
  equal_value truth e =
      ⊎_elim
      (λ (h : (truth ≡ true) × (signed 128 x ≡ signed 128 y)).
      eq-eqb x y (sym (residue-signed 128 x l) ∙ ap (residue 128) h.1 ∙ residue-signed 128 y m) ∙ sym h.0)
      (λ (h : (truth ≡ false) × (signed 128 x ≡ signed 128 y → ⊥)). ne_eqb x y (λ q. h.1 (ap (signed 128) q)) ∙ sym h.0)
      (equal_in (signed 128 x) (signed 128 y) a b f g truth e)

  equal_mapped : (r : Option Bool) (truth : Bool) → equal_ranges a b ≡ r → mapped not r ≡ Some truth → not (eqb x y) ≡ truth
  equal_mapped None truth d e = cc
  equal_mapped (Some t) truth d e = ap not (equal_value t d) ∙ cc

  pub unsigned : unsigned_too a b ≡ true → (signed 128 x ≡ pos x) × (signed 128 y ≡ pos y)
  unsigned e =
      let t = tests (nonnegative a) (nonnegative b) e in
      let p = at_most_lem (pos 0) a.low t.0 in
      let q = at_most_lem (pos 0) b.low t.1 in
      (natural 128 x l (over (signed 128 x) a.low p f.above), natural 128 y m (over (signed 128 y) b.low q g.above))
    where
      over : (z u : ℤ) → pos 0 ≤ℤ u → u ≤ℤ z → pos 0 ≤ℤ z
      over z u h k = omega orders

  less_unsigned : (t truth : Bool) → unsigned_too a b ≡ t → provided t (less_ranges a b) ≡ Some truth → ltb x y ≡ truth
  less_unsigned true truth d e =
      let u = unsigned d in
      sym (λ i. lt_z (u.0 i) (u.1 i)) ∙ less_in (signed 128 x) (signed 128 y) a b f g truth e
  less_unsigned false truth d e = cc

  at_most_unsigned : (t truth : Bool) → unsigned_too a b ≡ t → provided t (less_equal_ranges a b) ≡ Some truth → leb x y ≡ truth
  at_most_unsigned true truth d e =
      let u = unsigned d in
      sym (λ i. le_z (u.0 i) (u.1 i)) ∙ at_most_in (signed 128 x) (signed 128 y) a b f g truth e
  at_most_unsigned false truth d e = cc

  compared : (o : Binary) (truth : Bool) → comparison o a b ≡ Some truth → binary_value o ty.Bool x y ≡ Some (from_bool truth)
  unfolding comparison binary_value
  compared o truth e =
      of_any (λ o. comparison o a b ≡ Some truth → binary_value o ty.Bool x y ≡ Some (from_bool truth)) comparisons
      (λ e. so (less_in (signed 128 x) (signed 128 y) a b f g truth e))
      (λ e. so (less_unsigned (unsigned_too a b) truth refl e))
      (λ e. so (at_most_in (signed 128 x) (signed 128 y) a b f g truth e))
      (λ e. so (at_most_unsigned (unsigned_too a b) truth refl e))
      (λ e. so (equal_value truth e))
      (λ e. so (equal_mapped (equal_ranges a b) truth refl e))
      o (answering comparisons (λ o. comparison o a b) refl o e) e
    where
      so : {s : Bool} → s ≡ truth → Some (from_bool s) ≡ Some (from_bool truth)
      so q = ap (λ (t : Bool). Some (from_bool t)) q

pub comparison_sound : (o : Binary) (s : ScalarType) (x y : ℕ) (a b : Interval) (truth : Bool) → x < 2 ^ 128 → y < 2 ^ 128
    → (integer_of s x) ∈ a → (integer_of s y) ∈ b → Ends a → Ends b → comparison o a b ≡ Some truth
    → binary_value o ty.Bool x y ≡ Some (from_bool truth)
comparison_sound o s x y a b truth l m f g p q e =
    compared x y a b l m (subst (λ (z : ℤ). z ∈ a) (read s x a f p) f) (subst (λ (z : ℤ). z ∈ b) (read s y b g q) g) o truth e

-- ---- one value twice

-- an integer of a pattern, as an answer
answer : (z : ℤ) (x : ℕ) → x < 2 ^ 128 → z ≡ signed 128 x → mapped (residue 128) (fitted z) ≡ Some x
unfolding fits
answer z x l e =
    let m : mag (signed 128 x) < 2 ^ 127 = signed_mag 128 x (omega arith) l in
    rw (e, lt-ltb (mag (signed 128 x)) (2 ^ 127) m) (ap Some (residue-signed 128 x l))

-- what is the value x of the type t, as an answer
module _ (t : ScalarType) (x : ℕ) (l : x < size t) where
  kept : (n : ℕ) → n ≡ x → ◌≡◌ {A = Option ℕ} (Some (reduced t n)) (Some x)
  kept n e = ap (λ (n : ℕ). Some (reduced t n)) e ∙ ap Some (reduced_same t x l)

  -- of a sum, a difference or a product: n in Bool and Bits, z in Integer
  kept_sum : x < 2 ^ 128 → (n : ℕ) (z : ℤ) → n ≡ x → z ≡ signed 128 x → mapped (reduced t) (by_type t (mapped (residue 128) (fitted z)) (Some n)) ≡ Some x
  kept_sum m n z e f = go t (kept n e)
    where
      go : (t : ScalarType) → Some (reduced t n) ≡ Some x → mapped (reduced t) (by_type t (mapped (residue 128) (fitted z)) (Some n)) ≡ Some x
      go ty.Bool k = k
      go (ty.Bits w) k = k
      go ty.Integer k = ap (mapped (reduced ty.Integer)) (answer z x m f)

zero-signed : signed 128 0 ≡ pos 0
zero-signed = signed_low 128 0 (pow_pos 127)

module _ (t : ScalarType) (x : ℕ) where
  pub sub_twice : x < 2 ^ 128 → binary_value bi.Sub t x x ≡ Some 0
  unfolding binary_value
  sub_twice l = kept_sum t 0 (size-pos t) (pow_pos 128) _ _ (sub_same x (2 ^ 128) l) (+ℤ_invr (signed 128 x) ∙ sym zero-signed)

  pub xor_twice : binary_value bi.Xor t x x ≡ Some 0
  unfolding binary_value
  xor_twice = kept t 0 (size-pos t) (bit_xor x x) (xor_self x)

  pub and_twice : x < size t → binary_value bi.And t x x ≡ Some x
  unfolding binary_value
  and_twice l = kept t x l (bit_and x x) (and_self x)

  pub or_twice : x < size t → binary_value bi.Or t x x ≡ Some x
  unfolding binary_value
  or_twice l = kept t x l (bit_or x x) (or_self x)

module _ (x : ℕ) where
  pub equal_twice : binary_value bi.Equal ty.Bool x x ≡ Some 1
  unfolding binary_value
  equal_twice = rw (eq-eqb x x refl)

  pub not_equal_twice : binary_value bi.NotEqual ty.Bool x x ≡ Some 0
  unfolding binary_value
  not_equal_twice = rw (eq-eqb x x refl)

  pub less_signed_twice : binary_value bi.LessSigned ty.Bool x x ≡ Some 0
  unfolding binary_value
  less_signed_twice = rw (not_less (signed 128 x) (signed 128 x) (≤ℤ_refl (signed 128 x)))

  pub less_unsigned_twice : binary_value bi.LessUnsigned ty.Bool x x ≡ Some 0
  unfolding binary_value
  less_unsigned_twice = rw (le-ltb x x (le_refl x))

  pub at_most-signed_twice : binary_value bi.LessEqualSigned ty.Bool x x ≡ Some 1
  unfolding binary_value
  at_most-signed_twice = rw (le-not_less (signed 128 x) (signed 128 x) (not_less (signed 128 x) (signed 128 x) (≤ℤ_refl (signed 128 x))))

  pub at_most_unsigned_twice : binary_value bi.LessEqualUnsigned ty.Bool x x ≡ Some 1
  unfolding binary_value
  at_most_unsigned_twice = rw (le-leb x x (le_refl x))

-- ---- 0 on the right

plus_zero : (n : ℕ) → n + 0 ≡ n
plus_zero n = omega arith

minus_zero : (n : ℕ) → n - 0 ≡ n
minus_zero n = omega arith

times_zero : (n : ℕ) → n * 0 ≡ 0
times_zero n = omega arith

shr_one : (z : ℤ) → shr_z z 1 ≡ z
shr_one (pos n) = ap pos (div-one n)
shr_one (negsuc n) = ap negsuc (div-one n)

module _ (t : ScalarType) (x : ℕ) where
  pub and_zero : binary_value bi.And t x 0 ≡ Some 0
  unfolding binary_value
  and_zero = kept t 0 (size-pos t) (bit_and x 0) (and_zero_r x)

  pub mul-zero : binary_value bi.Mul t x 0 ≡ Some 0
  unfolding binary_value
  mul-zero =
      kept_sum t 0 (size-pos t) (pow_pos 128) _ _ (ap (λ (n : ℕ). n % 2 ^ 128) (times_zero x) ∙ zero-mod (2 ^ 128))
      (ap (λ (z : ℤ). signed 128 x *ℤ z) zero-signed ∙ *ℤ-zero (signed 128 x) ∙ sym zero-signed)

  module _ (l : x < size t) where
    pub or-zero : binary_value bi.Or t x 0 ≡ Some x
    unfolding binary_value
    or-zero = kept t x l (bit_or x 0) (or_zero_r x)

    pub xor-zero : binary_value bi.Xor t x 0 ≡ Some x
    unfolding binary_value
    xor-zero = kept t x l (bit_xor x 0) (xor_zero_r x)

    module _ (m : x < 2 ^ 128) where
      pub shift_left_zero : binary_value bi.ShiftLeft t x 0 ≡ Some x
      unfolding binary_value
      shift_left_zero = kept t x l (shifted_left x 0) (shift_left x 0 ∙ ap (λ (n : ℕ). n % 2 ^ 128) (mul-one x) ∙ mod-eq_of_lt m)

      pub shift_right_zero : binary_value bi.ShiftRight t x 0 ≡ Some x
      unfolding binary_value
      shift_right_zero = kept t x l (shifted_right x 0) (shift_right x 0 m ∙ div-one x)

      pub add-zero : binary_value bi.Add t x 0 ≡ Some x
      unfolding binary_value
      add-zero =
          kept_sum t x l m _ _ (ap (λ (n : ℕ). n % 2 ^ 128) (plus_zero x) ∙ mod-eq_of_lt m)
          (ap (λ (z : ℤ). signed 128 x +ℤ z) zero-signed ∙ +ℤ_idr (signed 128 x))

      pub sub-zero : binary_value bi.Sub t x 0 ≡ Some x
      unfolding binary_value
      sub-zero =
          kept_sum t x l m _ _ (sub_exact x 0 (2 ^ 128) m zero-le ∙ minus_zero x) (ap (λ (z : ℤ). signed 128 x -ℤ z) zero-signed ∙ +ℤ_idr (signed 128 x))

arithmetic-none : (x w : ℕ) → w ≤ 128 → x < 2 ^ w → arithmetic_shift w x 0 % 2 ^ w ≡ x
arithmetic-none x zero h l = omega arith
arithmetic-none x (suc w) h l =
    ap (λ (n : ℕ). n % 2 ^ suc w) (arithmetic (suc w) x (omega arith) l h 0 ∙ ap (residue 128) (shr_one (signed (suc w) x)))
    ∙ residue-narrow (signed (suc w) x) 128 (suc w) h ∙ residue-signed (suc w) x l

arithmetic_all : (x : ℕ) → x < 2 ^ 128 → arithmetic_shift 128 x 0 ≡ x
arithmetic_all x m = arithmetic 128 x (omega arith) m (omega arith) 0 ∙ ap (residue 128) (shr_one (signed 128 x)) ∙ residue-signed 128 x m

pub arithmetic-zero : (t : ScalarType) (x : ℕ) → shift_width t ≤ 128 → x < size t → binary_value bi.ArithmeticShiftRight t x 0 ≡ Some x
unfolding binary_value
arithmetic-zero ty.Bool x h l = ap Some (arithmetic_all x (pattern ty.Bool x (omega arith) l))
arithmetic-zero (ty.Bits w) x h l = ap Some (arithmetic-none x w h l)
arithmetic-zero ty.Integer x h l = ap Some (arithmetic_all x l)

-- ---- all ones on the right

pub mask_is : (w : ℕ) → w ≤ 128 → mask w ≡ 2 ^ w - 1
mask_is w h = ap (λ (n : ℕ). 2 ^ n - 1) (min-eq_left h)

module _ (w x : ℕ) (l : x < 2 ^ w) where
  ones_and : bit_and x (2 ^ w - 1) ≡ x
  ones_and = and_mask x w ∙ mod-eq_of_lt l

  ones_or : bit_or x (2 ^ w - 1) ≡ 2 ^ w - 1
  ones_or = go (bit_or x (2 ^ w - 1)) (bit_and x (2 ^ w - 1)) (2 ^ w - 1) (or_add_and x (2 ^ w - 1)) ones_and
    where
      go : (p q n : ℕ) → p + q ≡ x + n → q ≡ x → p ≡ n
      go p q n e f = omega arith

  pub and_ones : binary_value bi.And (ty.Bits w) x (2 ^ w - 1) ≡ Some x
  unfolding binary_value
  and_ones = ap (λ (n : ℕ). Some (n % 2 ^ w)) ones_and ∙ ap Some (mod-eq_of_lt l)

  pub or_ones : binary_value bi.Or (ty.Bits w) x (2 ^ w - 1) ≡ Some (2 ^ w - 1)
  unfolding binary_value
  or_ones = ap (λ (n : ℕ). Some (n % 2 ^ w)) ones_or ∙ ap Some (mod-eq_of_lt (ones_lt w))

-- the same of Bool
pub and-true : (x : ℕ) → x < 2 → binary_value bi.And ty.Bool x 1 ≡ Some x
unfolding binary_value
and-true x l = ap Some (ones_and 1 x l)

pub or-true : (x : ℕ) → x < 2 → binary_value bi.Or ty.Bool x 1 ≡ Some 1
unfolding binary_value
or-true x l = ap Some (ones_or 1 x l)

-- And with a constant of Bits(w), as a node's value
pub mask_value : (w x m : ℕ) → m < 2 ^ w → binary_means (ty.Bits w) bi.And (Some x) (Some (reduced (ty.Bits w) m)) ≡ Some (bit_and x m)
unfolding binary_value
mask_value w x m l =
    (λ k. binary_means (ty.Bits w) bi.And (Some x) (Some (mod-eq_of_lt l k))) ∙ valued_same (ty.Bits w) (bit_and x m) (lt_of_le_of_lt (and_le_r x m) l)

-- ---- masks of masks

-- an operation on low bits: what is reduced before needs not be
module _ (f : ℕ → ℕ → ℕ) (low : (a b k : ℕ) → f a b % 2 ^ k ≡ f (a % 2 ^ k) (b % 2 ^ k)) where
  left_reduced : (t : ScalarType) (a b : ℕ) → reduced t (f (reduced t a) b) ≡ reduced t (f a b)
  left_reduced ty.Bool a b = refl
  left_reduced (ty.Bits w) a b =
      low (a % 2 ^ w) b w ∙ ap (λ (n : ℕ). f n (b % 2 ^ w)) (mod-mod a (2 ^ w)) ∙ sym (low a b w)
  left_reduced ty.Integer a b = refl

  right_reduced : (t : ScalarType) (a b : ℕ) → reduced t (f a (reduced t b)) ≡ reduced t (f a b)
  right_reduced ty.Bool a b = refl
  right_reduced (ty.Bits w) a b = low a (b % 2 ^ w) w ∙ ap (f (a % 2 ^ w)) (mod-mod b (2 ^ w)) ∙ sym (low a b w)
  right_reduced ty.Integer a b = refl

  merged : ((a b c : ℕ) → f (f a b) c ≡ f a (f b c)) → (t : ScalarType) (x c d v k : ℕ)
      → Some (reduced t (f x c)) ≡ Some v → Some (reduced t (f c d)) ≡ Some k → ◌≡◌ {A = Option ℕ} (Some (reduced t (f v d))) (Some (reduced t (f x k)))
  merged assoc t x c d v k p q =
      let p' : reduced t (f x c) ≡ v = some_is p in
      let q' : reduced t (f c d) ≡ k = some_is q in
      rw (← p', ← q') (ap Some (left_reduced t (f x c) d ∙ ap (reduced t) (assoc x c d) ∙ sym (right_reduced t x (f c d))))

-- v is the operation of x and c, k that of c and d
module _ (t : ScalarType) (x c d v k : ℕ) where
  pub and_merged : binary_value bi.And t x c ≡ Some v → binary_value bi.And t c d ≡ Some k → binary_value bi.And t v d ≡ binary_value bi.And t x k
  unfolding binary_value
  and_merged = merged bit_and and_mod and_assoc t x c d v k

  pub or_merged : binary_value bi.Or t x c ≡ Some v → binary_value bi.Or t c d ≡ Some k → binary_value bi.Or t v d ≡ binary_value bi.Or t x k
  unfolding binary_value
  or_merged = merged bit_or or_mod or_assoc t x c d v k

  pub xor_merged : binary_value bi.Xor t x c ≡ Some v → binary_value bi.Xor t c d ≡ Some k → binary_value bi.Xor t v d ≡ binary_value bi.Xor t x k
  unfolding binary_value
  xor_merged = merged bit_xor xor_mod xor_assoc t x c d v k

-- v is x or c, u is x and d
module _ (t : ScalarType) (x c d v u : ℕ) (p : binary_value bi.Or t x c ≡ Some v) (q : binary_value bi.And t x d ≡ Some u) where
  and_of_or : binary_value bi.And t v d ≡ binary_value bi.Or t u (bit_and c d)
  unfolding binary_value
  and_of_or =
      let p' : reduced t (bit_or x c) ≡ v = some_is p in
      let q' : reduced t (bit_and x d) ≡ u = some_is q in
      rw (← p', ← q')
      (ap Some
      (left_reduced bit_and and_mod t (bit_or x c) d ∙ ap (reduced t) (and-or x c d) ∙ sym (left_reduced bit_or or_mod t (bit_and x d) (bit_and c d))))

  -- k is c and d
  pub and_of_or_merged : (k : ℕ) → binary_value bi.And t c d ≡ Some k → binary_value bi.And t v d ≡ binary_value bi.Or t u k
  unfolding binary_value
  and_of_or_merged k r =
      let r' : reduced t (bit_and c d) ≡ k = some_is r in
      and_of_or ∙ rw (← r') (ap Some (sym (right_reduced bit_or or_mod t u (bit_and c d))))

-- ---- the remainder by a power of two

remainder-and : (t : ScalarType) (x k : ℕ) → binary_value bi.RemainderUnsigned t x (2 ^ k) ≡ binary_value bi.And t x (2 ^ k - 1)
unfolding binary_value
remainder-and t x k = rw (lt-ltb 0 (2 ^ k) (pow_pos k)) (ap (λ (n : ℕ). Some (reduced t n)) (sym (and_mask x k)))

pub remainder_power : (t : ScalarType) (x b : ℕ) → is_power_of_two b ≡ true → binary_value bi.RemainderUnsigned t x b ≡ binary_value bi.And t x (b - 1)
remainder_power t x b e = let p = power_of_two b e in rw p.1 (remainder-and t x p.0)

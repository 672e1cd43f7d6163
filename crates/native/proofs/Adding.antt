-- A builder whose plan is one node: its answer is that of adding the node. Assumes nothing.
use mathlib.Core.Path.{◌≡◌, refl, sym, ap, subst}
use mathlib.Core.Bool.{Bool, true, false, not, ◌&&◌, false≢true}
use mathlib.Core.List.{List}
use Rattle.std.specs.Prelude.{Option, None, Some}
use Prim.Native.Nat.{ℕ, ◌-◌}
use native.Mathlib.Omega.{arith}
use lib.Dec.{eqb}
use Rattle.word.specs.Option.{is_some, provided}
use Rattle.answer.specs.declared.Refusal.{Refusal}
use Rattle.range.specs.Interval.{Interval}
use Rattle.range.specs.declared.ScalarType.{ScalarType}
use Rattle.range.specs.declared.ScalarType.TheVariants as ty
use Rattle.evaluate.specs.Operator.{unary_width}
use Rattle.evaluate.specs.declared.Unary.{Unary}
use Rattle.evaluate.specs.declared.Unary.TheVariants as un
use Rattle.evaluate.specs.declared.Binary.{Binary}
use Rattle.graph.specs.Node.{Op}
use Rattle.graph.specs.Insert.{literal, resolve, inserted}
use Rattle.fold.specs.Operator.{equalities, shifts}
use Rattle.fold.specs.Shape.{same_type, is_any}
use Rattle.bitfield.specs.Bitfield.{fold_masked_comparison}
use Rattle.plan.specs.Plan as plan
use Rattle.plan.specs.Plan.{Plan, does, tries, Rest, unary_rest, slice_rest, is_stop}
use Rattle.plan.specs.OneOperand.{is_reduction, modular_plan, unary_plan, unary_first}
use Rattle.plan_binary.specs.Binary.{shift_plan, binary_plan, binary_first}
use Rattle.plan_slice.specs.Slice.{slice_plan, slice_first}
use Rattle.build.specs.Rest.{rest_plan}
use Rattle.build.specs.Build.{Call, unary, binary, slice, plan_prog, first_prog, step, exec, build}
use Rattle.build.proofs.Laws.{build_step, try_stop, on_id-tail}
use Rattle.native.specs.Perform.{UNITS, leaf_out, builder_out}

-- ---- tests

no_fact : {A : Type 0} (o : Option A) → not (is_some o) ≡ true → o ≡ None
no_fact None e = refl
no_fact (Some a) e = absurd (false≢true e)

left_test : (s t : Bool) → s && t ≡ true → s ≡ true
left_test true t e = refl
left_test false t e = e

right_test : (s t : Bool) → s && t ≡ true → t ≡ true
right_test true t e = e
right_test false t e = absurd (false≢true e)

no_test : (s : Bool) → not s ≡ true → s ≡ false
no_test true e = sym e
no_test false e = refl

nothing-provided : {A : Type 0} (s : Bool) (o : Option A) → not (s && is_some o) ≡ true → provided s o ≡ None
nothing-provided true o e = no_fact o e
nothing-provided false o e = refl

-- a fold that is tried, if at all, has no plan
has_none : (s t : Bool) → not (s && not t) ≡ true → s ≡ true → t ≡ true
has_none true true e h = refl
has_none true false e h = e
has_none false t e h = absurd (false≢true h)

-- ---- a plan that is one node

module _ (full : Refusal) (g : List ℕ) (s : ScalarType) (q : Option Interval) (p : Op) where
  added : (m : Plan) (u : ℕ) → m ≡ plan.add s q p → builder_out full (exec build (plan_prog m) u g) ≡ leaf_out full (inserted g s q p)
  added m u e = rw (e, on_id-tail)

  does_added : (c : Call) (m : Plan) → step c g ≡ first_prog (does m) → m ≡ plan.add s q p → builder_out full (build c UNITS g) ≡ leaf_out full (inserted g s q p)
  does_added c m f e = rw (build_step c UNITS g (λ z. omega (arith, z)), f) (added m (UNITS - 1) e)

  tries_added : (c : Call) (n w : ℕ) (r : Rest) → step c g ≡ first_prog (tries (plan.modular n w) r) → is_stop (modular_plan g n w) ≡ true
      → rest_plan g r ≡ plan.add s q p → builder_out full (build c UNITS g) ≡ leaf_out full (inserted g s q p)
  tries_added c n w r f h e =
      rw (build_step c UNITS g (λ z. omega (arith, z)), f, try_stop n w (UNITS - 1) (UNITS - 2) (λ j. plan_prog (rest_plan j r)) g refl h)
      (added (rest_plan g r) (UNITS - 2) e)

-- ---- unary

-- a reduction's type is that of its parameter
reduction_type : (t : ScalarType) (o : Unary) → is_reduction t o ≡ true → same_type t (ty.Bits (unary_width o)) ≡ true
reduction_type ty.Bool o e = absurd (false≢true e)
reduction_type ty.Integer o e = absurd (false≢true e)
reduction_type (ty.Bits w) un.BoolNot e = absurd (false≢true e)
reduction_type (ty.Bits w) un.BitNot e = absurd (false≢true e)
reduction_type (ty.Bits w) un.Negate e = absurd (false≢true e)
reduction_type (ty.Bits w) (un.Truncate v) e = e
reduction_type (ty.Bits w) (un.SignExtend v) e = absurd (false≢true e)
reduction_type (ty.Bits w) (un.LeadingZeros v) e = absurd (false≢true e)
reduction_type (ty.Bits w) (un.TrailingZeros v) e = absurd (false≢true e)

module _ (full : Refusal) (g : List ℕ) (t : ScalarType) (o : Unary) (v : ℕ) (s : ScalarType) (q : Option Interval) (p : Op) where
  abbrev n : ℕ
  n = resolve g v

  unary_by : (b : Bool) → is_reduction t o ≡ b → literal g n ≡ None → not (same_type t (ty.Bits (unary_width o)) && not (is_stop (modular_plan g n (unary_width o)))) ≡ true
      → unary_plan g t o n ≡ plan.add s q p → builder_out full (build (unary t o v) UNITS g) ≡ leaf_out full (inserted g s q p)
  unfolding unary_first rest_plan
  unary_by true r l h e =
      tries_added full g s q p (unary t o v) n (unary_width o) (unary_rest t o n) (rw (l, r)) (has_none _ _ h (reduction_type t o r)) e
  unary_by false r l h e = does_added full g s q p (unary t o v) (unary_plan g t o n) (rw (l, r)) e

  unary_added : not (is_some (literal g n)) && not (same_type t (ty.Bits (unary_width o)) && not (is_stop (modular_plan g n (unary_width o)))) ≡ true
      → unary_plan g t o n ≡ plan.add s q p → builder_out full (build (unary t o v) UNITS g) ≡ leaf_out full (inserted g s q p)
  unary_added h e = unary_by (is_reduction t o) refl (no_fact (literal g n) (left_test _ _ h)) (right_test (not (is_some (literal g n))) _ h) e

  -- the same where the operand is resolved already
  pub unary_at : (i : ℕ) → i ≡ n → not (is_some (literal g i)) && not (same_type t (ty.Bits (unary_width o)) && not (is_stop (modular_plan g i (unary_width o)))) ≡ true
      → unary_plan g t o i ≡ plan.add s q p → builder_out full (build (unary t o v) UNITS g) ≡ leaf_out full (inserted g s q p)
  unary_at i k h e =
      unary_added (subst (λ (j : ℕ). not (is_some (literal g j)) && not (same_type t (ty.Bits (unary_width o)) && not (is_stop (modular_plan g j (unary_width o)))) ≡ true) k h)
      (subst (λ (j : ℕ). unary_plan g t o j ≡ plan.add s q p) k e)

-- ---- binary

no_shift : (g : List ℕ) (t : ScalarType) (o : Binary) (n : ℕ) (b : Option ℕ) → is_any shifts o ≡ false → shift_plan g t o n b ≡ None
no_shift g ty.Bool o n b e = refl
no_shift g (ty.Bits w) o n b e = rw e
no_shift g ty.Integer o n b e = refl

module _ (full : Refusal) (g : List ℕ) (t : ScalarType) (o : Binary) (l r : ℕ) (s : ScalarType) (q : Option Interval) (p : Op) where
  abbrev a : ℕ
  a = resolve g l

  abbrev b : ℕ
  b = resolve g r

  binary-does : literal g a ≡ None → is_any shifts o ≡ false → provided (is_any equalities o) (fold_masked_comparison g o a b) ≡ None
      → binary_first g t o a b ≡ does (binary_plan g t o a b)
  unfolding binary_first
  binary-does x y z = rw (x, no_shift g t o a (literal g b) y, z)

  binary_added : not (is_some (literal g a)) && (not (is_any shifts o) && not (is_any equalities o && is_some (fold_masked_comparison g o a b))) ≡ true
      → binary_plan g t o a b ≡ plan.add s q p → builder_out full (build (binary t o l r) UNITS g) ≡ leaf_out full (inserted g s q p)
  binary_added h e =
      let masked = is_any equalities o && is_some (fold_masked_comparison g o a b) in
      let k = right_test (not (is_some (literal g a))) (not (is_any shifts o) && not masked) h in
      does_added full g s q p (binary t o l r) (binary_plan g t o a b)
      (ap first_prog (binary-does (no_fact (literal g a) (left_test _ (not (is_any shifts o) && not masked) h)) (no_test (is_any shifts o) (left_test _ (not masked) k))
      (nothing-provided (is_any equalities o) (fold_masked_comparison g o a b) (right_test (not (is_any shifts o)) (not masked) k))))
      e

  -- the same where the operands are resolved already
  pub binary_at : (i j : ℕ) → i ≡ a → j ≡ b → not (is_some (literal g i)) && (not (is_any shifts o) && not (is_any equalities o && is_some (fold_masked_comparison g o i j))) ≡ true
      → binary_plan g t o i j ≡ plan.add s q p → builder_out full (build (binary t o l r) UNITS g) ≡ leaf_out full (inserted g s q p)
  binary_at i j x y h e = binary_added (subst (λ (k : ℕ). not (is_some (literal g a)) && (not (is_any shifts o) && not (is_any equalities o && is_some (fold_masked_comparison g o a k))) ≡ true) y (subst (λ (k : ℕ). not (is_some (literal g k)) && (not (is_any shifts o) && not (is_any equalities o && is_some (fold_masked_comparison g o k j))) ≡ true) x h))
      (subst (λ (k : ℕ). binary_plan g t o a k ≡ plan.add s q p) y (subst (λ (k : ℕ). binary_plan g t o k j ≡ plan.add s q p) x e))

-- ---- slice

module _ (full : Refusal) (g : List ℕ) (v o w : ℕ) (s : ScalarType) (q : Option Interval) (p : Op) where
  abbrev m : ℕ
  m = resolve g v

  slice_by : (b : Bool) → eqb o 0 ≡ b → literal g m ≡ None → not (eqb o 0 && not (is_stop (modular_plan g m w))) ≡ true
      → slice_plan g m o w ≡ plan.add s q p → builder_out full (build (slice v o w) UNITS g) ≡ leaf_out full (inserted g s q p)
  unfolding slice_first rest_plan
  slice_by true r l h e = tries_added full g s q p (slice v o w) m w (slice_rest m o w) (rw (l, r)) (has_none _ _ h r) e
  slice_by false r l h e = does_added full g s q p (slice v o w) (slice_plan g m o w) (rw (l, r)) e

  slice_added : not (is_some (literal g m)) && not (eqb o 0 && not (is_stop (modular_plan g m w))) ≡ true
      → slice_plan g m o w ≡ plan.add s q p → builder_out full (build (slice v o w) UNITS g) ≡ leaf_out full (inserted g s q p)
  slice_added h e = slice_by (eqb o 0) refl (no_fact (literal g m) (left_test _ _ h)) (right_test (not (is_some (literal g m))) _ h) e

  -- the same where the operand is resolved already
  pub slice_at : (i : ℕ) → i ≡ m → not (is_some (literal g i)) && not (eqb o 0 && not (is_stop (modular_plan g i w))) ≡ true
      → slice_plan g i o w ≡ plan.add s q p → builder_out full (build (slice v o w) UNITS g) ≡ leaf_out full (inserted g s q p)
  slice_at i k h e =
      slice_added (subst (λ (j : ℕ). not (is_some (literal g j)) && not (eqb o 0 && not (is_stop (modular_plan g j w))) ≡ true) k h)
      (subst (λ (j : ℕ). slice_plan g j o w ≡ plan.add s q p) k e)

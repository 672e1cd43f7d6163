-- Every plan is good, so the six builders are sound. Assumes nothing.
use mathlib.Core.Path.{◌≡◌, refl, sym, ap, ◌∙◌, subst}
use mathlib.Core.Bool.{Bool, true, false, cond, false≢true}
use mathlib.Core.List.{List}
use Rattle.std.specs.Prelude.{Option, None, Some}
use Prim.Native.Nat.{ℕ}
use Rattle.word.specs.Option.{given}
use borrow.Author.Tests.{eqb-true}
use Rattle.range.specs.declared.ScalarType.{ScalarType}
use Rattle.range.specs.declared.ScalarType.TheVariants as ty
use Rattle.evaluate.specs.Evaluate.{unary_value}
use Rattle.evaluate.specs.Operator.{unary_width}
use Rattle.evaluate.specs.declared.Unary.{Unary}
use Rattle.evaluate.specs.declared.Unary.TheVariants as un
use Rattle.graph.specs.Insert.{literal, resolve}
use Rattle.plan.specs.Plan as plan
use Rattle.plan.specs.Plan.{does, tries, unary_rest, constant_or}
use Rattle.plan.specs.OneOperand.{identity_plan, is_reduction, unary_plan, unary_open, unary_first, modular_plan}
use Rattle.plan_slice.specs.Slice.{slice_first, concat_first}
use Rattle.plan_binary.specs.Binary.{binary_first}
use Rattle.build.specs.Build.{Call, identity, unary, modular, binary, slice, concat, step, build}
use Rattle.build.specs.Rest.{rest_plan}
use Rattle.request.specs.Typing.{unary_typed, concat_typed}
use Rattle.meaning.specs.Value.{valued, and_then, unary_means, binary_means, slice_means, concat_means}
use Rattle.meaning.proofs.Worlds.{World, value}
use Rattle.meaning.proofs.Binary.{binary_first_claim}
use Rattle.meaning.proofs.Concat.{concat_first_claim}
use Rattle.meaning.proofs.Invariant.{stored_typed, Inv, ext_here, ext_type, ext_value, Kept, resolve_leads}
use Rattle.meaning.proofs.Modular.{modular_claim}
use Rattle.meaning.proofs.Plans.{Claim, Tail, FirstClaim, perform_good, first_good}
use Rattle.meaning.proofs.Slice.{slice_first_claim}
use Rattle.meaning.proofs.Tree.{type_of, meaning, Callable, Sound, Good, build_sound}
use Rattle.meaning.proofs.Unary.{unary-constant_claim, unary_plan_claim}
use Rattle.meaning.proofs.Views.{identity_claim, covers_truncate}

-- ---- unary

-- a truncation to the result's own width
reduction_is : (t : ScalarType) (o : Unary) → is_reduction t o ≡ true → (w : ℕ) × (t ≡ ty.Bits w) × (o ≡ un.Truncate w)
reduction_is ty.Bool o e = absurd (false≢true e)
reduction_is ty.Integer o e = absurd (false≢true e)
reduction_is (ty.Bits t) un.BoolNot e = absurd (false≢true e)
reduction_is (ty.Bits t) un.BitNot e = absurd (false≢true e)
reduction_is (ty.Bits t) un.Negate e = absurd (false≢true e)
reduction_is (ty.Bits t) (un.Truncate w) e = (w, ap ty.Bits (eqb-true t w e), refl)
reduction_is (ty.Bits t) (un.SignExtend w) e = absurd (false≢true e)
reduction_is (ty.Bits t) (un.LeadingZeros w) e = absurd (false≢true e)
reduction_is (ty.Bits t) (un.TrailingZeros w) e = absurd (false≢true e)

module _ {ρ : World} {g : List ℕ} (i : Inv ρ g) (t : ScalarType) (o : Unary) (n : ℕ) (k : Callable g (unary t o n)) where
  -- after modular, on the graph as it then is
  rest_claim : (h : List ℕ) → Kept ρ g h → Claim ρ h t (unary_means t o (value ρ g n)) (rest_plan h (unary_rest t o n))
  unfolding rest_plan
  rest_claim h a =
      subst (λ (w : Option ℕ). Claim ρ h t (unary_means t o w) (unary_plan h t o n)) (ext_value ρ a.grows n k.2)
      (unary_plan_claim a.inv n (ext_here a.grows n k.2) t o k.0 k.1
      (ap (λ (s : ScalarType). unary_typed o s t) (ext_type a.grows n k.2) ∙ k.3))

  modular-tail : is_reduction t o ≡ true → Tail ρ g t (unary_means t o (value ρ g n)) (modular n (unary_width o))
  modular-tail e =
      let p = reduction_is t o e in (
        (k.1, k.2),
        ap (λ (u : Unary). ty.Bits (unary_width u)) p.2 ∙ sym p.1,
        λ sure x q.
            (λ j. and_then (value ρ g n) (valued (ty.Bits (unary_width (p.2 j)))))
            ∙ covers_truncate p.0 (value ρ g n) x ((λ j. unary_means (sym p.1 j) (sym p.2 j) (value ρ g n)) ∙ q),
      )

  unary_first_claim : FirstClaim ρ g t (unary_means t o (value ρ g n)) (unary_first g t o n)
  unfolding unary_first
  unary_first_claim = by (literal g n) refl
    where
      open_claim : (b : Bool) → is_reduction t o ≡ b
          → FirstClaim ρ g t (unary_means t o (value ρ g n)) (cond b (tries (plan.modular n (unary_width o)) (unary_rest t o n)) (does (unary_plan g t o n)))
      open_claim true e = (modular-tail e, rest_claim)
      open_claim false e = unary_plan_claim i n k.2 t o k.0 k.1 k.3

      by : (c : Option ℕ) → literal g n ≡ c
          → FirstClaim ρ g t (unary_means t o (value ρ g n)) (given c (λ c. does (constant_or t (unary_value o c))) (unary_open g t o n))
      by None e = open_claim (is_reduction t o) refl
      by (Some c) e = unary-constant_claim i n k.2 t o k.0 k.1 k.3 c e

-- ---- every builder, its operands resolved

plans : (ρ : World) (c : Call) (g : List ℕ) → Inv ρ g → Callable g c → Good ρ (type_of c) (meaning (value ρ g) c) (step c g) g
plans ρ (identity t v) g i k = perform_good ρ t (and_then (value ρ g v) (valued t)) g i (identity_plan g t v) (identity_claim i v k.1 t k.0)
plans ρ (unary t o v) g i k =
    let d = resolve_leads ρ g i v k.2 in
    subst (λ (w : Option ℕ). Good ρ t (unary_means t o w) (step (unary t o v) g) g) d.means
    (first_good ρ t (unary_means t o (value ρ g (resolve g v))) g i (unary_first g t o (resolve g v))
    (unary_first_claim i t o (resolve g v) (k.0, k.1, d.here, ap (λ (s : ScalarType). unary_typed o s t) d.type ∙ k.3)))
plans ρ (modular v w) g i k = perform_good ρ (ty.Bits w) (and_then (value ρ g v) (valued (ty.Bits w))) g i (modular_plan g v w) (modular_claim i w k.0 v k.1)
plans ρ (binary t o l r) g i k =
    let a = resolve_leads ρ g i l k.1 in
    let b = resolve_leads ρ g i r k.2 in
    subst (λ (w : Option ℕ). Good ρ t w (step (binary t o l r) g) g) (λ j. binary_means t o (a.means j) (b.means j))
    (first_good ρ t (binary_means t o (value ρ g (resolve g l)) (value ρ g (resolve g r))) g i (binary_first g t o (resolve g l) (resolve g r))
    (binary_first_claim i t o (resolve g l) (resolve g r)
    (k.0, a.here, b.here, (λ j. stored_typed o (a.type j) (b.type j) t) ∙ k.3)))
plans ρ (slice v o w) g i k =
    let d = resolve_leads ρ g i v k.1 in
    subst (λ (a : Option ℕ). Good ρ (ty.Bits w) (slice_means (ty.Bits w) o a) (step (slice v o w) g) g) d.means
    (first_good ρ (ty.Bits w) (slice_means (ty.Bits w) o (value ρ g (resolve g v))) g i (slice_first g (resolve g v) o w) (slice_first_claim i (resolve g v) o w d.here k.0))
plans ρ (concat h l v w) g i k =
    let a = resolve_leads ρ g i h k.2 in
    let b = resolve_leads ρ g i l k.3 in
    subst (λ (c : Option ℕ). Good ρ (ty.Bits w) c (step (concat h l v w) g) g) (λ j. concat_means (ty.Bits w) v (a.means j) (b.means j))
    (first_good ρ (ty.Bits w) (concat_means (ty.Bits w) v (value ρ g (resolve g h)) (value ρ g (resolve g l))) g i (concat_first g (resolve g h) (resolve g l) v w)
    (concat_first_claim i (resolve g h) (resolve g l) v w
    (k.0, k.1, a.here, b.here, (λ j. concat_typed (a.type j) (b.type j) v w) ∙ k.4)))

-- the six builders: every answer means what was asked for, and the invariant is kept
pub builds : (ρ : World) → Sound ρ build
builds ρ = build_sound ρ (plans ρ)

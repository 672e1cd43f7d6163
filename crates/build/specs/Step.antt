-- What a builder starts from, and what is left of its work once it has added what it can by itself.
use Rattle.std.specs.Prelude.{◌≡◌, List, ℕ, zero, suc}
use Rattle.word.specs.Value.{val}
use Rattle.evaluate.specs.declared.Binary.TheVariants as bi
use Rattle.graph.specs.Insert.{units, built_of, resolve}
use Rattle.plan.specs.Plan as plan
use Rattle.plan.specs.Plan.{First, does, rest_of}
use Rattle.plan.specs.declared.Rest.{Rest}
use Rattle.plan.specs.OneOperand.{identity_plan, unary_first, modular_plan}
use Rattle.plan_binary.specs.Binary.{binary_first}
use Rattle.plan_slice.specs.Slice.{slice_first, concat_first}
use Rattle.build.specs.Rest.{rest_plan}
use Rattle.build.specs.Build.{Out, out, Prog, give, call, tries, binary, by_constant, plan_prog, attempt_prog, first_prog, exec, build}
use Rattle.build.specs.declared.step.Start.{Start}
use Rattle.build.specs.declared.step.Start.TheVariants as start
use Rattle.build.specs.declared.step.Next.{Next}
use Rattle.build.specs.declared.step.Next.TheVariants as next
use Rattle.build.specs.declared.step.MaskedNode.{MaskedNode}

-- what a builder decides; operands are resolved, but those of identity and modular
abbrev pub start_first : Start → List ℕ → First
start_first (start.Identity t v) g = does (identity_plan g t v.0)
start_first (start.Unary t v o) g = unary_first g t o (resolve g v.0)
start_first (start.Modular w v) g = does (modular_plan g v.0 w)
start_first (start.Binary t o l r) g = binary_first g t o (resolve g l.0) (resolve g r.0)
start_first (start.Slice w v o) g = slice_first g (resolve g v.0) o w
start_first (start.Concat v w h l) g = concat_first g (resolve g h.0) (resolve g l.0) v w
start_first (start.Rest r) g = does (rest_plan g (rest_of r))

-- a builder entered with u units: without one it is refused, else one is spent
abbrev pub entered : Start → ℕ → List ℕ → Out
entered s zero g = out units 0 g
entered s (suc u) g = exec build (first_prog (start_first s g)) u g

-- the rest of a builder, on the region as it then is
abbrev pub rest_prog : Rest → List ℕ → Prog
rest_prog r g = plan_prog (rest_plan g (rest_of r))

-- And of the base and the mask, then the operation on that and the literal
abbrev pub masked_prog : MaskedNode → Prog
masked_prog m =
    call (binary m.ty bi.And m.base.0 m.mask.0) (λ a. by_constant m.ty (val m.literal) m.result m.op a)

-- what is left, as a program
abbrev pub next_prog : Next → Prog
next_prog (next.Answer b) = give (built_of b)
next_prog (next.Identity v t) = plan_prog (plan.identity t v.0)
next_prog (next.Unary v t o) = plan_prog (plan.unary t o v.0)
next_prog (next.Binary l r t o) = plan_prog (plan.binary t o l.0 r.0)
next_prog (next.Slice v o w) = plan_prog (plan.slice v.0 o w)
next_prog (next.SliceIdentity v o w t) = plan_prog (plan.slice_identity v.0 o w t)
next_prog (next.SliceShift v n w t) = plan_prog (plan.slice_shift v.0 w t (val n))
next_prog (next.AndOr v m n t) = plan_prog (plan.and_or t v.0 m.0 (val n))
next_prog (next.Truncated l r w o) = plan_prog (plan.truncated w o l.0 r.0)
next_prog (next.SplitConcat l h o v u w) = plan_prog (plan.split_concat l.0 o v h.0 u w)
next_prog (next.Modular v w r) = tries (attempt_prog (plan.modular v.0 w)) (rest_prog r)
next_prog (next.Masked m r) = tries (masked_prog m) (rest_prog r)

-- what is left does on h what the builder does on g, whatever units there are
abbrev pub Leaves : Next → List ℕ → First → List ℕ → Type 0
Leaves n h f g = (u : ℕ) → exec build (next_prog n) u h ≡ exec build (first_prog f) u g

-- `arithmetic_shift` meets its contract: the count is below the width, and so a u32.
use Rattle.evaluate.proofs.Patterns.{clamped_twice}
use Rattle.evaluate.specs.I128.{as_u128}
use Rattle.evaluate.specs.Evaluate.{to_u32}
use Rattle.word.specs.Value.{val}
use Rattle.word.proofs.Compared.{min_word}
use lib.Signed.{shr_z}
use borrow.Author.Tests.{eq-eqb, ne_eqb}
use native.Mathlib.Omega.{arith}
use Prim.Native.Nat.{min, ◌-◌, ◌^◌}
use mathlib.Core.Path.{◌≡◌, ap, ◌∙◌}
use Rattle.evaluate.proofs.two_operands.arithmetic_shift.Goals as goal

pub returns-then-width-eq0 : goal.returns-then-width-eq0
unfolding val
returns-then-width-eq0 c =
    rw (eq-eqb c.args.width 0 c.if-width-eq0.true)

pub returns : goal.returns
returns c = let g = c.args in
    let e : c.to_u32-count.result ≡ min (val g.b) (g.width - 1) =
    c.to_u32-count.ensures ∙ ap to_u32 (ap val c.min.ensures ∙ min_word g.b c.from-most.result ∙ ap (min (val g.b)) (c.from-most.ensures ∙ c.from.ensures))
    ∙ clamped_twice (val g.b) (g.width - 1) (2 ^ 32 - 1) (omega arith) in
    rw (ne_eqb g.width 0 c.if-width-eq0.false)
    (c.as_word.ensures ∙ ap as_u128 (c.unbounded_shr.ensures ∙ (λ i. shr_z (c.extended.ensures i) (2 ^ e i))))

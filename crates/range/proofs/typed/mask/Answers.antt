-- `mask` meets its contract: ones in the low half, or in the high half above 64 of them.
use Rattle.range.proofs.Types.{one_raised, low_ones, high_ones}
use Rattle.word.specs.Value.{val}
use Prim.Native.Nat.{ℕ, ◌%◌, ◌≤◌}
use mathlib.Core.Path.{sym, subst, ◌∙◌}
use native.Mathlib.Nat.{min-eq_right}
use lib.Pow.{pow_pos}
use Rattle.range.proofs.typed.mask.Goals as goal

pub returns-then-width-ge128 : goal.returns-then-width-ge128
unfolding val
returns-then-width-ge128 c = rw (min-eq_right c.if-width-ge128.true)

pub overflow_sub-ones : goal.overflow_sub-ones
overflow_sub-ones c = subst (λ (n : ℕ). 1 ≤ n) (sym (one_raised c.args.width)) (pow_pos (c.args.width % 64))

pub returns-then-width-eq0 : goal.returns-then-width-eq0
unfolding val
returns-then-width-eq0 c = c.from.ensures ∙ low_ones c.args.width c.if-width-ge128.false c.if-width-eq0.true

pub returns-else-width-eq0 : goal.returns-else-width-eq0
unfolding val
returns-else-width-eq0 c = high_ones c.args.width c.if-width-ge128.false c.if-width-eq0.false

-- `refine` meets its contract. The invariant: what is left of the steps starts here. Assumes nothing.
use Rattle.std.proofs.Common.{◌≡◌, ◌-◌}
use Rattle.graph.specs.Layout.{LIMIT}
use Rattle.assume.specs.Limits.{limits_of}
use Rattle.assume.specs.Refine.{outcome_of, refine_up_to, refined}
use Rattle.assume.proofs.refine.refine.Given as goal

abbrev pub invariant-loop : goal.invariant-loop
invariant-loop l =
    refined (outcome_of l.initial.done) l.initial.g l.initial.at.0 (limits_of l.initial.wanted) ≡ refine_up_to (LIMIT - l.counter) (outcome_of l.done) l.g l.at.0 (limits_of l.wanted)

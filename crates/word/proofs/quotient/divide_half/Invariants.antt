-- `divide_half` meets its contract. The invariant: the bits from `left` on are divided, a step for each. Assumes nothing.
use Rattle.std.proofs.Common.{◌≡◌, ◌+◌, ◌*◌, ◌/◌, ◌^◌, ◌<◌}
use Rattle.word.specs.Value.{val}
use Rattle.word.proofs.quotient.divide_half.Given as goal

abbrev pub invariant-loop-left : goal.invariant-loop-left
invariant-loop-left l =
    ((val l.initial.part.remainder * 2 ^ l.bits + l.half) / 2 ^ l.left ≡ l.part.quotient * val l.divisor + val l.part.remainder) × (val l.part.remainder < val l.divisor) × (l.part.steps + l.left ≡ l.bits)

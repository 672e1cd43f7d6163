use Rattle.std.proofs.Common.{◌≡◌, ℕ, ◌+◌, ◌-◌, ◌*◌, ◌/◌, ◌%◌, ◌^◌, ◌<◌, sym, ap, ◌∙◌, lt_of_lt_of_le, zero-add, zero-mul, div-one, arith, pow_mono}
use lib.Pow.{high}
use Rattle.word.proofs.Quotients.{next, next_fits, bit_of_half, room_left}
use Rattle.word.specs.Value.{val}
use Rattle.word.proofs.quotient.divide_half.Goals as goal

pub loop-left-init : goal.loop-left-init
loop-left-init c =
    let a = c.args in
    (high (val a.remainder) a.bits c.requires.1 ∙ sym (ap (λ (n : ℕ). n + val a.remainder) (zero-mul (val a.divisor)) ∙ zero-add (val a.remainder)), c.requires.2, zero-add a.bits)

pub division_step-part-requires : goal.division_step-part-requires
division_step-part-requires c =
    let g = c.args in
    let p = c.requires in
    let l = c.loop-left in
    let a = val g.remainder * 2 ^ g.bits + g.half in
    let j = l.left - 1 in
    let more : 0 < l.left = c.loop-left-test.true in
    let steps : l.part.steps + l.left ≡ g.bits = l.invariant.2 in
    let bit : g.half / 2 ^ j % 2 ≡ a / 2 ^ j % 2 = bit_of_half (val g.remainder) g.half g.bits p.1 j (omega arith) in
    let room = room_left (val g.remainder) g.half g.bits p.1 l.left l.part.quotient (val g.divisor) (val l.part.remainder) (omega arith) p.2 l.invariant.0 in (
      omega arith,
      l.invariant.1,
      rw bit (next_fits a l.left more (2 ^ 128) l.part.quotient (val g.divisor) (val l.part.remainder) p.3 l.invariant.0),
      lt_of_lt_of_le room (pow_mono {j = 63} (omega (arith, p.0))),
      omega (arith, p.0),
    )

pub loop-left-preserved : goal.loop-left-preserved
loop-left-preserved c =
    let g = c.args in
    let p = c.requires in
    let l = c.loop-left in
    let a = val g.remainder * 2 ^ g.bits + g.half in
    let j = l.left - 1 in
    let more : 0 < l.left = c.loop-left-test.true in
    let steps : l.part.steps + l.left ≡ g.bits = l.invariant.2 in
    let bit : g.half / 2 ^ j % 2 ≡ a / 2 ^ j % 2 = bit_of_half (val g.remainder) g.half g.bits p.1 j (omega arith) in
    (next a l.left more ∙ ap (λ (n : ℕ). 2 * n + a / 2 ^ j % 2) l.invariant.0 ∙ ap (λ (n : ℕ). 2 * (l.part.quotient * val g.divisor + val l.part.remainder) + n) (sym bit) ∙ sym c.division_step-part.ensures.0, c.division_step-part.ensures.1, omega (arith, c.division_step-part.ensures.2))

pub returns : goal.returns
returns c =
    let g = c.args in
    let l = c.loop-left in
    let z : l.left ≡ 0 = omega (arith, c.loop-left-test.false) in
    (sym (div-one (val g.remainder * 2 ^ g.bits + g.half)) ∙ (rw z at l.invariant.0), l.invariant.1, omega (arith, l.invariant.2))

-- `divide_halves` meets its contract. Assumes nothing.
use Rattle.std.proofs.Common.{◌≡◌, ℕ, ◌+◌, ◌-◌, ◌*◌, ◌^◌, ◌<◌, ◌≤◌, sym, ap, ◌∙◌, le_refl, pos_of_ne-zero, zero-add, zero-mul, arith, rules}
use lib.Count.{count_leading_zeros}
use Rattle.word.specs.Value.{val}
use Rattle.word.proofs.Halves.{val-lt}
use Rattle.word.proofs.Counts.{bits_hold, bits_high, bits_low}
use Rattle.word.proofs.Quotients.{half_alone, of_half, below_dividend, both_halves, divided_is}
use Rattle.word.proofs.quotient.divide_halves.Goals as goal

-- a half brought down to no remainder
asked : (h n : ℕ) {d : ℕ} → n ≡ 64 - count_leading_zeros 64 h → h < 2 ^ 64 → 0 < d → (n ≤ 64) × (h < 2 ^ n) × (0 < d) × (0 * 2 ^ n + h < 2 ^ 128)
asked h n e f g = (omega arith, rw e (bits_hold 64 h f), g, half_alone n h f)

pub divide_half-part-requires : goal.divide_half-part-requires
unfolding val
divide_half-part-requires c =
    let l = c.args.dividend.lo in
    asked l c.bits_of.result c.bits_of.ensures (search rules) c.requires

pub returns-then-dividend-eq0 : goal.returns-then-dividend-eq0
unfolding val
returns-then-dividend-eq0 c =
    let a = c.args.dividend in
    let b = val c.args.divisor in
    let part = c.divide_half-part in
    let bits = c.bits_of in
    let z : val a ≡ a.lo = ap (λ (h : ℕ). h * 2 ^ 64 + a.lo) c.if-dividend-eq0.true ∙ ap (λ (n : ℕ). n + a.lo) (zero-mul (2 ^ 64)) ∙ zero-add a.lo in
    let q : val c.from.result ≡ part.result.quotient = c.from.ensures in
    divided_is (val a) b (val c.from.result) (val part.result.remainder) part.result.steps
    (z ∙ of_half (2 ^ bits.result) a.lo _ part.ensures.0 ∙ ap (λ (n : ℕ). n * b + val part.result.remainder) (sym q))
    part.ensures.1
    (part.ensures.2 ∙ bits.ensures ∙ bits_low 64 a.lo (search rules) ∙ ap (λ (n : ℕ). 128 - count_leading_zeros 128 n) (sym z))

pub divide_half-high-requires : goal.divide_half-high-requires
unfolding val
divide_half-high-requires c =
    let h = c.args.dividend.hi in
    asked h c.bits_of-2.result c.bits_of-2.ensures (search rules) c.requires

pub divide_half-low-requires : goal.divide_half-low-requires
unfolding val
divide_half-low-requires c =
    let a = c.args.dividend in
    let b = val c.args.divisor in (
      le_refl 64,
      search rules,
      c.divide_half-high.ensures.1,
      below_dividend (2 ^ 64) (2 ^ 128) a.hi a.lo c.divide_half-high.result.quotient b (val c.divide_half-high.result.remainder)
          (of_half (2 ^ c.bits_of-2.result) a.hi _ c.divide_half-high.ensures.0) (val-lt a (search rules) (search rules)),
    )

pub returns : goal.returns
unfolding val
returns c =
    let a = c.args.dividend in
    let b = val c.args.divisor in
    let low = c.divide_half-low in
    let high = c.divide_half-high in
    let bits = c.bits_of-2 in
    divided_is (val a) b (high.result.quotient * 2 ^ 64 + low.result.quotient) (val low.result.remainder) (high.result.steps + low.result.steps)
    (both_halves (2 ^ 64) a.hi a.lo b high.result.quotient (val high.result.remainder) low.result.quotient (val low.result.remainder)
    (of_half (2 ^ bits.result) a.hi _ high.ensures.0) low.ensures.0)
    low.ensures.1
    ((λ i. (high.ensures.2 ∙ bits.ensures) i + low.ensures.2 i)
    ∙ bits_high 64 a.hi a.lo (pos_of_ne-zero c.if-dividend-eq0.false) (search rules) (search rules))

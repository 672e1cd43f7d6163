-- `clamped_amount` meets its contract: the pattern of a negative bound is past 128.
use Rattle.range.proofs.Rules.{amount, low_amount}
use Rattle.word.proofs.Compared.{lt_word}
use lib.Dec.{ltb}
use Rattle.range.specs.Interval.{clamped}
use Rattle.word.specs.Value.{val, int_of}
use Rattle.word.proofs.SignedHalves.{int_mag}
use borrow.Author.Tests.{ltb-true, ltb-false}
use native.Mathlib.Nat.{min-eq_right}
use Prim.Native.Nat.{ℕ, min}
use mathlib.Core.Path.{◌≡◌, sym, ap, ◌∙◌}
use borrow.Author.Rules.{rules}
use Rattle.range.proofs.arithmetic.clamped_amount.Goals as goal

pub returns-then-lt : goal.returns-then-lt
unfolding val
returns-then-lt c =
    let s = c.args.bound in
    let p : min (val c.as_word-pattern.result) 128 ≡ clamped (int_of s) =
    ap (λ (n : ℕ). min n 128) c.as_word-pattern.ensures ∙ amount (int_of s) (int_mag s (record { half = search rules; low = search rules })) in
    low_amount c.as_word-pattern.result (ltb-true _ _ (sym (c.lt.ensures ∙ lt_word c.as_word-pattern.result c.from.result ∙ ap (ltb (val c.as_word-pattern.result)) c.from.ensures) ∙ c.if-lt.true)) ∙ p

pub returns-else-lt : goal.returns-else-lt
unfolding val
returns-else-lt c =
    let s = c.args.bound in
    let p : min (val c.as_word-pattern.result) 128 ≡ clamped (int_of s) =
    ap (λ (n : ℕ). min n 128) c.as_word-pattern.ensures ∙ amount (int_of s) (int_mag s (record { half = search rules; low = search rules })) in
    sym (min-eq_right (ltb-false _ _ (sym (c.lt.ensures ∙ lt_word c.as_word-pattern.result c.from.result ∙ ap (ltb (val c.as_word-pattern.result)) c.from.ensures) ∙ c.if-lt.false))) ∙ p

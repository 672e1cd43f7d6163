-- `Signed::as_word` meets its contract.
use mir.ValLaws.{to_z-of_z}
use Rattle.std.proofs.Common.{ℕ, ◌+◌, ◌*◌, ◌^◌, ap, ◌∙◌, w64, SFits, of_z, rules}
use Rattle.word.proofs.SignedHalves.{int_bits}
use Rattle.word.specs.Value.{val}
use Rattle.word.proofs.Signed.as_word.Goals as goal

pub returns : goal.returns
unfolding val
returns c =
    let s = c.args.self in
    let f : SFits w64 s.hi = search rules in
    ap (λ (h : ℕ). h * 2 ^ 64 + s.lo) (c.cast_unsigned.ensures ∙ ap (of_z w64) (to_z-of_z w64 s.hi f))
    ∙ int_bits s (record { half = f; low = search rules })

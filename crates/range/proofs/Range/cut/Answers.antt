-- `Range::cut` meets its contract: neither difference wraps.
use Rattle.range.proofs.Rules.{difference_fits}
use Rattle.word.specs.Value.{int_of}
use Rattle.word.proofs.SignedHalves.{int_mag}
use lib.Signed.{mag}
use lib.IntN.{pos}
use lib.Dec.{lit<}
use Prim.Native.Nat.{◌^◌, ◌<◌}
use mathlib.Core.Path.{refl, ap, ◌∙◌}
use Rattle.word.proofs.Compared.{min_signed, max_signed}
use Rattle.word.specs.declared.Signed.{Signed}
use borrow.Author.Rules.{rules}
use Rattle.range.proofs.Range.cut.Goals as goal

abbrev zero : Signed
zero = record { lo = 0; hi = pos 0 }

pub returns : goal.returns
unfolding int_of
returns c =
    let r = c.args.self in
    let z = int_of c.args.size in
    let least = c.wrapping_sub-least in
    let most = c.wrapping_sub-most in
    let f : mag (int_of c.args.size) < 2 ^ 127 = int_mag c.args.size (record { half = search rules; low = search rules }) in
    rw (
      ap int_of c.min.ensures ∙ min_signed c.max.result zero,
      ap int_of c.max.ensures ∙ max_signed r.min least.result,
      least.ensures,
      difference_fits (pos 1) z refl c.requires (lit< tt) f,
      ap int_of c.max-2.ensures ∙ max_signed c.min-2.result zero,
      ap int_of c.min-2.ensures ∙ min_signed r.max most.result,
      most.ensures,
      difference_fits z (pos 1) c.requires refl f (lit< tt),
    )

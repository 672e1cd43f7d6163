-- `well_formed::are_zeros` meets its contract: the Or of the words read is 0 if each of them is.
use Rattle.std.proofs.Common.{◌≡◌, refl, subst, rules}
use lib.Dec.{eqb}
use Rattle.std.proofs.lemmas.Fn.{fold_over, slice_gives, fronts}
use Rattle.graph.specs.WellFormed.{are_zeros}
use Rattle.graph.proofs.Tests.{zeros_more}
use Rattle.graph.proofs.well_formed.are_zeros.Goals as goal

pub returns : goal.returns
returns c =
    subst (λ l. eqb c.fold.result 0 ≡ are_zeros l) c.iter.ensures.rest
    (fold_over fronts (λ y. y.now) _ (λ ys n. eqb n 0 ≡ are_zeros ys) _ (λ ys a x b f' j k. let more = zeros_more ys a x.now j in search rules)
    _ _ _ _ (slice_gives c.iter.result) refl c.fold.ensures.ran)

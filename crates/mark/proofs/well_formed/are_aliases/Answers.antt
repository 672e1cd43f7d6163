-- `are_aliases` meets its contract: an alias word that fails makes the test of all fail.
use mathlib.Core.Path.{sym, ◌∙◌}
use lib.ListN.{length, get_or}
use Rattle.graph.specs.WellFormed.{is_alias}
use Rattle.graph.proofs.Tests.{pass_off}
use Rattle.mark.proofs.well_formed.are_aliases.Goals as goal

pub returns-then-not-is_alias : goal.returns-then-not-is_alias
returns-then-not-is_alias c =
    let words = c.args.words.now in
    let nodes = length words in
    sym (pass_off (λ i. is_alias i nodes (get_or words i 0)) c.loop-n.n (sym c.is_alias.ensures ∙ c.if-not-is_alias.true) nodes c.loop-n-test.true)

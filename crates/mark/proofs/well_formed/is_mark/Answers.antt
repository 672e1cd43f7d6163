-- `is_mark` meets its contract: the alias words of its nodes are the first of the mark's.
use Rattle.std.proofs.Common.{◌≤◌, length, arith, le-leb}
use Rattle.mark.specs.Layout.{count_at, aliases_at}
use Rattle.mark.proofs.Facts.{aliases_taken}
use Rattle.mark.proofs.Marks.{aliases_length}
use Rattle.mark.proofs.well_formed.is_mark.Goals as goal

pub returns-then-nodes-limit : goal.returns-then-nodes-limit
returns-then-nodes-limit c =
    let m = c.args.m.now in
    let k = c.args.mark in
    let few : count_at m k ≤ c.args.limit = omega (arith, c.nodes_of-nodes.ensures, c.if-nodes-limit.true) in
    let room : count_at m k ≤ length (aliases_at m k) = omega (arith, few, c.requires.1, aliases_length m k c.told-m c.requires.0) in
    rw (c.are_aliases.ensures, c.aliases_of.ensures, c.nodes_of-nodes.ensures, le-leb (count_at m k) c.args.limit few) (aliases_taken (aliases_at m k) (count_at m k) room)

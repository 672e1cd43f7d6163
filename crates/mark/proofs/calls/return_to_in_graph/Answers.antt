use native.Mathlib.Omega.{arith}
use Rattle.mark.proofs.Facts.{marked_both, regions_facts}
use Rattle.mark.proofs.calls.return_to_in_graph.Goals as goal

pub go_back-requires : goal.go_back-requires
go_back-requires c =
    let f = regions_facts _ _ c.requires in
    ((marked_both c.args.g.now c.args.m.now c.requires).0, omega (arith, c.standing.ensures, c.if-number-standing.true, f.1.most), f.1.first.fewer c.args.mark.0 (omega (arith, c.standing.ensures, c.if-number-standing.true)))

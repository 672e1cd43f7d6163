-- `record::decode::unary` meets its contract: a type, an operator and an id are read one after the other. Assumes nothing.
use lib.ListN.{length, drop}
use borrow.Author.Tests.{le-leb, eq-eqb}
use Rattle.record.proofs.Parts.{part_from}
use Rattle.record.proofs.decode.unary.Goals as goal

pub returns : goal.returns
returns c =
    let bs = c.args.body.now in
    let rest = c.in_ok-ty.rest.now in
    let typed = c.in_ok-ty.ensures in
    let last = rw (part_from 2 rest) at c.in_ok-id.ensures.cases in
    rw (
      le-leb 2 (length bs) typed.0,
      typed.1,
      ← typed.2,
      le-leb 2 (length rest) c.in-len2-up.len_at_least,
      ← c.from.ensures,
      ← c.from-2.ensures,
      ← c.unary_by_code.ensures,
      c.in_ok-op.was,
      c.id_of.ensures,
      last.same,
      eq-eqb (length (drop 2 rest)) 2 last.long,
    )

-- `record_vectors::put_count` meets its contract: the line fits the slice lent for it (`placed-fits`), or there is none. Assumes nothing.
use mathlib.Core.Bool.{Bool, true, false, cond}
use mathlib.Core.List.{List}
use mathlib.Core.Path.{◌≡◌}
use Prim.Native.Nat.{ℕ, ◌≤◌}
use native.Mathlib.Omega.{arith}
use lib.Dec.{leb}
use lib.ListN.{length}
use Rattle.text.specs.Text.{placed}
use Rattle.record.specs.Line.{LINE, nodes_line}
use Rattle.record.proofs.Within.{placed-fits}
use Rattle.record_vectors.proofs.put_count.Goals as goal

-- a text that is put or not
fits-if : (b : Bool) (out text after : List ℕ) (n : ℕ) → n ≡ cond b (length text) 0 → after ≡ cond b (placed out text) out → length after ≡ length out
    → n ≤ length out
fits-if true out text after n e f same = omega (arith, placed-fits out text after f same)
fits-if false out text after n e f same = omega arith

pub returns : goal.returns
returns c =
    let line = c.args.line.now in
    let call = c.put_nodes in
    fits-if (leb LINE (length line)) line (nodes_line c.count.result) call.new.line call.result call.ensures.value call.ensures.line_after
    call.auto.line

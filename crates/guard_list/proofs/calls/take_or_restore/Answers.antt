-- `take_or_restore` meets its contract: a refusal takes back what the guards before it did. Assumes nothing.
use mathlib.Core.Path.{ap, ◌∙◌}
use Prim.Native.Nat.{ℕ}
use lib.ListN.{length-replicate}
use Rattle.native.specs.Call.{called, refused}
use Rattle.native.proofs.Restoring.{taken_back}
use Rattle.guard_list.proofs.calls.take_or_restore.Goals as goal

pub returns-in-Err : goal.returns-in-Err
returns-in-Err o c =
    ap (called (refused _))
    (taken_back _ _ _ _ _ _ c.requires.0 (rw (length-replicate {A = ℕ} o.row.N 0) c.requires.1) c.count-nodes.ensures c.save_aliases.ensures c.assume_in_turn.ensures.keys c.restore.ensures)
    ∙ c.in-Err.ensures.answer

-- `refine_or_restore` meets its contract: what has no room is taken back. Assumes nothing.
use mathlib.Core.Path.{ap}
use Prim.Native.Nat.{ℕ}
use lib.ListN.{length-replicate}
use Rattle.native.specs.Call.{called, refused}
use Rattle.native.proofs.Restoring.{refined_same, taken_back}
use Rattle.native.proofs.perform.refine_or_restore.Goals as goal

pub returns-in-Err : goal.returns-in-Err
returns-in-Err o c =
    rw (← c.refine_both.ensures, c.in-Err.is)
    (ap (called (refused _)) (taken_back _ _ _ _ _ _ c.requires.0 (rw (length-replicate {A = ℕ} o.row.N 0) c.requires.1) c.count-nodes.ensures c.save_aliases.ensures (refined_same _ _ _ _ _ _ c.requires.0 c.refine_both.ensures) c.restore.ensures))

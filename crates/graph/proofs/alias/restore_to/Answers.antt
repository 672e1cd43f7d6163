-- `restore_to` meets its contract: nothing is written past the nodes, so that the words there are 0 still. Assumes nothing.
use Rattle.graph.proofs.Restored.{restored_past}
use Rattle.graph.proofs.alias.restore_to.Goals as goal

pub clear_to-requires : goal.clear_to-requires
clear_to-requires c =
    let r = c.requires in
    (r.1, r.2, rw c.restore_aliases.ensures (restored_past _ _ _ _ r.1 r.3))

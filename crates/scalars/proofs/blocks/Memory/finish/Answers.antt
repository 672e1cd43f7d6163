-- `scalars::blocks::Memory::finish` meets its contract: the line of the number of nodes fits what the line before it leaves. Assumes nothing.
use mathlib.Core.Bool.{Bool, true, false, cond}
use mathlib.Core.List.{List}
use mathlib.Core.Path.{◌≡◌, sym}
use Prim.Native.Nat.{ℕ, ◌+◌, ◌-◌, ◌≤◌}
use native.Mathlib.Omega.{arith}
use lib.Dec.{leb}
use lib.ListN.{length, take, drop, length-drop}
use lib.Seq.{length-take-le}
use Rattle.text.specs.Text.{placed}
use Rattle.record.specs.Line.{LINE, nodes_line}
use Rattle.record.proofs.Parts.{part_from}
use Rattle.record.proofs.Within.{placed-fits}
use Rattle.scalars.proofs.blocks.Memory.finish.Goals as goal

-- a text that is placed at the start of a slice, or not, fits it
fits : (b : Bool) (line text after : List ℕ) (n : ℕ) → n ≡ cond b (length text) 0 → after ≡ cond b (placed line text) line → length after ≡ length line → n ≤ length line
fits true line text after n e q s = omega (arith, e, placed-fits line text after q s)
fits false line text after n e q s = omega (arith, e)

-- the last line, put or not behind the first `at` bytes of a buffer, ends within it
within : (b : List ℕ → Bool) (at : ℕ) (out text after : List ℕ) (n : ℕ) → at ≤ length out
    → n ≡ cond (b (take (length out - at) (drop at out))) (length text) 0
    → after ≡ cond (b (take (length out - at) (drop at out))) (placed (take (length out - at) (drop at out)) text) (take (length out - at) (drop at out))
    → length after ≡ length (take (length out - at) (drop at out)) → at + n ≤ length out
within b at out text after n l e q s = omega (arith, l, rw part_from at (fits _ _ text after n e q s), length-drop at out)

pub overflow_add-end : goal.overflow_add-end
overflow_add-end c =
    omega (arith, within (λ x. leb LINE (length x)) c.end_inside-at.result c.end_inside-at.new.out (nodes_line c.count.result) _ _ (omega arith) c.put_nodes.ensures.value c.put_nodes.ensures.line_after c.put_nodes.auto.line)

pub slice_bounds-write_all-end : goal.slice_bounds-write_all-end
slice_bounds-write_all-end c =
    omega (arith, within (λ x. leb LINE (length x)) c.end_inside-at.result c.end_inside-at.new.out (nodes_line c.count.result) _ _ (omega arith) c.put_nodes.ensures.value c.put_nodes.ensures.line_after c.put_nodes.auto.line)

pub slice_bounds-write_all-end-2 : goal.slice_bounds-write_all-end-2
slice_bounds-write_all-end-2 c =
    let l = within (λ x. leb LINE (length x)) c.end_inside-at.result c.end_inside-at.new.out (nodes_line c.count.result) _ _ (omega arith) c.put_nodes.ensures.value c.put_nodes.ensures.line_after c.put_nodes.auto.line in
    sym (length-take-le _ _ (omega (arith, l)))

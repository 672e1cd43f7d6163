-- The invariant of `vector_lines::answer_lines`: the lines before those that are left have the first `len` bytes of `out` for their answers.
use Rattle.std.proofs.Common.{◌≤◌, ◌≡◌, ◌++◌, List, ℕ, length, take}
use Rattle.std.specs.Slice.Iter.{chunks_exact_rest, chunks_exact_size}
use Rattle.vector_lines.specs.Replay.{ReplaysAll}
use Rattle.vector_lines.proofs.answer_lines.Given as goal

abbrev pub invariant-loop-line : goal.invariant-loop-line
invariant-loop-line g l =
    record {
      within : l.len ≤ length l.out;
      kept : length l.out ≡ length l.initial.out;
      callable : goal.F-IsAlwaysCallable g l.answer;
      size : chunks_exact_size l.line-iterator ≡ l.size;
      front : (front : List ℕ) × (l.block ≡ front ++ chunks_exact_rest l.line-iterator)
          × ReplaysAll g.F.FnMut l.size l.initial.answer front (take l.len l.out) l.answer;
    }

-- The invariant of `vector_lines::replay`: what was read so far is lines, and what was written is their answers.
use Rattle.std.proofs.Common.{List, ℕ}
use Rattle.std.specs.Io.KnownBytes.{Appends, Consumes}
use Rattle.vector_lines.specs.Replay.{ReplaysAll}
use Rattle.vector_lines.proofs.replay.Given as goal

abbrev pub invariant-loop : goal.invariant-loop
invariant-loop g l =
    record {
      callable : goal.F-IsAlwaysCallable g l.answer;
      replayed : (bytes text : List ℕ)
          × Consumes (g.R.Read.remaining l.initial.reader) (g.R.Read.remaining l.reader) bytes
          × Appends (g.W.Write.contents l.initial.writer) (g.W.Write.contents l.writer) text
          × ReplaysAll g.F.FnMut l.size l.initial.answer bytes text l.answer;
    }

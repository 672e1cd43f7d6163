-- `vector_lines::answer_lines` meets its contract: a line's answer comes behind those of the lines before it. Assumes nothing.
use Rattle.std.proofs.Common.{◌≡◌, ◌-◌, ◌≤◌, ◌<◌, ◌++◌, ap, sym, refl, subst, ◌∙◌, append_assoc, Some, arith, List, ℕ, length, take, drop, length-take-le, length-drop}
use Rattle.std.proofs.lemmas.Bool.{le-leb, lt-leb}
use borrow.Rule.Slice.PartMut.{same_len_mid, take_put}
use denote.Param.Always.{mut_next}
use lib.Seq.{take_at}
use Rattle.std.specs.Slice.Iter.{chunks_exact_rest}
use Rattle.vector_lines.specs.Replay.{Answers, ReplaysAll}
use Rattle.vector_lines.proofs.Replaying.{front, ReplaysAll-append, ReplaysAll-line}
use Rattle.vector_lines.proofs.answer_lines.Goals as goal

pub loop-line-preserved : goal.loop-line-preserved
loop-line-preserved g c =
    let l = c.loop-line in
    let n = c.in-Some-answer.n in
    let left = c.answer.new.arg3 in
    let line = c.in-Some.line.now in
    let step = c.in-Some.ensures.steps in
    let room = length l.out - l.len in
    let part : length (take room (drop l.len l.out)) ≡ room = length-take-le room (drop l.len l.out) (omega (arith, length-drop l.len l.out)) in
    let whole = same_len_mid l.len room l.out left c.answer.auto.arg3 in
    let fits : n ≤ length left = omega (arith, part, whole, c.answer.auto.arg3, c.if-n-out.true) in
    let called : Answers g.F.FnMut l.answer line (Some (take n left)) c.answer.new.self =
    record { shown = _; lent = _; left = _; end = Some n; shows = refl; called = c.in-Some-answer.ensures; leaves = rw (le-leb n (length left) fits) refl } in
    let more = ReplaysAll-line g.F.FnMut c.args.size _ _ line (take n left) (step.1.1 ∙ l.invariant.size) called in
    let before = l.invariant.front in
    let text = front l.len room n l.out left l.invariant.within fits in
    record {
      within = omega (arith, whole, part, fits, c.answer.auto.arg3);
      kept = whole ∙ l.invariant.kept;
      callable = mut_next g.F.FnMut _ _ _ _ _ c.in-Some-answer.ensures refl l.invariant.callable;
      size = step.0 ∙ l.invariant.size;
      front = (
        before.0 ++ line,
        before.1 ∙ ap (λ (m : List ℕ). before.0 ++ m) step.1.0 ∙ sym (append_assoc before.0 line (chunks_exact_rest c.next.new.self)),
        subst (λ (m : List ℕ). ReplaysAll g.F.FnMut c.args.size c.args.answer.now (before.0 ++ line) m c.answer.new.self) text
            (ReplaysAll-append g.F.FnMut c.args.size _ _ _ before.0 line (take l.len l.out) (take n left) before.2 more),
      );
    }

pub returns-in_default-clause-some : goal.returns-in_default-clause-some
returns-in_default-clause-some g c _ =
    let l = c.loop-line in
    let n = c.in-Some-answer.n in
    let left = c.answer.new.arg3 in
    let step = c.in-Some.ensures.steps in
    let before = l.invariant.front in
    let rest = chunks_exact_rest l.line-iterator in
    let line : c.in-Some.line.now ≡ take c.args.size rest =
    rw step.1.0 (sym (take_at c.in-Some.line.now (chunks_exact_rest c.next.new.self) c.args.size (step.1.1 ∙ l.invariant.size))) in
    let room = length l.out - l.len in
    let part : length (take room (drop l.len l.out)) ≡ room = length-take-le room (drop l.len l.out) (omega (arith, length-drop l.len l.out)) in
    let whole = same_len_mid l.len room l.out left c.answer.auto.arg3 in
    let over : length left < n = omega (arith, part, whole, c.answer.auto.arg3, c.if-n-out.false) in
    record {
      front = before.0;
      rest = rest;
      last = l.answer;
      parts = before.1;
      replays = subst (λ (m : List ℕ). ReplaysAll g.F.FnMut c.args.size c.args.answer.now before.0 m l.answer) (sym (take_put l.len room l.out left l.invariant.within)) before.2;
      end = c.answer.new.self;
      none = record { shown = _; lent = _; left = _; end = Some n; shows = line; called = c.in-Some-answer.ensures; leaves = rw (lt-leb n (length left) over) refl };
    }

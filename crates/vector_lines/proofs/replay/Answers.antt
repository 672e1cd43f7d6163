-- `vector_lines::replay` meets its contract: a block's lines come behind those of the blocks before it. Assumes nothing.
use Rattle.std.proofs.Common.{◌≡◌, ℕ, ◌-◌, ◌%◌, Bool, true, false, not, refl, ◌∙◌, [], arith, inl, inr, length, take, length-take, length-take-le, rules}
use Rattle.std.proofs.KnownBytes.{Appends-nil, Appends-trans, Consumes-nil, Consumes-trans}
use Rattle.vector_lines.proofs.Replaying.{ReplaysAll-append, ReplaysAll-nil, ReplaysWhole-all, ReplaysWhole-append, ReplaysSome-append, whole-even}
use Rattle.vector_lines.proofs.replay.Goals as goal
use Rattle.vector_lines.proofs.replay.Goals.{then-not-answered-via-then-not-answered, then-not-answered-via-else-not-answered+then-n-whole}

holds : (b : Bool) → not b ≡ false → b ≡ true
holds true e = refl
holds false e = cc

fails : (b : Bool) → not b ≡ true → b ≡ false
fails true e = cc
fails false e = refl

pub loop-init : goal.loop-init
loop-init g c =
    record {
      callable = c.requires.callable;
      replayed = ([], [], Consumes-nil _, Appends-nil _, ReplaysAll-nil g.F.FnMut c.args.size c.args.answer);
    }

pub returns-then-not-answered : goal.returns-then-not-answered
returns-then-not-answered g c =
    let before = c.loop.invariant.replayed in
    let answered = c.answer_lines-answered in
    let n = c.read_block-n.result.0 in
    let given = take n c.read_block-n.new.block in
    let put = take answered.result.len answered.new.out in
    let whole = length c.args.block.now - length c.args.block.now % c.args.size in
    let long : length c.loop.block ≡ whole = omega (arith, c.loop.auto.block, length-take {A = ℕ}) in
    record {
      bytes = _;
      text = _;
      read = Consumes-trans _ _ _ _ _ before.2 c.read_block-n.ensures.bytes;
      written = Appends-trans _ _ _ _ _ before.3 c.in_ok-write_all.ensures.bytes;
      stops = elim c.then-not-answered.branch [
        | then-not-answered-via-then-not-answered w ↦
            inr (ReplaysSome-append g.F.FnMut c.args.size _ _ _ given _ put before.4 (answered.ensures.some (fails answered.result.is_each w.if-not-answered.true)))
        | then-not-answered-via-else-not-answered+then-n-whole w ↦
            inl (
              (_, ReplaysWhole-append g.F.FnMut c.args.size _ _ _ _ given _ put before.4 (answered.ensures.each (holds answered.result.is_each w.if-not-answered.false))),
              (rw c.in_ok-read.was at c.read_block-n.ensures.end) (omega (arith, long, w.if-n-whole.true)),
            )
      ];
    }

pub loop-preserved : goal.loop-preserved
loop-preserved g c =
    let before = c.loop.invariant.replayed in
    let answered = c.answer_lines-answered in
    let each = holds answered.result.is_each c.if-not-answered.false in
    let n = c.read_block-n.result.0 in
    let given = take n c.read_block-n.new.block in
    let whole = length c.args.block.now - length c.args.block.now % c.args.size in
    let long : length c.loop.block ≡ whole = omega (arith, c.loop.auto.block, length-take {A = ℕ}) in
    let full : length given ≡ whole =
    length-take-le n c.read_block-n.new.block (omega (arith, c.read_block-n.auto.block, c.read_block-n.ensures.in_bounds))
    ∙ omega (arith, long, c.if-n-whole.false, c.read_block-n.ensures.in_bounds) in
    let even : length given % c.args.size ≡ 0 = rw full (whole-even (length c.args.block.now) c.args.size (search rules)) in
    record {
      callable = answered.ensures.callable each;
      replayed = (
        _,
        _,
        Consumes-trans _ _ _ _ _ before.2 c.read_block-n.ensures.bytes,
        Appends-trans _ _ _ _ _ before.3 c.in_ok-write_all.ensures.bytes,
        ReplaysAll-append g.F.FnMut c.args.size _ _ _ _ given _ _ before.4 (ReplaysWhole-all g.F.FnMut c.args.size _ _ given _ even (answered.ensures.each each)),
      );
    }

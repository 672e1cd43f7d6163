-- `record::line::put_numbered` meets its contract: each of the three parts stands behind the one before it. Assumes nothing.
use Rattle.std.proofs.Common.{◌≡◌, ◌+◌, ◌-◌, ◌++◌, ◌∙◌, arith, rules, length, length-append}
use borrow.Rule.Slice.PartMut.{put_mid, same_len_mid}
use Rattle.text.specs.Text.{decimal}
use Rattle.text.proofs.Placing.{placed-behind}
use Rattle.record.specs.Line.{NEWLINE, numbered}
use Rattle.record.proofs.Steps.{digits_64}
use Rattle.record.proofs.line.put_numbered.Goals as goal

pub returns : goal.returns
unfolding numbered
returns c =
    let word = c.args.word.now in
    let digits = decimal c.args.number in
    let a = c.put_text_in_room-after in
    let b = c.put_decimal_in_room in
    let e = c.put_text_in_room in
    let end = a.result + b.result in
    let whole = put_mid a.result (32 - a.result) a.new.out b.new.out in
    let same = same_len_mid a.result (32 - a.result) a.new.out b.new.out b.auto.out in
    let long : length a.new.out ≡ 32 = a.auto.out ∙ c.told-line in
    let first = placed-behind c.args.line.now word digits a.new.out b.new.out a.result (32 - a.result) a.ensures.value (omega (arith, long)) a.ensures.out_after b.ensures.out_after in
    let size : length ((word ++ digits) ++ NEWLINE) ≡ length word + length digits + 1 = omega (arith, length-append (word ++ digits) NEWLINE, length-append word digits) in
    record {
      len = omega (arith, size, a.ensures.value, b.ensures.value, e.ensures.value);
      slice = placed-behind c.args.line.now (word ++ digits) NEWLINE whole e.new.out end (32 - end)
          (omega (arith, length-append word digits, a.ensures.value, b.ensures.value)) (omega (arith, same, long)) first e.ensures.out_after;
      fits = omega (arith, size, digits_64 c.args.number (search rules), c.requires, c.told-line);
    }

-- `Word::is_power_of_two` meets its contract: the set bits of both halves are counted.
use Rattle.word.specs.Value.{val, is_power_of_two}
use Rattle.std.proofs.Common.{ℕ, eqb, sym, ap, arith, rules}
use lib.Count.{ones_cat, ones-le}
use Rattle.word.proofs.Word.is_power_of_two.Goals as goal

pub overflow_add-result : goal.overflow_add-result
overflow_add-result c = let w = c.args.self in
    record { fits = omega (arith, ones-le 64 w.hi (search rules), ones-le 64 w.lo (search rules)) }

pub returns : goal.returns
unfolding val is_power_of_two
returns c =
    let w = c.args.self in
    ap (λ (n : ℕ). eqb n 1) (sym (ones_cat 64 w.hi w.lo (search rules)))

-- Where the early test rules the fold out, `all_bits` would find no field.
use Rattle.std.proofs.Common.{arith}
use Rattle.std.proofs.lemmas.Grind.{common_steps}
use Rattle.bitfield.specs.Bitfield.{fold_bitfield_concat}
use Rattle.bitfield.proofs.Laws.{ruled-out}
use Rattle.bitfield.proofs.fields.fold_bitfield_concat.Goals as goal

pub returns-else-has_no_bits_above : goal.returns-else-has_no_bits_above
unfolding fold_bitfield_concat
returns-else-has_no_bits_above c = grind (arith, common_steps, ruled-out)

-- `record_vectors::put_stream` meets its contract: the newline is put within `out`, or is not put (`fitting_within`). Assumes nothing.
use Rattle.std.proofs.Common.{ℕ, arith, length-take, length-drop}
use Rattle.text.proofs.Placing.{fitting_within}
use Rattle.record_vectors.proofs.put_stream.Goals as goal

pub returns : goal.returns
returns c = omega (arith, fitting_within 1 _ _ c.put_text.ensures.value, length-take {A = ℕ}, length-drop {A = ℕ})

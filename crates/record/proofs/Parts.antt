-- A law of the parts of a record as code takes them. Assumes nothing.
use mathlib.Core.List.{List}
use mathlib.Core.Path.{◌≡◌}
use Prim.Native.Nat.{ℕ, ◌-◌}
use native.Mathlib.Nat.{le_of_eq}
use lib.ListN.{length, take, drop, length-drop}
use lib.Seq.{take_all}

-- the part from k on
pub part_from : (k : ℕ) (bs : List ℕ) → take (length bs - k) (drop k bs) ≡ drop k bs
part_from k bs = take_all (length bs - k) (drop k bs) (le_of_eq (length-drop k bs))

-- `==` of two ranges, which is derived, in the words of contracts. Assumes nothing.
use Rattle.std.proofs.Common.{◌≡◌, refl}
use Rattle.word.proofs.Compared.{eq_signed_z}
use Rattle.range.specs.Interval.{bounds_of, same_interval}
use Rattle.range.specs.declared.Range.{Range}
use Rattle.range.specs.contracts.RangePartialEq.TheImpl.{ghosts}

-- ranges are equal where their intervals have the same ends
pub equal_same : (a b : Range) → ghosts.eq a b ≡ same_interval (bounds_of a) (bounds_of b)
equal_same a b = rw (eq_signed_z a.min b.min, eq_signed_z a.max b.max) refl

-- The measure of `text::decimal_places` is the number.
use Rattle.text.proofs.+decimal_places.Given as goal

abbrev pub decreases-decimal_places : goal.decreases-decimal_places
decreases-decimal_places l = l.n

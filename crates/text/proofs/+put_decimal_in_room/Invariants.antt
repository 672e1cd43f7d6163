-- The measure of `text::put_decimal_in_room` is the number.
use Rattle.text.proofs.+put_decimal_in_room.Given as goal

abbrev pub decreases-put_decimal_in_room : goal.decreases-put_decimal_in_room
decreases-put_decimal_in_room l = l.n

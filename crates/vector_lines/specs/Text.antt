-- Numbers as hex digits.
use Rattle.std.specs.Prelude.{cond, List, [], ◌∷◌, ℕ, ◌+◌, ◌-◌, ◌*◌, ltb}
use Rattle.std.specs.Prelude.{Option, Some}
use Rattle.word.specs.Option.{provided}
use Rattle.io.specs.Digits.{last_digits}

-- a digit's value, `0` to `9` and then `a` to `f`, or 16 for another byte
unfoldable pub digit_value : ℕ → ℕ
digit_value b = cond (ltb b 48) 16 (cond (ltb b 58) (b - 48) (cond (ltb b 97) 16 (cond (ltb b 103) (b - 87) 16)))

-- the number that hex digits spell after those of n, if they are digits
abbrev pub spelled_after : ℕ → List ℕ → Option ℕ
spelled_after n [] = Some n
spelled_after n (b ∷ l) = provided (ltb (digit_value b) 16) (spelled_after (n * 16 + digit_value b) l)

-- the number that hex digits spell
abbrev pub spelled : List ℕ → Option ℕ
spelled l = spelled_after 0 l

-- the last k hex digits of n
unfoldable pub hex_digits : ℕ → ℕ → List ℕ
hex_digits k n = last_digits 16 k n

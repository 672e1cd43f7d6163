-- Text in a slice, and numbers in decimal digits.
use Rattle.std.specs.Prelude.{Bool, cond, List, [], ◌∷◌, ◌++◌, ℕ, zero, suc, ◌+◌, ◌/◌, ◌%◌, leb, ltb, length, take, drop}

-- d with s at its start
unfoldable pub placed : List ℕ → List ℕ → List ℕ
placed d s = s ++ drop (length s) d

-- n, or 0 where d has not so many bytes
abbrev pub fitting : ℕ → List ℕ → ℕ
fitting n d = cond (leb n (length d)) n 0

-- d with s, n bytes, at its start, or d where it has not so many
abbrev pub placed_if : ℕ → List ℕ → List ℕ → List ℕ
placed_if n d s = cond (leb n (length d)) (placed d s) d

-- is there room for n bytes of d from `at` on?
abbrev pub has_room : List ℕ → ℕ → ℕ → Bool
has_room d at n = leb (at + n) (length d)

-- where n bytes from `at` on end, or `at` without room for them
abbrev pub end_of : List ℕ → ℕ → ℕ → ℕ
end_of d at n = cond (has_room d at n) (at + n) at

-- d with s, n bytes, in it from `at` on, or d without room for them
abbrev pub placed_in : List ℕ → ℕ → ℕ → List ℕ → List ℕ
placed_in d at n s = cond (has_room d at n) (take at d ++ s ++ drop (at + length s) d) d

-- the ASCII code of a digit
abbrev pub digit : ℕ → ℕ
digit d = 48 + d

-- the decimal digits of a number below k, the first one not 0 but for the number 0
abbrev pub decimal_below : ℕ → ℕ → List ℕ
decimal_below zero n = []
decimal_below (suc k) n = cond (ltb n 10) (digit n ∷ []) (decimal_below k (n / 10) ++ (digit (n % 10) ∷ []))

-- the decimal digits of n
unfoldable pub decimal : ℕ → List ℕ
decimal n = decimal_below (suc n) n

-- What the inner functions of sums, products and quotients answer.
use Rattle.std.specs.Prelude.{ℕ, Bool, true, false, not, ℤ, pos, neg_ℤ}
use Rattle.std.specs.Prelude.{Option}
use Rattle.word.specs.Value.{is_neg}
use Rattle.word.specs.Option.{only}

-- may a sum of two integers with the first two signs come out with the third one?
abbrev pub agrees : Bool → Bool → Bool → Bool
agrees true true s = s
agrees true false s = true
agrees false true s = true
agrees false false true = false
agrees false false false = true

-- z, the sum modulo 2 ^ 128 of two integers with these signs, if it is the whole sum
abbrev pub unless_wrapped : Bool → Bool → ℤ → Option ℤ
unless_wrapped left right z = only (agrees left right (is_neg z)) z

-- the integer with this sign and magnitude
abbrev pub with_sign : Bool → ℕ → ℤ
with_sign true n = neg_ℤ (pos n)
with_sign false n = pos n

-- do two signs differ?
abbrev pub differ : Bool → Bool → Bool
differ true t = not t
differ false t = t

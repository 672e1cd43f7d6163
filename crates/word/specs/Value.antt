-- What a word of two halves stands for, its two readings, and which results are answered.
use Rattle.std.specs.Prelude.{ℕ, ◌+◌, ◌-◌, ◌*◌, ◌%◌, ◌^◌, Bool, true, false, cond, ℤ, pos, negsuc, ◌+ℤ◌, ◌-ℤ◌, ◌*ℤ◌, ◌==◌, count_ones, int_div, int_lt, int_rem, nat_lt, unsigned_abs}
use Rattle.std.specs.Prelude.{Option, None, Some}
use Rattle.std.specs.Int.Signed.{mag}
use Rattle.word.specs.Option.{only, provided}
use Rattle.word.specs.declared.Word.{Word}
use Rattle.word.specs.declared.Signed.{Signed}

-- the number that a word stands for
unfoldable pub val : Word → ℕ
val w = w.hi * 2 ^ 64 + w.lo

-- the integer that a signed word stands for
unfoldable pub int_of : Signed → ℤ
int_of s = s.hi *ℤ pos (2 ^ 64) +ℤ pos s.lo

-- z modulo 2 ^ w: the lowest w bits of z in two's complement
unfoldable pub residue : ℕ → ℤ → ℕ
residue w (pos n) = n % 2 ^ w
residue w (negsuc n) = 2 ^ w - 1 - n % 2 ^ w

-- the integer that n stands for as w bits in two's complement: n, less 2 ^ w from half of that on
unfoldable pub signed : ℕ → ℕ → ℤ
signed w n = cond (nat_lt n (2 ^ (w - 1))) (pos n) (pos n -ℤ pos (2 ^ w))

-- the integer of 128 bits that differs from z by a multiple of 2 ^ 128
unfoldable pub wrapped : ℤ → ℤ
wrapped z = signed 128 (residue 128 z)

-- is z from -(2 ^ 127) to 2 ^ 127 - 1? (`mag` of n and of -(n + 1) is n)
unfoldable pub fits : ℤ → Bool
fits z = nat_lt (mag z) (2 ^ 127)

-- z if it is an integer of 128 bits, else none
abbrev pub fitted : ℤ → Option ℤ
fitted z = only (fits z) z

-- x / y rounded toward zero; none for y = 0, and where the quotient does not fit
unfoldable pub quotient : ℤ → ℤ → Option ℤ
quotient x y = provided (nat_lt 0 (unsigned_abs y)) (fitted (int_div x y))

-- what x / y leaves, with the sign of x; none where the quotient is none
unfoldable pub remainder : ℤ → ℤ → Option ℤ
remainder x y = provided (nat_lt 0 (unsigned_abs y)) (only (fits (int_div x y)) (int_rem x y))

-- the number of a Option Word
abbrev pub number_of : Option Word → Option ℕ
number_of (Some w) = Some (val w)
number_of None = None

-- the integer of a Option Signed
abbrev pub value_of : Option Signed → Option ℤ
value_of (Some s) = Some (int_of s)
value_of None = None

-- is z below 0?
abbrev pub is_neg : ℤ → Bool
is_neg (pos n) = false
is_neg (negsuc n) = true

-- are two integers equal?
abbrev pub eq_z : ℤ → ℤ → Bool
eq_z (pos a) (pos b) = a == b
eq_z (pos a) (negsuc b) = false
eq_z (negsuc a) (pos b) = false
eq_z (negsuc a) (negsuc b) = a == b

-- the lesser of two integers
abbrev pub min_z : ℤ → ℤ → ℤ
min_z a b = cond (int_lt b a) b a

-- the greater of two integers
abbrev pub max_z : ℤ → ℤ → ℤ
max_z a b = cond (int_lt b a) a b

-- is exactly one bit of n set?
unfoldable pub is_power_of_two : ℕ → Bool
is_power_of_two n = count_ones n == 1

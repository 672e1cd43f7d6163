-- SMT-LIB's bit vectors: the theory FixedSizeBitVectors, and the operators that the logic QF_BV adds.
-- A bit vector of width m, m at least 1, is a number below 2 ^ m, its `bv2nat`.
use Rattle.std.specs.Prelude.{Bool, true, false, cond, ℕ, ◌+◌, ◌-◌, ◌*◌, ◌/◌, ◌%◌, ◌^◌, eqb, ltb, leb}
use Rattle.std.specs.Int.Bits.{bit_and, bit_or, bit_xor}

-- ---- FixedSizeBitVectors

-- (concat s t), t of width n
abbrev pub concat : ℕ → ℕ → ℕ → ℕ
concat n s t = s * 2 ^ n + t

-- ((_ extract i j) s): bits i down to j
abbrev pub extract : ℕ → ℕ → ℕ → ℕ
extract i j s = s / 2 ^ j % 2 ^ (i - j + 1)

-- (bvnot s): every bit is flipped
abbrev pub bvnot : ℕ → ℕ → ℕ
bvnot m s = 2 ^ m - 1 - s

-- (bvneg s): 2 ^ m - s, modulo 2 ^ m
abbrev pub bvneg : ℕ → ℕ → ℕ
bvneg m s = (2 ^ m - s) % 2 ^ m

-- (bvand s t), bit by bit
abbrev pub bvand : ℕ → ℕ → ℕ
bvand s t = bit_and s t

-- (bvor s t), bit by bit
abbrev pub bvor : ℕ → ℕ → ℕ
bvor s t = bit_or s t

-- (bvadd s t), modulo 2 ^ m
abbrev pub bvadd : ℕ → ℕ → ℕ → ℕ
bvadd m s t = (s + t) % 2 ^ m

-- (bvmul s t), modulo 2 ^ m
abbrev pub bvmul : ℕ → ℕ → ℕ → ℕ
bvmul m s t = s * t % 2 ^ m

-- by 0: all ones
abbrev pub bvudiv : ℕ → ℕ → ℕ → ℕ
bvudiv m s t = cond (eqb t 0) (2 ^ m - 1) (s / t)

-- by 0: s
abbrev pub bvurem : ℕ → ℕ → ℕ
bvurem s t = cond (eqb t 0) s (s % t)

-- (bvshl s t): s * 2 ^ t, modulo 2 ^ m
abbrev pub bvshl : ℕ → ℕ → ℕ → ℕ
bvshl m s t = s * 2 ^ t % 2 ^ m

-- (bvlshr s t): s / 2 ^ t
abbrev pub bvlshr : ℕ → ℕ → ℕ
bvlshr s t = s / 2 ^ t

-- (bvult s t)
abbrev pub bvult : ℕ → ℕ → Bool
bvult s t = ltb s t

-- ---- QF_BV

-- (bvxor s t), bit by bit
abbrev pub bvxor : ℕ → ℕ → ℕ
bvxor s t = bit_xor s t

-- (bvsub s t) abbreviates (bvadd s (bvneg t))
abbrev pub bvsub : ℕ → ℕ → ℕ → ℕ
bvsub m s t = bvadd m s (bvneg m t)

-- is bit m - 1 of s set?
abbrev pub msb : ℕ → ℕ → Bool
msb m s = eqb (extract (m - 1) (m - 1) s) 1

-- one of four, by two top bits
abbrev pub by_signs : Bool → Bool → ℕ → ℕ → ℕ → ℕ → ℕ
by_signs false false x y z w = x
by_signs true false x y z w = y
by_signs false true x y z w = z
by_signs true true x y z w = w

-- (bvsdiv s t): the quotient of the magnitudes, negated where the top bits differ
unfoldable pub bvsdiv : ℕ → ℕ → ℕ → ℕ
bvsdiv m s t =
    by_signs (msb m s) (msb m t) (bvudiv m s t) (bvneg m (bvudiv m (bvneg m s) t)) (bvneg m (bvudiv m s (bvneg m t)))
    (bvudiv m (bvneg m s) (bvneg m t))

-- (bvsrem s t): the remainder of the magnitudes, negated where the dividend's top bit is set
unfoldable pub bvsrem : ℕ → ℕ → ℕ → ℕ
bvsrem m s t =
    by_signs (msb m s) (msb m t) (bvurem s t) (bvneg m (bvurem (bvneg m s) t)) (bvurem s (bvneg m t))
    (bvneg m (bvurem (bvneg m s) (bvneg m t)))

-- (bvashr s t): bvlshr, on the complement where the top bit is set
unfoldable pub bvashr : ℕ → ℕ → ℕ → ℕ
bvashr m s t = cond (msb m s) (bvnot m (bvlshr (bvnot m s) t)) (bvlshr s t)

-- (bvule s t)
abbrev pub bvule : ℕ → ℕ → Bool
bvule s t = leb s t

-- the order by two top bits: equal ones leave it to `t`
abbrev pub ordered : Bool → Bool → Bool → Bool
ordered false false t = t
ordered true false t = true
ordered false true t = false
ordered true true t = t

-- (bvslt s t)
abbrev pub bvslt : ℕ → ℕ → ℕ → Bool
bvslt m s t = ordered (msb m s) (msb m t) (bvult s t)

-- (bvsle s t)
abbrev pub bvsle : ℕ → ℕ → ℕ → Bool
bvsle m s t = ordered (msb m s) (msb m t) (bvule s t)

-- ((_ zero_extend i) s)
abbrev pub zero_extend : ℕ → ℕ → ℕ
zero_extend i s = s

-- ((_ sign_extend i) s): i copies of the top bit in front
abbrev pub sign_extend : ℕ → ℕ → ℕ → ℕ
sign_extend m i s = concat m (cond (msb m s) (2 ^ i - 1) 0) s

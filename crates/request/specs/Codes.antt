-- What numbers name: types, operators and truth values.
use Rattle.std.specs.Prelude.{Bool, true, false, cond, ℕ, min, ◌-◌, ◌^◌, eqb}
use Rattle.std.specs.Prelude.{Option, None, Some}
use Rattle.word.specs.Option.{only}
use Rattle.range.specs.declared.ScalarType.{ScalarType}
use Rattle.range.specs.declared.ScalarType.TheVariants as ty
use Rattle.evaluate.specs.declared.Unary.{Unary}
use Rattle.evaluate.specs.declared.Binary.{Binary}
use Rattle.evaluate.specs.Operator.{BOOL, BITS, INTEGER, unary_of, binary_of, is_unary_code, is_binary_code}

-- a width as a u16; a larger one stays past the widest
abbrev pub clamped : ℕ → ℕ
clamped n = min n (2 ^ 16 - 1)

-- Bool and Integer have width 0
abbrev pub type_by_code : ℕ → ℕ → Option ScalarType
type_by_code code width =
    cond (eqb code BOOL) (cond (eqb width 0) (Some ty.Bool) None)
    (cond (eqb code BITS) (Some (ty.Bits (clamped width)))
    (cond (eqb code INTEGER) (cond (eqb width 0) (Some ty.Integer) None) None))

-- the unary operator of a code and its parameter
abbrev pub unary_by_code : ℕ → ℕ → Option Unary
unary_by_code code p = only (is_unary_code code p) (unary_of code (clamped p))

-- the binary operator of a code
abbrev pub binary_by_code : ℕ → Option Binary
binary_by_code code = only (is_binary_code code) (binary_of code)

-- 0 is false and 1 true
abbrev pub truth_by_number : ℕ → Option Bool
truth_by_number n = cond (eqb n 0) (Some false) (only (eqb n 1) true)

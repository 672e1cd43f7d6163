-- The sets of operators that the folds, the guards and the typing table ask for.
use Rattle.std.specs.Prelude.{List, [], ◌∷◌}
use Rattle.evaluate.specs.declared.Binary.{Binary}
use Rattle.evaluate.specs.declared.Binary.TheVariants as bi

-- And, Or and Xor
abbrev pub bitwise : List Binary
bitwise = bi.And ∷ bi.Or ∷ bi.Xor ∷ []

-- Equal and NotEqual
abbrev pub equalities : List Binary
equalities = bi.Equal ∷ bi.NotEqual ∷ []

-- Add and Sub
abbrev pub sums : List Binary
sums = bi.Add ∷ bi.Sub ∷ []

-- LessSigned and LessUnsigned
abbrev pub strict_orders : List Binary
strict_orders = bi.LessSigned ∷ bi.LessUnsigned ∷ []

-- LessUnsigned and LessEqualUnsigned
abbrev pub unsigned_orders : List Binary
unsigned_orders = bi.LessUnsigned ∷ bi.LessEqualUnsigned ∷ []

-- the comparisons
abbrev pub comparisons : List Binary
comparisons = bi.LessSigned ∷ bi.LessUnsigned ∷ bi.LessEqualSigned ∷ bi.LessEqualUnsigned ∷ equalities

-- the shifts that are folded
abbrev pub shifts : List Binary
shifts = bi.ShiftLeft ∷ bi.ShiftRight ∷ []

-- all shifts
abbrev pub any_shift : List Binary
any_shift = bi.ShiftLeft ∷ bi.ShiftRight ∷ bi.ArithmeticShiftRight ∷ []

-- the operators whose low bits depend on low bits alone
abbrev pub modular_ops : List Binary
modular_ops = bi.Add ∷ bi.Sub ∷ bi.Mul ∷ bitwise

-- the operators whose operands may change places
abbrev pub commutative : List Binary
commutative = bi.Add ∷ bi.Mul ∷ bi.And ∷ bi.Or ∷ bi.Xor ∷ equalities

-- the operators that 0 on the right leaves as it is
abbrev pub zero_keeps : List Binary
zero_keeps = bi.Add ∷ bi.Sub ∷ bi.Or ∷ bi.Xor ∷ any_shift

-- the operators that 0 on the right makes 0
abbrev pub zero_makes_zero : List Binary
zero_makes_zero = bi.And ∷ bi.Mul ∷ []

-- x with itself is x
abbrev pub kept_twice : List Binary
kept_twice = bi.And ∷ bi.Or ∷ []

-- x with itself is 0
abbrev pub zero_twice : List Binary
zero_twice = bi.Sub ∷ bi.Xor ∷ []

-- x compared with itself is true
abbrev pub true_twice : List Binary
true_twice = bi.Equal ∷ bi.LessEqualSigned ∷ bi.LessEqualUnsigned ∷ []

-- x compared with itself is false
abbrev pub false_twice : List Binary
false_twice = bi.NotEqual ∷ bi.LessSigned ∷ bi.LessUnsigned ∷ []

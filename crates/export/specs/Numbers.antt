-- The requests that the numbers of an exported call ask for. Where a code names nothing, its widths and ids are asked all the same.
use Rattle.std.specs.Prelude.{[], ◌∷◌, ℕ}
use Rattle.std.specs.Prelude.{Option}
use Rattle.word.specs.Option.{given}
use Rattle.range.specs.Interval.{Interval}
use Rattle.range.specs.declared.ScalarType.{ScalarType}
use Rattle.request.specs.Codes.{clamped, type_by_code, unary_by_code, binary_by_code, truth_by_number}
use Rattle.request.specs.Request as request
use Rattle.request.specs.Request.{Request, unnamed}

-- a leaf, its type by code and width
abbrev pub leaf_named : ℕ → ℕ → (ScalarType → Request) → Request
leaf_named code width f = given (type_by_code code width) f (unnamed (clamped width ∷ []) [])

-- constant
unfoldable pub constant_by_code : ℕ → ℕ → ℕ → Request
constant_by_code code width v = leaf_named code width (λ t. request.constant t v)

-- input
unfoldable pub input_by_code : ℕ → ℕ → ℕ → Option Interval → Request
input_by_code i code width r = leaf_named code width (λ t. request.input i t r)

-- effect
unfoldable pub effect_by_code : ℕ → ℕ → ℕ → Request
effect_by_code i code width = leaf_named code width (λ t. request.effect i t)

-- an operation, its type and operator by code; else its widths and ids
abbrev pub operation_named : {A : Type 0} → Option ScalarType → Option A → (ScalarType → A → Request) → Request → Request
operation_named t o f r = given t (λ t. given o (f t) r) r

-- unary: type, operator and parameter, operand
unfoldable pub unary_by_codes : ℕ → ℕ → ℕ → ℕ → ℕ → Request
unary_by_codes code width o p v =
    operation_named (type_by_code code width) (unary_by_code o p) (λ t u. request.unary t u v) (unnamed (clamped width ∷ clamped p ∷ []) (v ∷ v ∷ []))

-- binary: type, operator, operands
unfoldable pub binary_by_codes : ℕ → ℕ → ℕ → ℕ → ℕ → Request
binary_by_codes code width o l r =
    operation_named (type_by_code code width) (binary_by_code o) (λ t b. request.binary t b l r) (unnamed (clamped width ∷ 0 ∷ []) (l ∷ r ∷ []))

-- slice; an offset past a u16 is past every bit
unfoldable pub slice_by_numbers : ℕ → ℕ → ℕ → Request
slice_by_numbers v o w = request.slice v (clamped o) (clamped w)

-- concat
unfoldable pub concat_by_numbers : ℕ → ℕ → ℕ → ℕ → Request
concat_by_numbers h l v w = request.concat h l (clamped v) (clamped w)

-- assume_guard: a condition and what is expected of it
unfoldable pub guard_by_numbers : ℕ → ℕ → Request
guard_by_numbers n e = given (truth_by_number e) (request.guard n) (unnamed (0 ∷ 0 ∷ []) (n ∷ n ∷ []))

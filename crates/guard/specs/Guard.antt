-- A guard: a comparison of two nodes with what is expected of it, and whether two values match it (linear.rs 12 to 71).
use Rattle.std.specs.Prelude.{Bool, cond, not, ◌&&◌, List, ℕ, ◌%◌, ◌^◌, eqb, ltb, leb}
use Rattle.std.specs.Prelude.{Option, None, Some}
use Rattle.word.specs.Option.{only, provided, mapped}
use Rattle.range.specs.declared.ScalarType.TheVariants as ty
use Rattle.evaluate.specs.Evaluate.{binary_value}
use Rattle.evaluate.specs.declared.Binary.{Binary}
use Rattle.evaluate.specs.declared.Binary.TheVariants as bi
use Rattle.graph.specs.Node.{range_at}
use Rattle.fold.specs.Operator.{comparisons}
use Rattle.fold.specs.Shape.{same_binary, is_any, fits}
use Rattle.guard.specs.declared.Guard as declared-guard
use Rattle.std.specs.Prelude.{Result, Ok, Err}
use Rattle.guard.specs.Condition.{behind_nots, Comparison, comparison_at}
use Rattle.answer.specs.declared.Refusal.{Refusal}
use Rattle.answer.specs.declared.Refusal.TheVariants as refusal

-- a comparison of two nodes, what is expected of it, and whether 64 bits of each value suffice
pub record Guard : Type 0 where
  pub op : Binary
  pub left : ℕ
  pub right : ℕ
  pub expected : Bool
  pub host64 : Bool

-- what a Guard of the code stands for
abbrev pub one_guard_of : declared-guard.Guard → Guard
one_guard_of q = record { op = q.operation; left = q.left.0; right = q.right.0; expected = q.expected; host64 = q.host64 }

-- what a Option Guard stands for
abbrev pub guard_of : Option declared-guard.Guard → Option Guard
guard_of (Some q) = Some (one_guard_of q)
guard_of None = None

-- ---- from a condition to a guard

-- values that are not negative have one order
abbrev pub unsigned_for : Binary → Binary
unsigned_for o = cond (same_binary o bi.LessSigned) bi.LessUnsigned (cond (same_binary o bi.LessEqualSigned) bi.LessEqualUnsigned o)

-- by whether both operands fit 64 bits
abbrev pub guard_by : Comparison → Bool → Bool → Guard
guard_by c e host = record { op = cond host (unsigned_for c.op) c.op; left = c.left; right = c.right; expected = e; host64 = host }

-- do the ranges of both operands lie in 0 to 2 ^ 64 - 1?
abbrev pub fit_host : List ℕ → Comparison → Bool
fit_host g c = fits 64 (range_at g c.left) && fits 64 (range_at g c.right)

-- the comparison behind the BoolNots; none if there is no comparison
unfoldable pub guarded : List ℕ → ℕ → Bool → Option Guard
guarded g n e =
    mapped (λ c. guard_by c (behind_nots g n e).expected (fit_host g c)) (comparison_at g (behind_nots g n e).node)

-- ---- two values

-- are two truth values equal?
abbrev pub same_bool : Bool → Bool → Bool
same_bool a b = cond a b (not b)

-- two 64-bit words compared, by an operator that is not signed
abbrev pub host_compared : Binary → ℕ → ℕ → Option Bool
host_compared o a b =
    cond (same_binary o bi.Equal) (Some (eqb a b))
    (cond (same_binary o bi.NotEqual) (Some (not (eqb a b)))
    (cond (same_binary o bi.LessUnsigned) (Some (ltb a b)) (only (same_binary o bi.LessEqualUnsigned) (leb a b))))

-- two patterns compared, by any comparison
abbrev pub wide_compared : Binary → ℕ → ℕ → Option Bool
wide_compared o a b = provided (is_any comparisons o) (mapped (λ v. not (eqb v 0)) (binary_value o ty.Bool a b))

-- what the comparison says of two values; none for an operator that is no comparison, or with host64 a signed one
abbrev pub compared : Guard → ℕ → ℕ → Option Bool
compared q a b = cond q.host64 (host_compared q.op (a % 2 ^ 64) (b % 2 ^ 64)) (wide_compared q.op a b)

-- do two values match: is the comparison as expected?
unfoldable pub matched : Guard → ℕ → ℕ → Option Bool
matched q a b = mapped (same_bool q.expected) (compared q a b)

-- true or false, or a refusal
pub data Match : Type 0 where
  is : Bool → Match
  refused : Refusal → Match

-- what the answer to matches stands for
abbrev pub match_of : Result Bool Refusal → Match
match_of (Ok b) = is b
match_of (Err r) = refused r

-- no answer is a no to question 4
abbrev pub answered : Option Bool → Match
answered None = refused refusal.Typing
answered (Some b) = is b

-- the call matches
unfoldable pub matches_call : Guard → ℕ → ℕ → Match
matches_call q a b = answered (matched q a b)

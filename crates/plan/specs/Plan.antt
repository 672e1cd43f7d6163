-- What a builder does next: a plan, or first a fold that may come to nothing.
use Rattle.std.specs.Prelude.{Bool, true, false, ℕ}
use Rattle.std.specs.Prelude.{Option, None, Some}
use Rattle.word.specs.Value.{val}
use Rattle.range.specs.Interval.{Interval, interval_of}
use Rattle.range.specs.declared.ScalarType.{ScalarType}
use Rattle.evaluate.specs.declared.Unary.{Unary}
use Rattle.evaluate.specs.declared.Binary.{Binary}
use Rattle.graph.specs.Node.{Op, op_of}
use Rattle.plan.specs.declared.Plan as declared
use Rattle.plan.specs.declared.Plan.TheVariants as plan
use Rattle.bitfield.specs.Bitfield.{Mask, mask_of}
use Rattle.plan.specs.declared.Attempt as declared-attempt
use Rattle.plan.specs.declared.Attempt.TheVariants as attempt
use Rattle.plan.specs.declared.Rest as declared-rest
use Rattle.plan.specs.declared.Rest.TheVariants as rest
use Rattle.plan.specs.declared.First as declared-first
use Rattle.plan.specs.declared.First.TheVariants as first

pub data Plan : Type 0 where
  -- a node that is there
  give : ℕ → Plan
  -- None
  stop : Plan
  -- a constant of a type
  constant : ScalarType → ℕ → Plan
  -- the lowest node with this type, range and operation, or a new one
  add : ScalarType → Option Interval → Op → Plan
  -- another builder's answer
  identity : ScalarType → ℕ → Plan
  unary : ScalarType → Unary → ℕ → Plan
  binary : ScalarType → Binary → ℕ → ℕ → Plan
  slice : ℕ → ℕ → ℕ → Plan
  -- a slice of the base at this offset and width, as a value of the type
  slice_identity : ℕ → ℕ → ℕ → ScalarType → Plan
  -- the low bits of the base, that many, shifted left by an Integer constant
  slice_shift : ℕ → ℕ → ScalarType → ℕ → Plan
  -- a constant of the first type, then a binary operation of the second type on the base and it
  constant_binary : ScalarType → ℕ → ScalarType → Binary → ℕ → Plan
  -- And of the base and the second node, then Or of that and a constant
  and_or : ScalarType → ℕ → ℕ → ℕ → Plan
  -- both operands truncated to the width, then the operation on them
  truncated : ℕ → Binary → ℕ → ℕ → Plan
  -- the low node from the offset up at a width, the high node's low bits at another, then both as one of the last width
  split_concat : ℕ → ℕ → ℕ → ℕ → ℕ → ℕ → Plan

-- is it None?
abbrev pub is_stop : Plan → Bool
is_stop (give n) = false
is_stop stop = true
is_stop (constant t v) = false
is_stop (add t r o) = false
is_stop (identity t n) = false
is_stop (unary t o n) = false
is_stop (binary t o l r) = false
is_stop (slice n o w) = false
is_stop (slice_identity n o w t) = false
is_stop (slice_shift n w t v) = false
is_stop (constant_binary s v t o n) = false
is_stop (and_or t n m v) = false
is_stop (truncated w o l r) = false
is_stop (split_concat l o v h u w) = false

-- a fold that may come to None: modular of a node at a width, or a masked operation
pub data Attempt : Type 0 where
  modular : ℕ → ℕ → Attempt
  masked : Mask → Attempt

-- where a builder goes on after None: with these arguments, operands resolved
pub data Rest : Type 0 where
  unary_rest : ScalarType → Unary → ℕ → Rest
  binary_rest : ScalarType → Binary → ℕ → ℕ → Rest
  slice_rest : ℕ → ℕ → ℕ → Rest
  concat_rest : ℕ → ℕ → ℕ → ℕ → Rest

-- what a builder does first
pub data First : Type 0 where
  does : Plan → First
  tries : Attempt → Rest → First

-- what a Plan of the code stands for
abbrev pub plan_of : declared.Plan → Plan
plan_of (plan.Give i) = give i.0
plan_of plan.None = stop
plan_of (plan.Constant w t) = constant t (val w)
plan_of (plan.Add r o t) = add t (interval_of r) (op_of o)
plan_of (plan.Identity i t) = identity t i.0
plan_of (plan.Unary i t o) = unary t o i.0
plan_of (plan.Binary i j t o) = binary t o i.0 j.0
plan_of (plan.Slice i o w) = slice i.0 o w
plan_of (plan.SliceIdentity i o w t) = slice_identity i.0 o w t
plan_of (plan.SliceShift i n w t) = slice_shift i.0 w t (val n)
plan_of (plan.ConstantBinary v i s t o) = constant_binary s (val v) t o i.0
plan_of (plan.AndOr i j v t) = and_or t i.0 j.0 (val v)
plan_of (plan.Truncated i j w o) = truncated w o i.0 j.0
plan_of (plan.SplitConcat i j o w v t) = split_concat i.0 o w j.0 v t

-- what an Attempt stands for
abbrev pub attempt_of : declared-attempt.Attempt → Attempt
attempt_of (attempt.Modular i w) = modular i.0 w
attempt_of (attempt.Masked m) = masked (mask_of m)

-- what a Rest stands for
abbrev pub rest_of : declared-rest.Rest → Rest
rest_of (rest.Unary i t o) = unary_rest t o i.0
rest_of (rest.Binary i j t o) = binary_rest t o i.0 j.0
rest_of (rest.Slice i o w) = slice_rest i.0 o w
rest_of (rest.Concat i j v w) = concat_rest i.0 j.0 v w

-- what a First stands for
abbrev pub first_of : declared-first.First → First
first_of (first.Do p) = does (plan_of p)
first_of (first.Try a r) = tries (attempt_of a) (rest_of r)

-- what a Option Plan stands for
abbrev pub decided_of : Option declared.Plan → Option Plan
decided_of (Some p) = Some (plan_of p)
decided_of None = None

-- a constant, or None without a value
abbrev pub constant_or : ScalarType → Option ℕ → Plan
constant_or t None = stop
constant_or t (Some v) = constant t v

-- Refining a node to limits (assume.rs 26 to 79), on the words of the region.
use Rattle.std.specs.Prelude.{cond, ◌&&◌, List, ℕ, zero, suc, ◌%◌, ◌^◌, ltb, leb, ℤ, ◌+ℤ◌, ◌-ℤ◌}
use Rattle.std.specs.Prelude.{Option, None, Some}
use Rattle.std.specs.Prelude.{Result, Ok, Err}
use Rattle.word.specs.Value.{residue, signed, fitted}
use Rattle.word.specs.Option.{only, provided, mapped, given}
use Rattle.range.specs.Interval.{Interval, bounds_of, between}
use Rattle.range.specs.declared.ScalarType.{ScalarType}
use Rattle.range.specs.declared.ScalarType.TheVariants as ty
use Rattle.evaluate.specs.U128 as u128
use Rattle.evaluate.specs.declared.Binary.{Binary}
use Rattle.evaluate.specs.declared.Binary.TheVariants as bi
use Rattle.graph.specs.Layout.{LIMIT}
use Rattle.graph.specs.Node as node
use Rattle.graph.specs.Node.{type_at, range_at}
use Rattle.graph.specs.Insert as insert
use Rattle.graph.specs.Insert.{Reply, resolve, inserted}
use Rattle.graph.specs.Alias.{aliased}
use Rattle.fold.specs.Operator.{sums}
use Rattle.fold.specs.Shape.{same_type, same_binary, is_any, ByConstant, by_constant_at, origin}
use Rattle.assume.specs.declared.Outcome as declared-outcome
use Rattle.assume.specs.declared.Outcome.TheVariants as outcomes
use Rattle.assume.specs.declared.Full as declared-full
use Rattle.assume.specs.declared.Step as declared-step
use Rattle.assume.specs.declared.Step.TheVariants as steps
use Rattle.assume.specs.declared.Next as declared-next
use Rattle.assume.specs.Limits.{Limits, limited_to, meet, narrows}

-- ---- through a sum with a constant

-- the x of Bits(w) with x + c, or x - c, equal to z (assume.rs 52 to 58)
abbrev pub undone_bits : ℕ → Binary → ℕ → ℤ → ℕ
undone_bits w o c z = cond (same_binary o bi.Sub) (u128.wrapping_add (residue 128 z) c) (u128.wrapping_sub (residue 128 z) c) % 2 ^ w

-- from one to the other, where they come in this order (60)
abbrev pub ordered : ℕ → ℕ → Option Interval
ordered a b = only (leb a b) (record { low = signed 128 a; high = signed 128 b })

-- the x of Integer with x + c, or x - c, equal to z, if it is an integer of 128 bits (64 to 70)
abbrev pub undone_integer : Binary → ℤ → ℤ → Option ℤ
undone_integer o c z = cond (same_binary o bi.Sub) (fitted (z +ℤ c)) (fitted (z -ℤ c))

-- the range of x, where x + c or x - c lies in a; none where the ends of a Bits range come out in the other order (48 to 74)
unfoldable pub undone : ScalarType → Binary → ℕ → Interval → Option Interval
undone ty.Bool o c a = None
undone (ty.Bits w) o c a =
    provided (ltb w 128 && is_any sums o) (ordered (undone_bits w o c a.low) (undone_bits w o c a.high))
undone ty.Integer o c a =
    provided (is_any sums o) (between (undone_integer o (signed 128 c) a.low) (undone_integer o (signed 128 c) a.high))

-- a node, and the range to which it is refined next
pub record Next : Type 0 where
  pub node : ℕ
  pub range : Interval

-- a Next by its two parts
abbrev pub next : ℕ → Interval → Next
next n a = record { node = n; range = a }

-- a Next that may be there
abbrev pub next_of : Option declared-next.Next → Option Next
next_of (Some x) = Some (next x.node.0 (bounds_of x.range))
next_of None = None

-- the base of an operation by a constant, of type t as the node with range a is (44 to 47, 75 to 77)
abbrev pub base_by : List ℕ → ScalarType → Interval → ByConstant → Option Next
base_by g t a c = provided (same_type (type_at g c.base) t) (mapped (next c.base) (undone t c.op c.value a))

-- what follows for the base, if node n with range a is, through its Refines, a sum with a constant (40 to 78)
unfoldable pub base_of : List ℕ → ℕ → Interval → Option Next
base_of g n a = given (by_constant_at g (origin g n)) (base_by g (type_at g n) a) None

-- ---- one node

-- nothing is written, nodes are narrowed, or there is no room for a node
pub data Outcome : Type 0 where
  unchanged : Outcome
  narrowed : Outcome
  full : Outcome

-- what an Outcome of the code, or no room, stands for
abbrev pub outcome_of : Result declared-outcome.Outcome declared-full.Full → Outcome
outcome_of (Ok outcomes.Unchanged) = unchanged
outcome_of (Ok outcomes.Narrowed) = narrowed
outcome_of (Err r) = full

-- what one refinement did, the node that follows, and the words of the region after it
pub record Step : Type 0 where
  pub outcome : Outcome
  pub next : Option Next
  pub words : List ℕ

-- a step by its three parts
abbrev pub step : Outcome → Option Next → List ℕ → Step
step o x h = record { outcome = o; next = x; words = h }

-- what a Step of the code, or no room, stands for
abbrev pub step_of : Result declared-step.Step declared-full.Full → List ℕ → Step
step_of (Ok steps.Unchanged) h = step unchanged None h
step_of (Ok (steps.Narrowed x)) h = step narrowed (next_of x) h
step_of (Err r) h = step full None h

-- what the node that follows a narrowed one, or no room, stands for
abbrev pub narrowing_of : Result (Option declared-next.Next) declared-full.Full → List ℕ → Step
narrowing_of (Ok x) h = step narrowed (next_of x) h
narrowing_of (Err r) h = step full None h

-- after the Refine was stored or found: node n gets it as its alias (39)
abbrev pub alias_to : ℕ → Interval → Reply → List ℕ → Step
alias_to n a (insert.id m) h = step narrowed (base_of (aliased h n m) n a) (aliased h n m)
alias_to n a insert.nothing h = step full None h
alias_to n a insert.room h = step full None h
alias_to n a insert.units h = step full None h

-- node n is narrowed to the range a (38)
abbrev pub narrow : List ℕ → ℕ → Interval → Step
narrow g n a =
    alias_to n a (inserted g (type_at g n) (Some a) (node.refine n)).answer (inserted g (type_at g n) (Some a) (node.refine n)).words

-- node n, which has no alias, refined to limits: nothing is done without a range (28 to 39)
unfoldable pub refine_step : List ℕ → ℕ → Limits → Step
refine_step g n l =
    given (range_at g n) (λ old. cond (narrows (type_at g n) old (meet old l)) (narrow g n (meet old l)) (step unchanged None g))
    (step unchanged None g)

-- ---- from node to node

-- what a guard did, and the words of the region after it
pub record Assumed : Type 0 where
  pub outcome : Outcome
  pub words : List ℕ

-- an outcome with the words of the region
abbrev pub assumed : Outcome → List ℕ → Assumed
assumed o h = record { outcome = o; words = h }

-- after a step; `so` is what was done before it
abbrev pub go_on : Outcome → Outcome → Option Next → List ℕ → (List ℕ → ℕ → Limits → Assumed) → Assumed
go_on so unchanged x h f = assumed so h
go_on so full x h f = assumed full h
go_on so narrowed None h f = assumed narrowed h
go_on so narrowed (Some x) h f = f h x.node (limited_to x.range)

-- at most k steps
abbrev pub refine_up_to : ℕ → Outcome → List ℕ → ℕ → Limits → Assumed
refine_up_to zero so g n l = assumed so g
refine_up_to (suc k) so g n l =
    go_on so (refine_step g (resolve g n) l).outcome (refine_step g (resolve g n) l).next (refine_step g (resolve g n) l).words (refine_up_to k narrowed)

-- a node refined to limits. Each step but the last gives an alias to a node that had none, so that there are no more than nodes
unfoldable pub refined : Outcome → List ℕ → ℕ → Limits → Assumed
refined so g n l = refine_up_to LIMIT so g n l

-- What the builders build. A builder's work is a program of a few steps: add a node, call a builder, try a fold, look at the region.
use Rattle.std.specs.Prelude.{Bool, cond, ◌&&◌, List, ℕ, zero, suc, leb}
use Rattle.std.specs.Prelude.{Option}
use Rattle.range.specs.Interval.{Interval}
use Rattle.range.specs.declared.ScalarType.{ScalarType}
use Rattle.range.specs.declared.ScalarType.TheVariants as ty
use Rattle.evaluate.specs.Evaluate.{reduced}
use Rattle.evaluate.specs.U128 as u128
use Rattle.evaluate.specs.declared.Unary.{Unary}
use Rattle.evaluate.specs.declared.Unary.TheVariants as un
use Rattle.evaluate.specs.declared.Binary.{Binary}
use Rattle.evaluate.specs.declared.Binary.TheVariants as bi
use Rattle.graph.specs.Node as node
use Rattle.graph.specs.Node.{Op, type_at}
use Rattle.graph.specs.Insert.{Reply, id, nothing, room, units, resolve, inserted, constant_interval}
use Rattle.fold.specs.Shape.{mask}
use Rattle.plan.specs.Plan as plan
use Rattle.bitfield.specs.Bitfield.{Mask}
use Rattle.plan.specs.Plan.{Plan, Attempt, First}
use Rattle.build.specs.Rest.{rest_plan}
use Rattle.plan.specs.OneOperand.{identity_plan, unary_first, modular_plan}
use Rattle.plan_binary.specs.Binary.{binary_first}
use Rattle.plan_slice.specs.Slice.{slice_first, concat_first}

-- a call of one of the six builders
pub data Call : Type 0 where
  identity : ScalarType → ℕ → Call
  unary : ScalarType → Unary → ℕ → Call
  modular : ℕ → ℕ → Call
  binary : ScalarType → Binary → ℕ → ℕ → Call
  slice : ℕ → ℕ → ℕ → Call
  concat : ℕ → ℕ → ℕ → ℕ → Call

-- an answer, the units left, and the words of the region
pub data Out : Type 0 where
  out : Reply → ℕ → List ℕ → Out

pub data Prog : Type 0 where
  -- answer
  give : Reply → Prog
  -- the lowest node with this type, range and operation or a new one, and what follows its id
  add : ScalarType → Option Interval → Op → (ℕ → Prog) → Prog
  -- a builder, and what follows its id
  call : Call → (ℕ → Prog) → Prog
  -- a program, and where it answers None what follows, by the region as it then is
  tries : Prog → (List ℕ → Prog) → Prog

-- ---- the programs of the plans

-- a constant, and what follows its id
abbrev pub constant_then : ScalarType → ℕ → (ℕ → Prog) → Prog
constant_then t v k = add t (constant_interval t (reduced t v)) (node.constant (reduced t v)) k

-- answer this node
abbrev pub answer : ℕ → Prog
answer n = give (id n)

-- a builder's answer
abbrev pub tail : Call → Prog
tail c = call c answer

-- a constant of type s, then an operation on a node and it
abbrev pub by_constant : ScalarType → ℕ → ScalarType → Binary → ℕ → Prog
by_constant s v t o n = constant_then s v (λ k. tail (binary t o n k))

-- what a plan does
abbrev pub plan_prog : Plan → Prog
plan_prog (plan.give n) = answer n
plan_prog plan.stop = give nothing
plan_prog (plan.constant t v) = constant_then t v answer
plan_prog (plan.add t r o) = add t r o answer
plan_prog (plan.identity t n) = tail (identity t n)
plan_prog (plan.unary t o n) = tail (unary t o n)
plan_prog (plan.binary t o l r) = tail (binary t o l r)
plan_prog (plan.slice n o w) = tail (slice n o w)
plan_prog (plan.slice_identity n o w t) = call (slice n o w) (λ m. tail (identity t m))
plan_prog (plan.slice_shift n w t v) = call (slice n 0 w) (λ m. by_constant ty.Integer v t bi.ShiftLeft m)
plan_prog (plan.constant_binary s v t o n) = by_constant s v t o n
plan_prog (plan.and_or t n m v) = call (binary t bi.And n m) (λ k. by_constant t v t bi.Or k)
plan_prog (plan.truncated w o l r) =
    call (unary (ty.Bits w) (un.Truncate w) l) (λ a. call (unary (ty.Bits w) (un.Truncate w) r) (λ b. tail (binary (ty.Bits w) o a b)))
plan_prog (plan.split_concat l o v h u w) = call (slice l o v) (λ a. call (slice h 0 u) (λ b. tail (concat b a v w)))

-- And of the base and the mask, then the operation on that and the literal
abbrev pub mask_prog : Mask → Prog
mask_prog m =
    constant_then m.type m.mask
    (λ k. call (binary m.type bi.And m.base k) (λ a. by_constant m.type m.literal m.result m.op a))

-- a fold that may come to None
abbrev pub attempt_prog : Attempt → Prog
attempt_prog (plan.modular v w) = tail (modular v w)
attempt_prog (plan.masked m) = mask_prog m

-- what a builder does first, and after None
abbrev pub first_prog : First → Prog
first_prog (plan.does p) = plan_prog p
first_prog (plan.tries a r) = tries (attempt_prog a) (λ g. plan_prog (rest_plan g r))

-- a builder's program; operands are resolved, but those of identity and modular
abbrev pub step : Call → List ℕ → Prog
step (identity t v) g = plan_prog (identity_plan g t v)
step (unary t o v) g = first_prog (unary_first g t o (resolve g v))
step (modular v w) g = plan_prog (modular_plan g v w)
step (binary t o l r) g = first_prog (binary_first g t o (resolve g l) (resolve g r))
step (slice v o w) g = first_prog (slice_first g (resolve g v) o w)
step (concat h l v w) g = first_prog (concat_first g (resolve g h) (resolve g l) v w)

-- ---- what a program does

-- what follows an answer: an id goes on, others end
abbrev pub on_id : Reply → ℕ → List ℕ → (ℕ → ℕ → List ℕ → Out) → Out
on_id (id n) u g k = k n u g
on_id nothing u g k = out nothing u g
on_id room u g k = out room u g
on_id units u g k = out units u g

-- the same of a call's answer
abbrev pub on_out : Out → (ℕ → ℕ → List ℕ → Out) → Out
on_out (out a u g) k = on_id a u g k

-- what follows an answer: None goes on, others end
abbrev pub on_nothing : Reply → ℕ → List ℕ → (ℕ → List ℕ → Out) → Out
on_nothing (id n) u g k = out (id n) u g
on_nothing nothing u g k = k u g
on_nothing room u g k = out room u g
on_nothing units u g k = out units u g

-- the same of a program's answer
abbrev pub on_none : Out → (ℕ → List ℕ → Out) → Out
on_none (out a u g) k = on_nothing a u g k

-- a program with u units on the region g, the builders being f
abbrev pub exec : (Call → ℕ → List ℕ → Out) → Prog → ℕ → List ℕ → Out
exec f (give a) u g = out a u g
exec f (add t r o k) u g = on_id (inserted g t r o).answer u (inserted g t r o).words (λ n v h. exec f (k n) v h)
exec f (call c k) u g = on_out (f c u g) (λ n v h. exec f (k n) v h)
exec f (tries p k) u g = on_none (exec f p u g) (λ v h. exec f (k h) v h)

-- a builder whose calls go at most t deep: each entry costs a unit, and without one it is refused
unfoldable pub run : ℕ → Call → ℕ → List ℕ → Out
run zero c u g = out units 0 g
run (suc t) c zero g = out units 0 g
run (suc t) c (suc u) g = exec (run t) (step c g) u g

-- a builder with u units: no call goes deeper than there are units
unfoldable pub build : Call → ℕ → List ℕ → Out
build c u g = run u c u g

-- ---- unsigned_range (assume.rs 5 to 17), which costs no unit of its own

-- low <= value <= high as one comparison: value - low <= high - low
abbrev pub range_prog : ScalarType → ℕ → ℕ → ℕ → Prog
range_prog t v low high =
    constant_then t low (λ c. call (binary t bi.Sub v c) (λ d. by_constant t (u128.wrapping_sub high low) ty.Bool bi.LessEqualUnsigned d))

-- at most 64 bits, and a range of them that is not empty
abbrev pub is_testable : ℕ → ℕ → ℕ → Bool
is_testable w low high = leb w 64 && (leb low high && leb high (mask w))

-- None if not Bits, of more than 64, low above high, or high above the mask
abbrev pub range_step : ScalarType → ℕ → ℕ → ℕ → Prog
range_step ty.Bool v low high = give nothing
range_step (ty.Bits w) v low high =
    cond (is_testable w low high) (range_prog (ty.Bits w) v low high) (give nothing)
range_step ty.Integer v low high = give nothing

-- unsigned_range with u units
unfoldable pub unsigned_range : ℕ → ℕ → ℕ → ℕ → List ℕ → Out
unsigned_range v low high u g = exec build (range_step (type_at g v) v low high) u g

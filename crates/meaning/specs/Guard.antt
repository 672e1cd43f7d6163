-- What a guard is to say of its condition.
use Rattle.std.specs.Prelude.{Bool, true, List, ◌↔◌, ◌≡◌, ℕ}
use Rattle.std.specs.Prelude.{Some}
use Rattle.word.specs.Option.{from_bool}
use Rattle.range.specs.Interval.{Interval, ◌∈◌}
use Rattle.range.specs.declared.ScalarType.TheVariants as ty
use Rattle.graph.specs.Node.{type_at, range_at}
use Rattle.guard.specs.Condition.{behind}
use Rattle.guard.specs.Guard.{Guard, matched}
use Rattle.meaning.specs.Value.{Env, integer_of, value}

-- a condition, each node below its BoolNots and the node that they end at are Bool
abbrev pub BoolsBehind : List ℕ → ℕ → Bool → Type 0
BoolsBehind g n e = (k : ℕ) → type_at g (behind g k n e).node ≡ ty.Bool

-- a value lies in its node's range, if the node has one
abbrev pub InRange : List ℕ → ℕ → ℕ → Type 0
InRange g n x = (a : Interval) → range_at g n ≡ Some a → (integer_of (type_at g n) x) ∈ a

-- two values match a guard, or do not, and they match it exactly if the condition is as expected
pub record Decides (ρ : Env) (g : List ℕ) (condition : ℕ) (e : Bool) (q : Guard) (x y : ℕ) : Type 0 where
  pub answer : Bool
  pub matches : matched q x y ≡ Some answer
  pub exactly : (answer ≡ true) ↔ (value ρ g condition ≡ Some (from_bool e))

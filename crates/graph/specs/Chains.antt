-- A chain of steps, and where it ends.
use Rattle.std.specs.Prelude.{◌≡◌, ◌⊎◌, ℕ, zero, suc}
use Rattle.std.specs.Prelude.{Option, None, Some}
use Rattle.graph.specs.Layout.{LIMIT}

-- is z where the chain from a ends: where a step leads nowhere, or k steps on?
abbrev pub Ends : {A : Type 0} → (A → Option A → Type 0) → ℕ → A → A → Type 0
Ends next zero a z = z ≡ a
Ends next (suc k) a z = (next a None × (z ≡ a)) ⊎ ((b : _) × next a (Some b) × Ends next k b z)

-- the same of at most as many steps as there can be nodes
unfoldable pub Walked : {A : Type 0} → (A → Option A → Type 0) → A → A → Type 0
Walked next a z = Ends next LIMIT a z

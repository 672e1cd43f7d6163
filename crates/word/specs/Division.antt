-- What a division gives: quotient, remainder and steps.
use Rattle.std.specs.Prelude.{Option, None, Some}
use Rattle.std.specs.Prelude.{ℕ, ◌-◌, ◌/◌, ◌%◌}
use Rattle.std.specs.Int.Count.{count_leading_zeros}
use Rattle.word.specs.Value.{val}
use Rattle.word.specs.declared.Division.{Division}

-- a quotient, a remainder and a number of steps
pub record Divided : Type 0 where
  pub quotient : ℕ
  pub remainder : ℕ
  pub steps : ℕ

-- n divided by d, one step for each bit of n from its highest set bit down: 128 less the leading zeros
unfoldable pub divided : ℕ → ℕ → Divided
divided n d = record { quotient = n / d; remainder = n % d; steps = 128 - count_leading_zeros 128 n }

-- what a Division stands for
abbrev pub divided_of : Division → Divided
divided_of d = record { quotient = val d.quotient; remainder = val d.remainder; steps = d.steps }

-- what a Option Division stands for
abbrev pub division_of : Option Division → Option Divided
division_of (Some d) = Some (divided_of d)
division_of None = None

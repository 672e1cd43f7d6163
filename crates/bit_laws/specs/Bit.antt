-- The bits of a number.
use Rattle.std.specs.Prelude.{ℕ, ◌/◌, ◌%◌, ◌^◌}

-- bit i of n, 0 or 1
unfoldable pub bit : ℕ → ℕ → ℕ
bit n i = n / 2 ^ i % 2

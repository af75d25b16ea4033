-- Counts that stay at their greatest value.
use Rattle.std.specs.Prelude.{ℕ, ◌+◌, ◌-◌, ◌^◌, min}

-- a count that is k more, or at its greatest value
abbrev pub more_by : ℕ → ℕ → ℕ
more_by k n = min (n + k) (2 ^ 64 - 1)

abbrev pub one_more : ℕ → ℕ
one_more n = more_by 1 n

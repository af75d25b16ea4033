-- The nearest of the numbers from 1 to a limit.
use Rattle.std.specs.Prelude.{ℕ, ◌-◌, min, max}
use Rattle.cg_types.specs.declared.limits.TheConstants.{NUMBER_LIMIT, STATE_LIMIT}

abbrev pub nearest : ℕ → ℕ → ℕ
nearest most n = min (max n 1) most

-- of generations and versions
abbrev pub nearest_number : ℕ → ℕ
nearest_number = nearest (NUMBER_LIMIT - 1)

abbrev pub nearest_key : ℕ → ℕ
nearest_key = nearest STATE_LIMIT

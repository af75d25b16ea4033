-- Whether rounds go on.
use Rattle.std.specs.Prelude.{ℕ, ◌*◌, ◌-◌, ◌==◌, ◌||◌, nat_lt, Bool, false, Option, Some, None}

-- the last round was done less than three intervals ago, or there is no interval
abbrev pub is_healthy : Option ℕ → ℕ → ℕ → Bool
is_healthy None interval now = false
is_healthy (Some last) interval now = (interval == 0) || nat_lt (now - last) (interval * 3)

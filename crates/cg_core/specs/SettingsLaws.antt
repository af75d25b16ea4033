-- The limits of settings as numbers.
use Rattle.std.specs.Prelude.{◌≡◌}
use Rattle.cg_core.specs.declared.limits.TheConstants.{SEED_LIMIT}

-- The most seeds of a node.
abbrev pub LimitsAreThese : Type 0
LimitsAreThese = SEED_LIMIT ≡ 16

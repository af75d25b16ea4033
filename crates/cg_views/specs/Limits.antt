-- The value of the limit of passes.
use Rattle.std.specs.Prelude.{◌≡◌}
use Rattle.cg_views.specs.declared.limits.TheConstants.{PASS_LIMIT}

abbrev pub PassLimitValue : Type 0
PassLimitValue = PASS_LIMIT ≡ 16

-- The values of the limits of what stays in memory.
use Rattle.std.specs.Prelude.{◌≡◌}
use Rattle.cg_write_ahead.specs.declared.limits.TheConstants.{WEIGHT_LIMIT, MEMBER_WEIGHT, FOLD_LENGTH}

pub record LimitsAreThese : Type 0 where
  pub weight : WEIGHT_LIMIT ≡ 8388608
  pub member : MEMBER_WEIGHT ≡ 128
  pub fold : FOLD_LENGTH ≡ 64

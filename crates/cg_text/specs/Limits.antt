-- The values of the limits.
use Rattle.std.specs.Prelude.{◌≡◌, ◌-◌, ◌^◌}
use Rattle.cg_text.specs.declared.words.TheConstants.{GREATEST}

pub record LimitValues : Type 0 where
  pub greatest : GREATEST ≡ 2 ^ 64 - 1

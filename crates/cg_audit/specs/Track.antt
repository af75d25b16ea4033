-- The items left of an endpoint.
use Rattle.std.specs.Prelude.{ℕ, List}
use Rattle.cg_audit.specs.Items.{RunItem}

pub record Track : Type 0 where
  pub endpoint : ℕ
  pub left : List RunItem

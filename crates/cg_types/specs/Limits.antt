-- The values of the limits, and of the numbered keys and partitioner.
use Rattle.std.specs.Prelude.{◌≡◌}
use Rattle.cg_types.specs.declared.limits.TheConstants.{MEMBER_LIMIT, TEXT_LIMIT, NAME_LIMIT, STATE_LIMIT, STATUS_KEY}
use Rattle.cg_types.specs.declared.limits.TheConstants.{TOKENS_KEY, NUMBER_LIMIT, PARTITIONER}

pub record LimitValues : Type 0 where
  pub members : MEMBER_LIMIT ≡ 512
  pub text_bytes : TEXT_LIMIT ≡ 4096
  pub name_bytes : NAME_LIMIT ≡ 48
  pub keys : STATE_LIMIT ≡ 16
  pub status : STATUS_KEY ≡ 1
  pub tokens : TOKENS_KEY ≡ 2
  pub numbers : NUMBER_LIMIT ≡ 2147483648
  pub partitioner : PARTITIONER ≡ 1

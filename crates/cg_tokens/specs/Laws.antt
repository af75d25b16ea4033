-- The limits of tokens, as numbers.
use Rattle.std.specs.Prelude.{◌≡◌, ◌^◌}
use Rattle.cg_tokens.specs.declared.limits.TheConstants.{TOKEN_LIMIT, TOKEN_DIGITS, TOKEN_COUNT_LIMIT}

-- The greatest token, the digits of a token, and the most tokens of an endpoint.
pub record LimitsAreThese : Type 0 where
  pub token : TOKEN_LIMIT ≡ 2 ^ 127
  pub digits : TOKEN_DIGITS ≡ 32
  pub count : TOKEN_COUNT_LIMIT ≡ 16

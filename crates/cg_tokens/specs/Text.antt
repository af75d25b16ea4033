-- Texts of tokens, as they are read.
use Rattle.std.specs.Prelude.{ℕ, ◌<◌, ◌≤◌, ◌==◌, All, map, Bool, ◌&&◌, ◌||◌, nat_le, List, [], length, Option, Some, None, is_some, Result, Ok, Err, if◌then◌else◌}
use Rattle.std.specs.List.{list_all, filter_map, slice_split, join_with_byte}
use Rattle.std.specs.Int.{is_in_range}
use Rattle.std.specs.Str.Parse.{digits_value}
use Rattle.cg_types.specs.Rising.{Rises, rise_past}
use Rattle.cg_types.specs.declared.fault.Fault.{Fault}
use Rattle.cg_types.specs.declared.fault.Fault.TheVariants.{BadText}
use Rattle.cg_tokens.specs.Tokens.{IsToken, token_text}
use Rattle.cg_tokens.specs.declared.limits.TheConstants.{TOKEN_LIMIT, TOKEN_DIGITS, TOKEN_COUNT_LIMIT, COMMA}

-- `0` to `9` and `a` to `f`
abbrev pub is_lower_digit : ℕ → Bool
is_lower_digit c = is_in_range 48 57 c || is_in_range 97 102 c

-- the token that digits write, if there are as many as a token has, and it is not too great
unfoldable pub token_in : List ℕ → Option ℕ
token_in digits =
    if length digits == TOKEN_DIGITS && (list_all is_lower_digit digits && nat_le (digits_value 16 digits) TOKEN_LIMIT)
    then Some (digits_value 16 digits) else None

-- the byte between tokens
abbrev pub is_comma : ℕ → Bool
is_comma b = b == COMMA

-- the parts between commas
abbrev pub pieces : List ℕ → List (List ℕ)
pieces text = slice_split is_comma text

-- the parts of the rest, if there is a rest
abbrev pub pieces_of : Option (List ℕ) → List (List ℕ)
pieces_of None = []
pieces_of (Some text) = pieces text

-- not too many, each a token, each greater than the one before it
abbrev pub are_tokens : List (List ℕ) → Bool
are_tokens ps =
    nat_le (length ps) TOKEN_COUNT_LIMIT
    && (list_all (λ p. is_some (token_in p)) ps && rise_past None (filter_map token_in ps))

-- the tokens of a text, with one comma between them
abbrev pub tokens_of : List ℕ → Option (List ℕ)
tokens_of text = if are_tokens (pieces text) then Some (filter_map token_in (pieces text)) else None

-- the one text of a list of tokens
abbrev pub tokens_text : List ℕ → List ℕ
tokens_text tokens = join_with_byte COMMA (map token_text tokens)

-- Some tokens, not too many, and each is greater than the one before it.
pub record AreTokens (tokens : List ℕ) : Type 0 where
  pub some : 0 < length tokens
  pub few : length tokens ≤ TOKEN_COUNT_LIMIT
  pub in_range : All IsToken tokens
  pub rise : Rises tokens

-- the expected answer to a text of tokens
abbrev pub read_as : Option (List ℕ) → Result (List ℕ) Fault
read_as None = Err BadText
read_as (Some tokens) = Ok tokens

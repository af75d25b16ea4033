-- Tokens of bytes, and the text of a token.
use Rattle.std.specs.Prelude.{ℕ, zero, suc, ◌/◌, ◌%◌, ◌≤◌, List, [], ◌∷◌, ◌++◌, unsigned_abs}
use Rattle.std.specs.Char.{digit_char}
use Rattle.std.specs.Int.{w128, from_be_bytes, cast_signed}
use Rattle.md5.specs.Md5.{md5}
use Rattle.cg_tokens.specs.declared.limits.TheConstants.{TOKEN_LIMIT, TOKEN_DIGITS}

-- in the range of tokens
abbrev pub IsToken : ℕ → Type 0
IsToken n = n ≤ TOKEN_LIMIT

-- the MD5 as a big-endian two's complement number, in absolute value
abbrev pub token_of : List ℕ → ℕ
token_of bytes = unsigned_abs (cast_signed w128 (from_be_bytes w128 (md5 bytes)))

-- the last k hexadecimal digits of a number
unfoldable pub hexadecimal : ℕ → ℕ → List ℕ
hexadecimal zero n = []
hexadecimal (suc k) n = hexadecimal k (n / 16) ++ digit_char (n % 16) ∷ []

-- the one text of a token
abbrev pub token_text : ℕ → List ℕ
token_text t = hexadecimal TOKEN_DIGITS t

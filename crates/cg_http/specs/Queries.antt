-- The query of `/replicas`, and the form in which its answer is wanted.
use Rattle.std.specs.Prelude.{ℕ, Bool, false, List, Option, Some, None, codes, bytes_eq, if◌then◌else◌}
use Rattle.percent_encoding.specs.Percent.{percent_decode}
use Rattle.cg_types.specs.OptionSteps.{◌>>=◌}
use Rattle.cg_types.specs.Words.{cut_at}
use Rattle.cg_tokens.specs.Tokens.{token_of}
use Rattle.cg_text.specs.Words.{count_in}
use Rattle.cg_http.specs.Paths.{front_of}

-- the value of `NAME=VALUE`
unfoldable pub value_of : List ℕ → List ℕ → Option (List ℕ)
value_of name pair = do
  parts ← cut_at 61 pair
  if bytes_eq parts.0 name then Some parts.1 else None

-- the words of `key=K&rf=N`: K as it stands there, and N
unfoldable pub words_in : List ℕ → Option (List ℕ × ℕ)
words_in query = do
  pairs ← cut_at 38 query
  key ← value_of (codes "key") pairs.0
  rf ← value_of (codes "rf") pairs.1
  count ← count_in rf
  Some (key, count)

-- the token of the key's bytes, and the number of replicas
unfoldable pub replicas_in : List ℕ → Option (ℕ × ℕ)
replicas_in query = do
  words ← words_in query
  Some (token_of (percent_decode words.0), words.1)

-- The header `accept` names `application/json` first.
abbrev pub wants_json : Option (List ℕ) → Bool
wants_json None = false
wants_json (Some accept) = bytes_eq (front_of 59 (front_of 44 accept)) (codes "application/json")

-- Words of a line, which single spaces separate.
use Rattle.std.specs.Prelude.{ℕ, suc, zero, List, [], ◌∷◌, Option, Some, None, if◌then◌else◌, Result, Err}
use Rattle.std.specs.Str.{is_utf8}
use Rattle.cg_types.specs.declared.fault.Fault.{Fault}
use Rattle.cg_types.specs.declared.fault.Fault.TheVariants.{BadText}
use Rattle.cg_types.specs.OptionSteps.{◌>>=◌}
use Rattle.cg_types.specs.EndpointText.{endpoint_in}
use Rattle.cg_types.specs.Text.{state_text_of}
use Rattle.cg_types.specs.Words.{cut_at, number_of, key_in}
use Rattle.cg_text.specs.declared.words.TheConstants.{GREATEST}

-- a time in milliseconds, a random word, a number of replicas or of a message: 0 to 2^64 - 1
unfoldable pub count_in : List ℕ → Option ℕ
count_in text = number_of GREATEST text

-- an endpoint, and the text after the space that follows it
unfoldable pub endpoint_before : List ℕ → Option (ℕ × List ℕ)
endpoint_before words = do
  parts ← cut_at 32 words
  endpoint ← endpoint_in parts.0
  Some (endpoint, parts.1)

-- a number of at most 2^64 - 1, and the text after the space that follows it
unfoldable pub count_before : List ℕ → Option (ℕ × List ℕ)
count_before words = do
  parts ← cut_at 32 words
  n ← count_in parts.0
  Some (n, parts.1)

-- a key, and the text after the space that follows it
unfoldable pub key_before : List ℕ → Option (ℕ × List ℕ)
key_before words = do
  parts ← cut_at 32 words
  key ← key_in parts.0
  Some (key, parts.1)

-- four numbers
unfoldable pub four_in : List ℕ → Option (List ℕ)
four_in words = do
  a ← count_before words
  b ← count_before a.1
  c ← count_before b.1
  d ← count_in c.1
  Some (a.0 ∷ b.0 ∷ c.0 ∷ d ∷ [])

-- a text that is UTF-8
unfoldable pub text_in : List ℕ → Option (List ℕ)
text_in text = if is_utf8 text then Some text else None

-- a text of a state: UTF-8 first of all, then not too long, then with no control characters
abbrev pub state_text_of_utf8 : Option (List ℕ) → Result (List ℕ) Fault
state_text_of_utf8 None = Err BadText
state_text_of_utf8 (Some text) = state_text_of text

unfoldable pub state_text_in : List ℕ → Result (List ℕ) Fault
state_text_in text = state_text_of_utf8 (text_in text)

-- the endpoint that is the whole text, or the one before its first separator and the others
abbrev pub endpoints_by : (List ℕ → Option (List ℕ)) → List ℕ → Option (List ℕ × List ℕ) → Option (List ℕ)
endpoints_by others text None = do
  endpoint ← endpoint_in text
  Some (endpoint ∷ [])
endpoints_by others text (Some parts) = do
  endpoint ← endpoint_in parts.0
  endpoints ← others parts.1
  Some (endpoint ∷ endpoints)

-- endpoints with this byte between them, at least one and at most this number
unfoldable pub endpoints_in : ℕ → ℕ → List ℕ → Option (List ℕ)
endpoints_in at zero text = None
endpoints_in at (suc most) text = endpoints_by (endpoints_in at most) text (cut_at at text)

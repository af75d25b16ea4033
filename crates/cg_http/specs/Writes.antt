-- Whether a request may write.
use Rattle.std.specs.Prelude.{ℕ, Bool, false, ◌&&◌, ◌||◌, List, Option, Some, None, codes, bytes_eq, is_some}
use Rattle.std.specs.Option.{option_copied}
use Rattle.cg_types.specs.OptionSteps.{◌>>=◌}
use Rattle.cg_types.specs.Words.{cut_at, number_of}
use Rattle.cg_http.specs.declared.request.Request.{Request}
use Rattle.cg_http.specs.Paths.{front_of}

-- the text after the first dot, if a number of at most 255 stands before it
unfoldable pub after_octet : List ℕ → Option (List ℕ)
after_octet text = do
  parts ← cut_at 46 text
  octet ← number_of 255 parts.0
  Some parts.1

-- the text behind the first three numbers of an address
unfoldable pub last_octet : List ℕ → Option (List ℕ)
last_octet text = do
  a ← after_octet text
  b ← after_octet a
  after_octet b

abbrev pub is_octet : Option (List ℕ) → Bool
is_octet None = false
is_octet (Some text) = is_some (number_of 255 text)

-- four numbers of at most 255, with dots between
abbrev pub is_address : List ℕ → Bool
is_address text = is_octet (last_octet text)

-- The header `host` names an address or `localhost`.
abbrev pub is_near : Option (List ℕ) → Bool
is_near None = false
is_near (Some host) = is_address (front_of 58 host) || bytes_eq (front_of 58 host) (codes "localhost")

-- The header `x-cg-write` is 1.
abbrev pub is_marked : Option (List ℕ) → Bool
is_marked None = false
is_marked (Some mark) = bytes_eq mark (codes "1")

-- Writes are allowed, and the request is marked as one and was sent to an address or to `localhost`.
abbrev pub may_write : Bool → Request → Bool
may_write writes r = writes && (is_marked (option_copied r.mark) && is_near (option_copied r.host))

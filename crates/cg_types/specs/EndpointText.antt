-- An endpoint's text: the four bytes of its address with dots, a colon and the port.
use Rattle.std.specs.Prelude.{ℕ, ◌+◌, ◌*◌, ◌/◌, ◌%◌, nat_lt, if◌then◌else◌, List, ◌∷◌, ◌++◌, decimal, Option, Some, None}
use Rattle.cg_types.specs.Numbers.{endpoint_of, address_of, port_of}
use Rattle.cg_types.specs.OptionSteps.{◌>>=◌}
use Rattle.cg_types.specs.Words.{cut_at, number_of}

-- four numbers with dots, a colon and a port
abbrev pub text_of_parts : ℕ → ℕ → ℕ → ℕ → ℕ → List ℕ
text_of_parts a b c d port =
    decimal a ++ (46 ∷ (decimal b ++ (46 ∷ (decimal c ++ (46 ∷ (decimal d ++ (58 ∷ decimal port)))))))

-- the one text of an endpoint
unfoldable pub endpoint_text : ℕ → List ℕ
endpoint_text e =
    text_of_parts (address_of e / 16777216) (address_of e / 65536 % 256) (address_of e / 256 % 256) (address_of e % 256)
    (port_of e)

-- the endpoint of an address's four bytes and a port
abbrev pub endpoint_of_parts : ℕ → ℕ → ℕ → ℕ → ℕ → ℕ
endpoint_of_parts a b c d port = endpoint_of (((a * 256 + b) * 256 + c) * 256 + d) port

-- a number of at most 255 before the first byte c, and what follows that byte
unfoldable pub octet_before : ℕ → List ℕ → Option (ℕ × List ℕ)
octet_before c text = do
  parts ← cut_at c text
  octet ← number_of 255 parts.0
  Some (octet, parts.1)

-- a port, 1 to 65535
unfoldable pub port_in : List ℕ → Option ℕ
port_in text = do
  port ← number_of 65535 text
  if nat_lt 0 port then Some port else None

-- the endpoint of a text, if it is the text of one
unfoldable pub endpoint_in : List ℕ → Option ℕ
endpoint_in text = do
  a ← octet_before 46 text
  b ← octet_before 46 a.1
  c ← octet_before 46 b.1
  d ← octet_before 58 c.1
  port ← port_in d.1
  Some (endpoint_of_parts a.0 b.0 c.0 d.0 port)

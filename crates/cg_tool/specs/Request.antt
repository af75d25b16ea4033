-- The input of `answer`: a line with the node, and a line with a frame in hexadecimal digits.
use Rattle.std.specs.Prelude.{ℕ, ◌==◌, if◌then◌else◌, List, length, Option, Some, None}
use Rattle.hex.specs.Hex.{decode_of}
use Rattle.cg_types.specs.declared.limits.TheConstants.{PARTITIONER}
use Rattle.cg_types.specs.Words.{cut_at, generation_in}
use Rattle.cg_types.specs.OptionSteps.{◌>>=◌}
use Rattle.cg_types.specs.EndpointText.{endpoint_in}
use Rattle.cg_types.specs.Text.{cluster_of}
use Rattle.cg_text.specs.Gives.{readable}
use Rattle.cg_tool.specs.declared.request.Header.{Header}

-- a node's endpoint, its generation and the name of its cluster, with single spaces
unfoldable pub header_in : List ℕ → Option Header
header_in line = do
  first ← cut_at 32 line
  endpoint ← endpoint_in first.0
  second ← cut_at 32 first.1
  generation ← generation_in second.0
  cluster ← readable (cluster_of second.1 PARTITIONER)
  Some (record { endpoint = endpoint; generation = generation; cluster = cluster })

-- all of the text, or the part before a line feed that ends it
abbrev pub last_part : List ℕ → Option (List ℕ × List ℕ) → Option (List ℕ)
last_part all None = Some all
last_part all (Some p) = if length p.1 == 0 then Some p.0 else None

-- a last line, whose line feed may be missing
unfoldable pub last_line : List ℕ → Option (List ℕ)
last_line text = if length text == 0 then None else last_part text (cut_at 10 text)

-- the header, and the bytes of the second line's digits
unfoldable pub request_in : List ℕ → Option (Header × List ℕ)
request_in input = do
  lines ← cut_at 10 input
  header ← header_in lines.0
  digits ← last_line lines.1
  frame ← readable (decode_of digits)
  Some (header, frame)

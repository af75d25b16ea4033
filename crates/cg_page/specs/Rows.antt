-- The rows of the table.
use Rattle.std.specs.Prelude.{ℕ, List, [], ◌++◌, length, Option, Some, None, codes, decimal}
use Rattle.std.specs.List.{flat_map}
use Rattle.std.specs.FinMap as map
use Rattle.cg_types.specs.EndpointText.{endpoint_text}
use Rattle.cg_types.specs.Key.{key_name}
use Rattle.cg_entry.specs.Versioned.{Versioned}
use Rattle.cg_entry.specs.Values.{EntryValue}
use Rattle.cg_entry.specs.Entry.{newest}
use Rattle.cg_silence.specs.Verdict.{verdict_name}
use Rattle.cg_status.specs.declared.status.Seen.{Seen}
use Rattle.cg_status.specs.Status.{seen_of}
use Rattle.cg_page.specs.Escaped.{escaped}
use Rattle.cg_page.specs.Drawn.{colour}

-- a key's name and its text
unfoldable pub text_html : ℕ → List ℕ → List ℕ
text_html key text = codes "<dt>" ++ (key_name key ++ (codes "</dt><dd>" ++ (escaped text ++ codes "</dd>\n")))

-- the same; nothing of a tombstone
abbrev pub some_html : ℕ → Option (List ℕ) → List ℕ
some_html key None = []
some_html key (Some text) = text_html key text

abbrev pub state_html : ℕ × Versioned → List ℕ
state_html s = some_html s.0 s.1.text

unfoldable pub number_cell : ℕ → List ℕ
number_cell n = codes "<td>" ++ (decimal n ++ codes "</td>")

unfoldable pub number_cells : EntryValue → List ℕ
number_cells e = number_cell e.generation ++ (number_cell e.heartbeat ++ number_cell (newest e))

abbrev pub since_cell : Option ℕ → List ℕ
since_cell None = codes "<td></td>"
since_cell (Some since) = number_cell since

unfoldable pub seen_cells : Option Seen → List ℕ
seen_cells None = codes "<td></td><td></td>"
seen_cells (Some seen) = codes "<td>" ++ (verdict_name seen.verdict ++ (codes "</td>" ++ since_cell seen.since))

-- the head of an endpoint's row, with its colour
unfoldable pub head_cell : ℕ → List ℕ
head_cell e =
    codes "<tr id=\"" ++ (endpoint_text e ++ (codes "\"><th scope=\"row\"><i style=\"background:" ++ (colour e
    ++ (codes "\"></i>" ++ (endpoint_text e ++ codes "</th>")))))

-- the row of an endpoint
unfoldable pub row_html : List Seen → ℕ × EntryValue → List ℕ
row_html seen row =
    head_cell row.0 ++ (number_cells row.1 ++ (seen_cells (seen_of seen row.0) ++ (codes "<td><details><summary>"
    ++ (decimal (length (map.entries row.1.states)) ++ (codes "</summary><dl>\n"
    ++ (flat_map state_html (map.entries row.1.states) ++ codes "</dl></details></td></tr>\n"))))))

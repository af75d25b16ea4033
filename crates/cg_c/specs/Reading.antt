-- What is read of a node.
use Rattle.std.specs.Prelude.{ℕ, List, Option, Some, None, Result, Ok, Err}
use Rattle.std.specs.List.{flat_map}
use Rattle.std.specs.FinMap as map
use Rattle.cg_types.specs.declared.fault.Fault.{Fault}
use Rattle.cg_types.specs.declared.fault.Fault.TheVariants.{NoSuchNode}
use Rattle.cg_entry.specs.Values.{EntryValue}
use Rattle.cg_table.specs.Values.{Entries, TableValue}
use Rattle.cg_tokens.specs.Ring.{ring}
use Rattle.cg_core.specs.Values.{NodeValue}
use Rattle.cg_text.specs.Printed.{gossipinfo, digest_lines, ring_lines, replica_lines, endpoint_line}
use Rattle.cg_text.specs.declared.view.View.{View}
use Rattle.cg_text.specs.declared.view.View.TheVariants as view

-- the text of a view of a table
abbrev pub view_lines : TableValue → View → List ℕ
view_lines t view.Gossipinfo = gossipinfo t.entries
view_lines t view.Ring = ring_lines (ring t.entries)
view_lines t view.Digests = digest_lines t.entries
view_lines t (view.Replicas token rf) = replica_lines (ring t.entries) token rf

abbrev pub held_view : Option NodeValue → View → Result (List ℕ) Fault
held_view None view = Err NoSuchNode
held_view (Some n) view = Ok (view_lines n.table view)

-- the endpoint of an entry, in a line
abbrev pub owner_line : ℕ × EntryValue → List ℕ
owner_line e = endpoint_line e.0

-- the endpoint of each entry, rising
abbrev pub owner_lines : Entries → List ℕ
owner_lines entries = flat_map owner_line (map.entries entries)

abbrev pub held_owners : Option NodeValue → Result (List ℕ) Fault
held_owners None = Err NoSuchNode
held_owners (Some n) = Ok (owner_lines n.table.entries)

-- The texts that show a table to an operator.
use Rattle.std.specs.Prelude.{ℕ, List, ◌++◌, codes, decimal}
use Rattle.cg_table.specs.Values.{TableValue}
use Rattle.cg_tokens.specs.Ring.{ring}
use Rattle.cg_text.specs.Printed.{gossipinfo, digest_lines, ring_lines, replica_lines}
use Rattle.cg_text.specs.declared.view.View.{View}
use Rattle.cg_text.specs.declared.view.View.TheVariants as view

-- the text of a view of a table
abbrev pub table_lines : TableValue → View → List ℕ
table_lines t view.Gossipinfo = gossipinfo t.entries
table_lines t view.Ring = ring_lines (ring t.entries)
table_lines t view.Digests = digest_lines t.entries
table_lines t (view.Replicas token rf) = replica_lines (ring t.entries) token rf

-- the version that a change was given, if readers do not see it yet
unfoldable pub unpublished_line : ℕ → List ℕ
unpublished_line version = codes "version " ++ (decimal version ++ codes " unpublished\n")

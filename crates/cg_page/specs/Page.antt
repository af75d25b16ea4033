-- The page of a status, a table's entries and its ring.
use Rattle.std.specs.Prelude.{ℕ, List, ◌++◌, codes}
use Rattle.std.specs.List.{flat_map}
use Rattle.cg_types.specs.EndpointText.{endpoint_text}
use Rattle.cg_entry.specs.Values.{EntryValue}
use Rattle.cg_status.specs.declared.status.Status.{Status}
use Rattle.cg_page.specs.Escaped.{escaped}
use Rattle.cg_page.specs.Drawn.{arcs}
use Rattle.cg_page.specs.Rows.{row_html}
use Rattle.cg_page.specs.declared.template.TheConstants.{BEFORE_NAME, AFTER_NAME, AFTER_RING, AFTER_ROWS, SCRIPT, AFTER_SCRIPT}

unfoldable pub page_html : Status → List (ℕ × EntryValue) → List (ℕ × ℕ) → List ℕ
page_html s rows positions =
    BEFORE_NAME.now ++ (endpoint_text s.own ++ (codes " " ++ (escaped s.cluster.name ++ (AFTER_NAME.now ++ (arcs positions
    ++ (AFTER_RING.now ++ (flat_map (row_html s.seen.items) rows ++ (AFTER_ROWS.now ++ (SCRIPT.now ++ AFTER_SCRIPT.now)))))))))

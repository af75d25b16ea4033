use Rattle.std.proofs.Common.{◌++◌, ◌∙◌, ℕ, codes, List, ap}
use Rattle.std.specs.List.{flat_map}
use Rattle.std.specs.FinMap as map
use Rattle.cg_types.specs.EndpointText.{endpoint_text}
use Rattle.cg_entry.specs.Values.{EntryValue}
use Rattle.cg_page.specs.declared.template.TheConstants.{BEFORE_NAME, AFTER_NAME, AFTER_RING, AFTER_ROWS, SCRIPT, AFTER_SCRIPT}
use Rattle.cg_page.specs.Escaped.{escaped}
use Rattle.cg_page.specs.Drawn.{arcs}
use Rattle.cg_page.specs.Rows.{row_html}
use Rattle.cg_page.specs.Page.{page_html}
use Rattle.cg_page.proofs.ChainLemmas.{onto, whole}
use Rattle.cg_page.proofs.whole.page.Goals as goal

pub returns : goal.returns
unfolding page_html
returns c =
    whole c.new-page.result.items _ c.add-7.new.page.items c.new-page.ensures.items
    (onto c.new-page.result.items (BEFORE_NAME.now) c.add.new.page.items _ c.add-7.new.page.items c.in_ok-add.ensures
    (onto c.add.new.page.items (endpoint_text c.args.status.now.own) c.add_endpoint.new.page.items _ c.add-7.new.page.items c.in_ok-add_endpoint.ensures
    (onto c.add_endpoint.new.page.items (codes " ") c.add-2.new.page.items _ c.add-7.new.page.items c.in_ok-add-2.ensures
    (onto c.add-2.new.page.items (escaped c.args.status.now.cluster.name) c.add_escaped.new.page.items _ c.add-7.new.page.items (c.in_ok-add_escaped.ensures ∙ ap (λ (t : List ℕ). c.add-2.new.page.items ++ escaped t) c.name.ensures.value)
    (onto c.add_escaped.new.page.items (AFTER_NAME.now) c.add-3.new.page.items _ c.add-7.new.page.items c.in_ok-add-3.ensures
    (onto c.add-3.new.page.items (arcs (map.entries c.args.ring.now.positions)) c.add_arcs.new.page.items _ c.add-7.new.page.items (c.in_ok-add_arcs.ensures ∙ ap (λ (ps : List (ℕ × ℕ)). c.add-3.new.page.items ++ arcs ps) c.positions.ensures.value)
    (onto c.add_arcs.new.page.items (AFTER_RING.now) c.add-4.new.page.items _ c.add-7.new.page.items c.in_ok-add-4.ensures
    (onto c.add-4.new.page.items (flat_map (row_html c.args.status.now.seen.items) (map.entries c.args.table.now.entries)) c.add_rows.new.page.items _ c.add-7.new.page.items (c.in_ok-add_rows.ensures ∙ ap (λ (rs : List (ℕ × EntryValue)). c.add-4.new.page.items ++ flat_map (row_html c.args.status.now.seen.items) rs) c.owners.ensures.value)
    (onto c.add_rows.new.page.items (AFTER_ROWS.now) c.add-5.new.page.items _ c.add-7.new.page.items c.in_ok-add-5.ensures
    (onto c.add-5.new.page.items (SCRIPT.now) c.add-6.new.page.items AFTER_SCRIPT.now c.add-7.new.page.items c.in_ok-add-6.ensures
    c.in_ok-add-7.ensures))))))))))

use Rattle.std.proofs.Common.{arith, sym, ap, ◌∙◌}
use Rattle.toml.specs.View.{items_view}
use Rattle.cg_settings_file.specs.Seeds.{endpoints_in as listed_endpoints}
use Rattle.cg_settings_file.proofs.SeedLemmas.{read_next, read_none, read_all, read_from_none}
use Rattle.cg_settings_file.proofs.seeds.endpoints_in.Goals as goal

pub returns-in_default : goal.returns-in_default
returns-in_default c =
    read_none c.loop-item.endpoints.items c.deref-item-items.result.now c.loop-item.item-index c.item-item.result (omega arith) c.item-item.is (sym c.in_default.is ∙ c.endpoint_in_value.ensures)
    ∙ c.loop-item.invariant
    ∙ ap (λ vs. listed_endpoints (items_view vs)) c.deref-item-items.ensures.value

pub loop-item-init : goal.loop-item-init
loop-item-init c = rw c.new-endpoints.ensures.items (read_from_none (listed_endpoints (items_view c.deref-item-items.result.now)))

pub loop-item-preserved : goal.loop-item-preserved
loop-item-preserved c =
    rw c.in_ok-push.ensures.items
    (read_next c.loop-item.endpoints.items c.deref-item-items.result.now c.loop-item.item-index c.item-item.result c.in-Some.endpoint (omega arith) c.item-item.is (sym c.in-Some.is ∙ c.endpoint_in_value.ensures)
    ∙ c.loop-item.invariant)

pub returns : goal.returns
returns c =
    read_all c.loop-item.endpoints.items c.deref-item-items.result.now c.loop-item.item-index (omega arith)
    ∙ c.loop-item.invariant
    ∙ ap (λ vs. listed_endpoints (items_view vs)) c.deref-item-items.ensures.value

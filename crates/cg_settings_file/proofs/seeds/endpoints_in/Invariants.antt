use Rattle.std.proofs.Common.{◌≡◌, drop}
use Rattle.toml.specs.View.{items_view}
use Rattle.cg_settings_file.specs.Seeds.{endpoints_in}
use Rattle.cg_settings_file.proofs.SeedLemmas.{with_front}
use Rattle.cg_settings_file.proofs.seeds.endpoints_in.Given as goal

-- The endpoints read so far, before those of the items left, are the endpoints of all items.
abbrev pub invariant-loop-item : goal.invariant-loop-item
invariant-loop-item l = with_front l.endpoints.items (endpoints_in (items_view (drop l.item-index l.item-items))) ≡ endpoints_in (items_view l.item-items)

use Rattle.std.proofs.Common.{◌≡◌, ◌++◌, take}
use Rattle.std.specs.List.{flat_map}
use Rattle.std.specs.FinMap as map
use Rattle.cg_page.specs.Rows.{state_html}
use Rattle.cg_page.proofs.rows.add_states.Given as goal

abbrev pub invariant-loop-place : goal.invariant-loop-place
invariant-loop-place l = l.page.items ≡ l.initial.page.items ++ flat_map state_html (take l.place (map.entries l.entry.states))

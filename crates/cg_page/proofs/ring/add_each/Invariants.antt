use Rattle.std.proofs.Common.{◌≡◌, ◌≤◌, ◌++◌, drop}
use Rattle.cg_page.specs.Drawn.{arcs_from, end_from}
use Rattle.cg_page.proofs.ring.add_each.Given as goal

abbrev pub invariant-loop-token : goal.invariant-loop-token
invariant-loop-token l =
    (l.page.items ++ arcs_from l.from (drop l.token-index l.positions) ≡ l.initial.page.items ++ arcs_from 0 l.positions)
    × ((end_from l.from (drop l.token-index l.positions) ≡ end_from 0 l.positions) × (l.from ≤ 65536))

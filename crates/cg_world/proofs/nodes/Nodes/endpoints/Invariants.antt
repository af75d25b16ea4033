use Rattle.std.proofs.Common.{◌≡◌, map, take}
use Rattle.cg_world.proofs.nodes.Nodes.endpoints.Given as goal

abbrev pub invariant-loop-row : goal.invariant-loop-row
invariant-loop-row l = l.endpoints.items ≡ map (λ row. row.0) (take l.row-index l.rows)

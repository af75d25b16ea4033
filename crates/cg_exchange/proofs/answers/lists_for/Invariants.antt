use Rattle.std.proofs.Common.{◌≡◌, ◌+◌, ◌++◌, length, map}
use Rattle.std.specs.FinMap as table
use Rattle.cg_types.specs.Rising.{Rises}
use Rattle.cg_exchange.specs.Walking.{row_request, row_delta}
use Rattle.cg_exchange.proofs.WalkLemmas.{side_by_side}
use Rattle.cg_exchange.proofs.answers.lists_for.Given as goal

abbrev pub invariant-loop-rows : goal.invariant-loop-rows
invariant-loop-rows l = record {
  rows : Rises (map (λ r. r.0) l.rows);
  named : Rises (map (λ d. d.endpoint) l.named);
  asked : l.requests.items ++ side_by_side (λ d. d.endpoint) (λ r. r.0) row_request l.named l.rows ≡ side_by_side (λ d. d.endpoint) (λ r. r.0) row_request l.digests (table.entries l.table.entries);
  sent : l.deltas.items ++ side_by_side (λ r. r.0) (λ d. d.endpoint) row_delta l.rows l.named ≡ side_by_side (λ r. r.0) (λ d. d.endpoint) row_delta (table.entries l.table.entries) l.digests;
}

abbrev pub decreases-loop-rows : goal.decreases-loop-rows
decreases-loop-rows l = length l.rows + length l.named

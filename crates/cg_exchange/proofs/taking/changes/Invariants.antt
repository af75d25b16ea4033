use Rattle.std.proofs.Common.{◌≡◌, ◌++◌, drop, map}
use Rattle.std.specs.FinMap as table
use Rattle.cg_types.specs.Rising.{Rises}
use Rattle.cg_exchange.specs.Changes.{row_by, outcome_by}
use Rattle.cg_exchange.proofs.WalkLemmas.{side_by_side}
use Rattle.cg_exchange.proofs.taking.changes.Given as goal

abbrev pub invariant-loop-sent : goal.invariant-loop-sent
invariant-loop-sent l = record {
  rise : Rises (map (λ r. r.0) l.held);
  rows : l.rows.items ++ side_by_side (λ d. d.endpoint) (λ r. r.0) (row_by l.table) (drop l.sent-index l.deltas) l.held ≡ side_by_side (λ d. d.endpoint) (λ r. r.0) (row_by l.table) l.deltas (table.entries l.table.entries);
  outcomes : l.outcomes.items ++ side_by_side (λ d. d.endpoint) (λ r. r.0) (outcome_by l.table) (drop l.sent-index l.deltas) l.held ≡ side_by_side (λ d. d.endpoint) (λ r. r.0) (outcome_by l.table) l.deltas (table.entries l.table.entries);
}

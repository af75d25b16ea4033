use Rattle.std.proofs.Common.{◌≡◌, ◌+◌, take}
use Rattle.std.specs.Prelude.{count_by}
use Rattle.std.specs.FinMap as table
use Rattle.cg_table.specs.Taking.{needs_room}
use Rattle.cg_exchange.proofs.taking.held_after.Given as goal

abbrev pub invariant-loop-sent : goal.invariant-loop-sent
invariant-loop-sent l = l.count ≡ table.len l.table.entries + count_by (λ d. needs_room l.table.entries d.endpoint d.delta) (take l.sent-index l.deltas)

use Rattle.std.proofs.Common.{◌≡◌, ◌≤◌, length, take, nat_lt}
use Rattle.std.specs.List.{filter}
use Rattle.cg_entry.proofs.borrowed.BorrowedStates.newer_count.Given as goal

abbrev pub invariant-loop-number : goal.invariant-loop-number
invariant-loop-number l = (l.count ≡ length (filter (λ s. nat_lt l.above s.1.version) (take l.number l.self))) × (l.count ≤ l.number)

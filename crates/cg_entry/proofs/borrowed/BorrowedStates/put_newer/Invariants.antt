use Rattle.std.proofs.Common.{◌≡◌, ◌++◌, take, nat_lt}
use Rattle.std.specs.List.{filter, flat_map}
use Rattle.cg_entry.specs.Section.{state}
use Rattle.cg_entry.proofs.borrowed.BorrowedStates.put_newer.Given as goal

abbrev pub invariant-loop-number : goal.invariant-loop-number
invariant-loop-number l = l.out.items ≡ l.fn.out.items ++ flat_map state (filter (λ s. nat_lt l.above s.1.version) (take l.number l.self))

use Rattle.std.proofs.Common.{◌≡◌, ◌++◌, take, string_bytes}
use Rattle.std.specs.List.{flat_map}
use Rattle.cg_status.specs.Metrics.{broken_line}
use Rattle.cg_status.proofs.metrics.add_broken_each.Given as goal

abbrev pub invariant-loop-fault : goal.invariant-loop-fault
invariant-loop-fault l = string_bytes l.text ≡ string_bytes l.initial.text ++ flat_map broken_line (take l.fault-index l.broken)

use Rattle.std.proofs.Common.{◌≡◌, ◌++◌, take}
use Rattle.std.specs.List.{flat_map}
use Rattle.cg_status.specs.Flat.{broken_tokens}
use Rattle.cg_status.proofs.counters.add_broken.Given as goal

abbrev pub invariant-loop-fault : goal.invariant-loop-fault
invariant-loop-fault l =
    (l.writer.tokens ≡ l.initial.writer.tokens ++ flat_map broken_tokens (take l.fault-index l.broken))
    × (l.writer.before ≡ l.initial.writer.before)

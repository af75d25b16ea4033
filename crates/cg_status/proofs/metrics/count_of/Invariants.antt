use Rattle.std.proofs.Common.{◌≡◌, take}
use Rattle.cg_status.specs.Metrics.{count_of}
use Rattle.cg_status.proofs.metrics.count_of.Given as goal

abbrev pub invariant-loop-one : goal.invariant-loop-one
invariant-loop-one l = l.count ≡ count_of l.name (take l.one-index l.seen)

use Rattle.std.proofs.Common.{◌≡◌, drop}
use Rattle.cg_status.specs.Status.{seen_of}
use Rattle.cg_status.proofs.status.Status.of.Given as goal

abbrev pub invariant-loop-seen : goal.invariant-loop-seen
invariant-loop-seen l = seen_of l.self.seen.items l.endpoint ≡ seen_of (drop l.seen-index l.self.seen.items) l.endpoint

use Rattle.std.proofs.Common.{◌≡◌, length}
use Rattle.std.specs.List.{AllByRecursion}
use Rattle.cg_audit.specs.Items.{IsLife}
use Rattle.cg_audit.specs.LivesCode.{are_of}
use Rattle.cg_audit.proofs.lives.are_of.Given as goal

abbrev pub invariant-loop-first : goal.invariant-loop-first
invariant-loop-first l =
    (are_of l.endpoint l.histories ≡ are_of l.endpoint l.rest)
    × (AllByRecursion (IsLife l.endpoint) l.rest → AllByRecursion (IsLife l.endpoint) l.histories)

abbrev pub decreases-loop-first : goal.decreases-loop-first
decreases-loop-first l = length l.rest

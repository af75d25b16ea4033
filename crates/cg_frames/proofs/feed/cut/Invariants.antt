use Rattle.std.proofs.Common.{◌-◌, length}
use Rattle.cg_frames.proofs.CuttingLemmas.{Progress}
use Rattle.cg_frames.proofs.feed.cut.Given as goal

abbrev pub invariant-loop-message : goal.invariant-loop-message
invariant-loop-message l = Progress l.layouts l.bytes l.messages.items l.taken

abbrev pub decreases-loop-message : goal.decreases-loop-message
decreases-loop-message l = length l.bytes - l.taken

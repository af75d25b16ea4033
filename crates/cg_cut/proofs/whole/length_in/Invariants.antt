use Rattle.std.proofs.Common.{◌≡◌, length}
use Rattle.cg_cut.specs.Whole.{whole_length}
use Rattle.cg_cut.proofs.whole.length_in.Given as goal

abbrev pub invariant-loop-last : goal.invariant-loop-last
invariant-loop-last l = whole_length l.rest ≡ whole_length l.initial.rest

abbrev pub decreases-loop-last : goal.decreases-loop-last
decreases-loop-last l = length l.rest

use Rattle.std.proofs.Common.{◌≡◌, ◌≤◌, ◌*◌, ◌^◌, sum, take}
use Rattle.cg_silence.proofs.shared.sum_of.Given as goal

abbrev pub invariant-loop-gap : goal.invariant-loop-gap
invariant-loop-gap l = (l.total ≡ sum (take l.gap-index l.gaps)) × (l.total ≤ l.gap-index * 2 ^ 32)

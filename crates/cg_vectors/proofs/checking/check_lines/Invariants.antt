use Rattle.std.proofs.Common.{◌≡◌, ◌≤◌, count_by, take, not}
use Rattle.cg_vectors.specs.Vector.{is_remark}
use Rattle.cg_vectors.proofs.checking.check_lines.Given as goal

abbrev pub invariant-loop-line : goal.invariant-loop-line
invariant-loop-line g l = (l.tally.all ≡ count_by (λ line. not (is_remark line.now)) (take l.line-index l.lines))
    × (l.tally.held ≤ l.tally.all) × (l.tally.all ≤ l.line-index)

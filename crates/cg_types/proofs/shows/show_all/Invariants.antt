use Rattle.std.proofs.Common.{take}
use Rattle.std.specs.List.{AllByRecursion}
use Rattle.cg_types.proofs.shows.show_all.Given as goal

-- the members so far
abbrev pub invariant-loop-member : goal.invariant-loop-member
invariant-loop-member g l = AllByRecursion g.T.Shows.Shown (take l.member-index l.members)

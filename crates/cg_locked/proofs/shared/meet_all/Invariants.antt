use Rattle.std.proofs.Common.{◌≡◌, take}
use Rattle.std.specs.List.{All}
use mathlib.Core.List.{IsPrefix}
use Rattle.cg_locked.proofs.shared.meet_all.Given as goal

abbrev pub invariant-loop-seat : goal.invariant-loop-seat
invariant-loop-seat g l = (l.log ≡ l.initial.log) × All (λ s. IsPrefix s.seen l.log) (take l.seat-index l.seats)

use Rattle.std.proofs.Common.{◌≡◌, take, true, ℕ}
use Rattle.std.specs.Prelude.{is_some}
use Rattle.std.specs.List.{AllByRecursion}
use Rattle.std.specs.FinMap as map
use Rattle.cg_entry.specs.Versioned.{Versioned}
use Rattle.cg_entry.proofs.standing.Standing.is_covered.Given as goal

abbrev pub invariant-loop-place : goal.invariant-loop-place
invariant-loop-place l = AllByRecursion (λ (e : ℕ × Versioned). is_some (map.get l.newer e.0) ≡ true) (take l.place (map.entries l.self))

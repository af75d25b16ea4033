use Rattle.std.proofs.Common.{◌≡◌, take, true, ℕ}
use Rattle.std.specs.List.{list_all}
use Rattle.std.specs.FinMap as map
use Rattle.cg_entry.specs.Versioned.{Versioned}
use Rattle.cg_table.specs.Puts.{is_held_from}
use Rattle.cg_views.proofs.following.keeps_keys.Given as goal

abbrev pub invariant-loop-place : goal.invariant-loop-place
invariant-loop-place l = list_all (λ (e : ℕ × Versioned). is_held_from e.1.version (map.get l.after.states e.0)) (take l.place (map.entries l.before.states)) ≡ true

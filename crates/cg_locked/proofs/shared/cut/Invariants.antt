use Rattle.std.proofs.Common.{◌≡◌, ◌+◌, ◌≤◌, map, vec_len, vec_capacity}
use Rattle.std.specs.List.{sum_by}
use Rattle.cg_locked.specs.Shared.{callers_up_to}
use Rattle.cg_locked.proofs.shared.cut.Given as goal

abbrev pub invariant-loop-i : goal.invariant-loop-i
invariant-loop-i g l =
    (l.rest.parts + l.i ≡ l.seats) × (l.rest.amount ≡ 0) × (vec_len l.made ≡ l.i) × (l.seats ≤ vec_capacity l.made)
    × (sum_by (λ s. s.parts) l.made.items ≡ l.i) × (sum_by (λ s. s.amount) l.made.items ≡ 0) × (map (λ s. s.caller) l.made.items ≡ callers_up_to l.i)

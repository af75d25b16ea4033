use Rattle.std.proofs.Common.{◌≡◌, ◌≤◌, length, vec_len, vec_capacity}
use Rattle.std.specs.List.{sum_by}
use Rattle.cg_locked_tests.proofs.rows.done_on_all.Given as goal

abbrev pub invariant-loop-seat : goal.invariant-loop-seat
invariant-loop-seat g l =
    (sum_by (λ s. s.parts) l.back.items ≡ sum_by (λ s. s.parts) l.yielded) × (vec_len l.back ≡ length l.yielded)
    × (vec_capacity l.initial.back ≤ vec_capacity l.back)

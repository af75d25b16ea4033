use Rattle.std.proofs.Common.{◌≡◌, ◌≤◌, ◌++◌, List, Result, drop, length, vec_len, vec_capacity}
use Rattle.cg_types.specs.declared.fault.Fault.{Fault}
use Rattle.cg_world.specs.declared.world.Shown.{Shown}
use Rattle.cg_world.specs.Acting.{Ran}
use Rattle.cg_world.specs.World.{WorldValue, new_world}
use Rattle.cg_world.proofs.world.World.run_in.Given as goal

-- The answers of all actions are the answers so far, for which there is room, and then those of the rest.
abbrev pub invariant-loop-action : goal.invariant-loop-action
invariant-loop-action l =
    ((answers : List (Result Shown Fault)) (d : WorldValue) → Ran l.world (drop l.action-index l.actions) answers d
    → Ran (new_world l.fn.settings) l.actions (l.answers.items ++ answers) d)
    × (vec_len l.answers ≡ l.action-index)
    × (length l.actions ≤ vec_capacity l.answers)

use Rattle.std.proofs.Common.{◌≡◌, ◌++◌, take}
use Rattle.std.specs.List.{flat_map}
use Rattle.std.specs.FinMap as map
use Rattle.cg_status.specs.Flat.{pair_tokens}
use Rattle.cg_status.proofs.shown.add_members.Given as goal

abbrev pub invariant-loop-place : goal.invariant-loop-place
invariant-loop-place l =
    (l.writer.tokens ≡ l.initial.writer.tokens ++ flat_map pair_tokens (take l.place (map.entries l.entry.states)))
    × (l.writer.before ≡ l.initial.writer.before)

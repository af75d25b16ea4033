use Rattle.std.proofs.Common.{◌≡◌, ◌++◌, take, string_bytes}
use Rattle.std.specs.List.{flat_map}
use Rattle.cg_text.specs.Printed.{outcome_line}
use Rattle.cg_text.proofs.done.add_outcomes.Given as goal

abbrev pub invariant-loop-outcome : goal.invariant-loop-outcome
invariant-loop-outcome l = string_bytes l.text ≡ string_bytes l.initial.text ++ flat_map outcome_line (take l.outcome-index l.outcomes)

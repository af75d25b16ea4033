use Rattle.std.proofs.Common.{◌≡◌, ◌++◌, take, string_bytes}
use Rattle.std.specs.List.{flat_map}
use Rattle.cg_text.specs.Printed.{endpoint_line}
use Rattle.cg_text.proofs.held.add_replicas.Given as goal

abbrev pub invariant-loop-endpoint : goal.invariant-loop-endpoint
invariant-loop-endpoint l = string_bytes l.text ≡ string_bytes l.initial.text ++ flat_map endpoint_line (take l.endpoint-index l.endpoint-items)

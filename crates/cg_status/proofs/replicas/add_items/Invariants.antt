use Rattle.std.proofs.Common.{◌≡◌, ◌++◌, take}
use Rattle.std.specs.List.{flat_map}
use Rattle.cg_status.specs.Flat.{endpoint_tokens}
use Rattle.cg_status.proofs.replicas.add_items.Given as goal

abbrev pub invariant-loop-endpoint : goal.invariant-loop-endpoint
invariant-loop-endpoint l =
    (l.writer.tokens ≡ l.initial.writer.tokens ++ flat_map endpoint_tokens (take l.endpoint-index l.endpoints))
    × (l.writer.before ≡ l.initial.writer.before)

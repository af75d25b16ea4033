use Rattle.std.proofs.Common.{◌≡◌, ◌++◌, take, string_bytes}
use Rattle.std.specs.List.{flat_map}
use Rattle.cg_text.specs.Printed.{position_line}
use Rattle.cg_text.proofs.held.add_ring.Given as goal

abbrev pub invariant-loop-token : goal.invariant-loop-token
invariant-loop-token l = string_bytes l.text ≡ string_bytes l.initial.text ++ flat_map position_line (take l.token-index l.token-items)

use Rattle.std.proofs.Common.{◌≡◌, ◌++◌, take, string_bytes}
use Rattle.std.specs.List.{flat_map}
use Rattle.cg_tool.specs.Report.{stuck_line_of}
use Rattle.cg_tool.proofs.reporting.add_heads.Given as goal

abbrev pub invariant-loop-head : goal.invariant-loop-head
invariant-loop-head l = string_bytes l.text ≡ string_bytes l.initial.text ++ flat_map stuck_line_of (take l.head-index l.heads)

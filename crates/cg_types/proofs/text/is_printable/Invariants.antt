use Rattle.std.proofs.Common.{◌≡◌, take}
use Rattle.cg_types.specs.Text.{printable}
use Rattle.cg_types.proofs.text.is_printable.Given as goal

abbrev pub invariant-loop-b : goal.invariant-loop-b
invariant-loop-b l = l.printable ≡ printable (take l.b-index l.bytes)

use Rattle.std.proofs.Common.{◌≡◌, ◌++◌, take}
use Rattle.std.specs.List.{flat_map}
use Rattle.cg_page.specs.Escaped.{escaped_byte}
use Rattle.cg_page.proofs.parts.add_escaped.Given as goal

abbrev pub invariant-loop-byte : goal.invariant-loop-byte
invariant-loop-byte l = l.page.items ≡ l.initial.page.items ++ flat_map escaped_byte (take l.byte-index l.byte-items)

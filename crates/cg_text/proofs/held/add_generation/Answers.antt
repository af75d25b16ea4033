use Rattle.cg_text.specs.Printed.{generation_line}
use Rattle.cg_text.proofs.held.add_generation.Goals as goal

pub returns : goal.returns
unfolding generation_line
returns c = rw c.get-generation.ensures.value at c.writeln.ensures.bytes

use Rattle.cg_table.specs.Puts.{puts_code}
use Rattle.cg_types.specs.Equality.{same_by-is}
use Rattle.cg_table.proofs.puts.PutsPartialEq.TheImpl.Goals as goal

pub eq-tells : goal.eq-tells
eq-tells c = same_by-is puts_code c.args.self.now c.args.other.now c.result c.ensures

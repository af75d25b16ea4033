use Rattle.cg_messages.specs.Values.{syn_code}
use Rattle.cg_types.specs.Equality.{same_by-is}
use Rattle.cg_messages.proofs.opening.SynPartialEq.TheImpl.Goals as goal

pub eq-tells : goal.eq-tells
eq-tells c = same_by-is syn_code c.args.self.now c.args.other.now c.result c.ensures

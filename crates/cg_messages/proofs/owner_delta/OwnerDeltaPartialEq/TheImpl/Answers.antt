use Rattle.cg_messages.specs.Values.{owner_delta_code}
use Rattle.cg_types.specs.Equality.{same_by-is}
use Rattle.cg_messages.proofs.owner_delta.OwnerDeltaPartialEq.TheImpl.Goals as goal

pub eq-tells : goal.eq-tells
eq-tells c = same_by-is owner_delta_code c.args.self.now c.args.other.now c.result c.ensures

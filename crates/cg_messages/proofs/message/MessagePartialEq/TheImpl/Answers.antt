use Rattle.cg_messages.specs.MessageCode.{message_code}
use Rattle.cg_types.specs.Equality.{same_by-is}
use Rattle.cg_messages.proofs.message.MessagePartialEq.TheImpl.Goals as goal

pub eq-tells : goal.eq-tells
eq-tells c = same_by-is message_code c.args.self.now c.args.other.now c.result c.ensures

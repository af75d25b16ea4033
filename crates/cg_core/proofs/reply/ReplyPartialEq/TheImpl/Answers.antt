use Rattle.cg_types.specs.Equality.{same_by-is}
use Rattle.cg_core.specs.EventCodes.{reply_code}
use Rattle.cg_core.proofs.reply.ReplyPartialEq.TheImpl.Goals as goal

pub eq-tells : goal.eq-tells
eq-tells c = same_by-is reply_code c.args.self.now c.args.other.now c.result c.ensures

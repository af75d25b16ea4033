use Rattle.std.proofs.Common.{refl}
use Rattle.cg_engine.proofs.ReplyLemmas.{reply_kind, refusal_is_known}
use Rattle.cg_engine.proofs.node_gate.NodeGateGate.event.Goals as goal

pub returns-in-Ok-clause-ok : goal.returns-in-Ok-clause-ok
returns-in-Ok-clause-ok c =
    (c.in-Ok.reply, refl, c.in-Ok.ensures.due, reply_kind c.args.self.now.node c.args.event c.step.new.self c.in-Ok.reply c.in-Ok.ensures.due)

pub returns-clause-known : goal.returns-clause-known
returns-clause-known c = refusal_is_known c.args.self.now.node c.args.event c.in-Err.fault c.in-Err.ensures.due

use Rattle.std.proofs.Common.{[], ◌∷◌}
use Rattle.cg_messages.specs.declared.message.Message.TheVariants as messages
use Rattle.cg_frames.specs.declared.layout.TheConstants.{WRITTEN}
use Rattle.cg_frames.specs.Spelling.{frame}
use Rattle.cg_messages.specs.declared.kind.Kind.TheVariants as message_kind
use Rattle.cg_engine.proofs.ExchangeLemmas.{opening_broken, after_opening}
use Rattle.cg_engine.proofs.exchange.initiate.Goals as goal

pub returns-in-Err : goal.returns-in-Err
returns-in-Err g c =
    opening_broken g.G.Gate.does g.G.Gate.refuses g.G.Gate.stays g.G.Gate.last (message_kind.Ack ∷ []) c.args.now (frame WRITTEN (messages.Syn c.args.syn.now))
    (g.R.Read.remaining c.args.reader.now.link) (g.W.Write.contents c.args.writer.now.link) c.args.reader.now c.args.writer.now c.args.gate.now
    (g.W.Write.contents c.send.new.writer.link) c.send.new.writer c.in-Err.fault c.in-Err.ensures

pub returns : goal.returns
returns g c =
    after_opening g.G.Gate.does g.G.Gate.refuses g.G.Gate.stays g.G.Gate.last (message_kind.Ack ∷ []) c.args.now (frame WRITTEN (messages.Syn c.args.syn.now))
    (g.R.Read.remaining c.args.reader.now.link) (g.W.Write.contents c.args.writer.now.link) c.args.reader.now c.args.writer.now c.args.gate.now
    (g.W.Write.contents c.send.new.writer.link) c.send.new.writer c.in_default.ensures
    (g.R.Read.remaining c.take_turns.new.reader.link) (g.W.Write.contents c.take_turns.new.writer.link) c.take_turns.new.reader c.take_turns.new.writer c.take_turns.new.gate
    c.take_turns.result c.take_turns.ensures

use Rattle.cg_workers.specs.Workers.{Reached}
use Rattle.cg_workers.proofs.EachLemmas.{each_next}
use Rattle.cg_workers.proofs.WorkLemmas.{reached}
use Rattle.cg_workers.proofs.sending.send_round.Goals as goal

pub loop-peer-preserved : goal.loop-peer-preserved
loop-peer-preserved g c =
    each_next (Reached g.G.Gate.does g.G.Gate.refuses g.G.Gate.stays g.D.Reader.Read.remaining g.D.Writer.Write.contents g.D.Dial.dials
    (g.C.Milliseconds.shows c.args.clock.now) c.args.round.now.syn) c.endpoints-peer-items.result.now c.loop-peer.peer-index c.peer-item.result
    (c.args.dialer.now, c.args.gate.now) (c.loop-peer.dialer, c.loop-peer.gate) (c.reach-broken.new.dialer, c.reach-broken.new.gate) c.loop-peer-test.true c.peer-item.is
    c.loop-peer.invariant
    (reached g.G.Gate.does g.G.Gate.refuses g.G.Gate.stays g.D.Reader.Read.remaining g.D.Writer.Write.contents g.D.Dial.dials (g.C.Milliseconds.shows c.args.clock.now)
    c.reach-broken.result c.args.round.now.syn c.peer-item.result (c.loop-peer.dialer, c.loop-peer.gate) (c.reach-broken.new.dialer, c.reach-broken.new.gate) c.reach-broken.ensures)

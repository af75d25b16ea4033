use Rattle.cg_workers.proofs.EachLemmas.{each_next}
use Rattle.cg_workers.proofs.WorkLemmas.{reached}
use Rattle.cg_ahead_seats.specs.Gates.{Enters, Refuses, Stays}
use Rattle.cg_agent.specs.Work.{ThenForgets, ReachedBy}
use Rattle.cg_agent.proofs.rounds.send.Goals as goal

pub loop-peer-preserved : goal.loop-peer-preserved
loop-peer-preserved g c =
    each_next (ThenForgets (ReachedBy g.N.Name.start g.N.Naming.opening.own g.D.Reader.Read.remaining g.D.Writer.Write.contents g.D.Dial.dials
    (g.C.Milliseconds.shows c.args.site.now.clock) c.args.syn.now)) c.endpoints-peer-items.result.now c.loop-peer.peer-index c.peer-item.result
    (c.args.dialer.now, c.args.gate.now) (c.loop-peer.dialer, c.loop-peer.gate) (c.reach-broken.new.dialer, c.forget.new.self) c.loop-peer-test.true c.peer-item.is
    c.loop-peer.invariant (
      c.reach-broken.new.gate,
      reached (Enters g.N.Name.start g.N.Naming.opening.own) (Refuses g.N.Name.start) Stays g.D.Reader.Read.remaining g.D.Writer.Write.contents g.D.Dial.dials (g.C.Milliseconds.shows c.args.site.now.clock)
          c.reach-broken.result c.args.syn.now c.peer-item.result (c.loop-peer.dialer, c.loop-peer.gate) (c.reach-broken.new.dialer, c.reach-broken.new.gate) c.reach-broken.ensures,
      c.forget.ensures,
    )

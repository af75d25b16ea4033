use Rattle.cg_agent.proofs.MoreWork.{none_came, one_came, ended_here, none_more}
use Rattle.cg_agent.proofs.receivers.answer_at.Goals as goal
use Rattle.cg_agent.proofs.receivers.answer_at.Goals.{in-None, in-Some+then-is_ending, in-Some+else-is_ending+in-None-answer_next}

pub loop-init : goal.loop-init
loop-init g c =
    none_came g.N.Name.start g.N.Naming.opening.own g.L.Reader.Read.remaining g.L.Writer.Write.contents g.L.Listen.accepts
    (g.C.Milliseconds.shows c.args.site.now.clock) (c.args.listener.now, c.args.gate.now)

pub loop-preserved : goal.loop-preserved
loop-preserved g c =
    one_came g.N.Name.start g.N.Naming.opening.own g.L.Reader.Read.remaining g.L.Writer.Write.contents g.L.Listen.accepts
    (g.C.Milliseconds.shows c.args.site.now.clock) c.in-Some-answer_next.broken (c.args.listener.now, c.args.gate.now) (c.loop.listener, c.loop.gate)
    c.answer_next.new.listener c.answer_next.new.gate c.forget.new.self c.loop.invariant c.in-Some-answer_next.ensures c.forget.ensures

pub returns : goal.returns
returns g c =
    let ended = ended_here g.N.Name.start g.N.Naming.opening.own g.L.Reader.Read.remaining g.L.Writer.Write.contents g.L.Listen.accepts
    (g.C.Milliseconds.shows c.args.site.now.clock) (c.args.listener.now, c.args.gate.now) (c.loop.listener, c.loop.gate) c.loop.invariant in
    elim c.match-next.branch [
      | in-None w ↦ rw (w.gate-is, w.listener-is) ended
      | in-Some+then-is_ending w ↦ rw (w.gate-is, w.listener-is) ended
      | in-Some+else-is_ending+in-None-answer_next w ↦
          rw (w.gate-is, w.listener-is)
          (none_more g.N.Name.start g.N.Naming.opening.own g.L.Reader.Read.remaining g.L.Writer.Write.contents g.L.Listen.accepts
          (g.C.Milliseconds.shows c.args.site.now.clock) (c.args.listener.now, c.args.gate.now) (c.loop.listener, c.loop.gate)
          (w.answer_next.new.listener, w.answer_next.new.gate) c.loop.invariant w.in-None-answer_next.ensures)
    ]

use Rattle.std.proofs.Common.{arith}
use Rattle.cg_locked.specs.Seat.{SeatState}
use Rattle.cg_agent.specs.Worked.{SeatWorked}
use Rattle.cg_agent.proofs.AllWorked.{one_more, by_post, parts_more}
use Rattle.cg_agent.proofs.work.+work_on.Goals as goal

pub returns-clause-parts : goal.returns-clause-parts
returns-clause-parts g t c =
    let of = c.of-promise.ensures in
    let kept = rw (c.start-worker.ensures.promise, of.0, of.1, of.2) at c.ended.ensures in
    omega (
      arith,
      parts_more c.work_on-back.result.items c.push_reserved.new.self.items c.ended.result c.push_reserved.ensures.items,
      c.work_on-back.ensures.parts,
      c.take_last-seat.ensures.parts,
      kept.0,
    )

pub returns-clause-worked : goal.returns-clause-worked
returns-clause-worked g t c =
    let worked : SeatState → Type 0 = SeatWorked g.N.Name.start g.N.Naming.opening.own g.L.Reader.Read.remaining g.L.Writer.Write.contents g.L.Listen.accepts g.D.Reader.Read.remaining g.D.Writer.Write.contents g.D.Dial.dials (g.C.Milliseconds.shows c.args.site.now.clock) (g.G.Rng.stream c.args.beside.rounds.generator) c.args.beside.rounds.dialer in
    let of = c.of-promise.ensures in
    let kept = rw (c.start-worker.ensures.promise, of.0, of.1, of.2) at c.ended.ensures in
    one_more worked c.work_on-back.result.items c.push_reserved.new.self.items c.ended.result c.push_reserved.ensures.items c.work_on-back.ensures.worked
    (by_post g.N.Name.start g.N.Naming.opening.own g.L.Reader.Read.remaining g.L.Writer.Write.contents g.L.Listen.accepts g.D.Reader.Read.remaining g.D.Writer.Write.contents g.D.Dial.dials
    (g.C.Milliseconds.shows c.args.site.now.clock) (g.G.Rng.stream c.args.beside.rounds.generator) c.args.beside.rounds.dialer
    c.in-Some.post c.take_last-seat.result c.ended.result (omega (arith, c.take_last-seat.ensures.amounts, c.requires.amounts.0)) kept.1)

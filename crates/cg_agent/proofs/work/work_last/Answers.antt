use Rattle.std.proofs.Common.{◌≡◌, inl, inr, arith}
use Rattle.cg_locked.specs.Seat.{SeatState}
use Rattle.cg_agent.specs.Seats.{parts_read}
use Rattle.cg_agent.specs.Worked.{SeatWorked}
use Rattle.cg_agent.proofs.AllWorked.{one_more, by_reading, parts_more}
use Rattle.cg_agent.proofs.work.work_last.Goals as goal

pub returns-in-Some-clause-parts : goal.returns-in-Some-clause-parts
returns-in-Some-clause-parts g c =
    let one = parts_more c.args.back.items c.push_reserved.new.self.items c.work_beside-ticker.result.0 c.push_reserved.ensures.items in
    let two = parts_more c.push_reserved.new.self.items c.push_reserved-in-Some.new.self.items c.in-Some.seat c.push_reserved-in-Some.ensures.items in
    let read : c.in-Some.seat.parts ≡ parts_read c.args.beside.reading = rw c.in-Some.is at c.work_beside-ticker.ensures.reader in
    omega (arith, one, two, c.work_beside-ticker.ensures.ticker, read)

pub returns-in-None-clause-parts : goal.returns-in-None-clause-parts
returns-in-None-clause-parts g c =
    let one = parts_more c.args.back.items c.push_reserved.new.self.items c.work_beside-ticker.result.0 c.push_reserved.ensures.items in
    let read : 0 ≡ parts_read c.args.beside.reading = rw c.in-None.is at c.work_beside-ticker.ensures.reader in
    omega (arith, one, c.work_beside-ticker.ensures.ticker, read)

pub returns-in-Some-clause-worked : goal.returns-in-Some-clause-worked
returns-in-Some-clause-worked g c =
    let worked : SeatState → Type 0 = SeatWorked g.N.Name.start g.N.Naming.opening.own g.L.Reader.Read.remaining g.L.Writer.Write.contents g.L.Listen.accepts g.D.Reader.Read.remaining g.D.Writer.Write.contents g.D.Dial.dials (g.C.Milliseconds.shows c.args.site.now.clock) (g.G.Rng.stream c.args.beside.rounds.generator) c.args.beside.rounds.dialer in
    let with_ticker = one_more worked c.args.back.items c.push_reserved.new.self.items c.work_beside-ticker.result.0 c.push_reserved.ensures.items c.requires.worked
    (record { first = c.args.beside.ticker; unused = c.requires.amounts.0; work = inr (inl c.work_beside-ticker.ensures.turned) }) in
    one_more worked c.push_reserved.new.self.items c.push_reserved-in-Some.new.self.items c.in-Some.seat c.push_reserved-in-Some.ensures.items with_ticker
    (by_reading g.N.Name.start g.N.Naming.opening.own g.L.Reader.Read.remaining g.L.Writer.Write.contents g.L.Listen.accepts g.D.Reader.Read.remaining g.D.Writer.Write.contents g.D.Dial.dials
    (g.C.Milliseconds.shows c.args.site.now.clock) (g.G.Rng.stream c.args.beside.rounds.generator) c.args.beside.rounds.dialer
    c.args.beside.reading c.in-Some.seat c.requires.amounts.1 (rw c.in-Some.is at c.work_beside-ticker.ensures.read))

pub returns-in-None-clause-worked : goal.returns-in-None-clause-worked
returns-in-None-clause-worked g c =
    one_more (SeatWorked g.N.Name.start g.N.Naming.opening.own g.L.Reader.Read.remaining g.L.Writer.Write.contents g.L.Listen.accepts g.D.Reader.Read.remaining g.D.Writer.Write.contents g.D.Dial.dials (g.C.Milliseconds.shows c.args.site.now.clock) (g.G.Rng.stream c.args.beside.rounds.generator) c.args.beside.rounds.dialer)
    c.args.back.items c.push_reserved.new.self.items c.work_beside-ticker.result.0 c.push_reserved.ensures.items c.requires.worked
    (record { first = c.args.beside.ticker; unused = c.requires.amounts.0; work = inr (inl c.work_beside-ticker.ensures.turned) })

use Rattle.std.proofs.Common.{sym}
use Rattle.cg_threads.specs.Left.{Work}
use Rattle.cg_threads.specs.Workers.{all_began, work_of}
use Rattle.cg_threads.specs.Worked.{HaveWorked}
use Rattle.cg_threads.proofs.Running.{ran_of_work, did_not_of_work}
use Rattle.cg_threads.proofs.run.run_named.Goals as goal

pub returns-clause-ran : goal.returns-clause-ran
returns-clause-ran g c =
    let left = c.work-work.result in
    let parts = c.args.parts in
    let worked : Work → Type 0 = HaveWorked g.N.Name.start g.L.Reader.Read.remaining g.L.Writer.Write.contents g.L.Listen.accepts g.D.Reader.Read.remaining g.D.Writer.Write.contents g.D.Dial.dials g.O.Operate.works (g.C.Milliseconds.shows parts.clock) parts.listener parts.dialer (g.G.Rng.stream parts.generator) parts.operator c.args.turns in
    rw (sym c.requires.history.2) at (ran_of_work g.N.Name.start (work_of left) (all_began left) worked c.work-work.ensures.worked c.gather.result c.gather.ensures.ran c.gather.ensures.began)

pub returns-clause-not : goal.returns-clause-not
returns-clause-not g c =
    let left = c.work-work.result in
    let parts = c.args.parts in
    let worked : Work → Type 0 = HaveWorked g.N.Name.start g.L.Reader.Read.remaining g.L.Writer.Write.contents g.L.Listen.accepts g.D.Reader.Read.remaining g.D.Writer.Write.contents g.D.Dial.dials g.O.Operate.works (g.C.Milliseconds.shows parts.clock) parts.listener parts.dialer (g.G.Rng.stream parts.generator) parts.operator c.args.turns in
    rw (sym c.requires.history.2) at (did_not_of_work g.N.Name.start (work_of left) (all_began left) worked c.work-work.ensures.worked c.gather.result c.gather.ensures.not c.gather.ensures.tells)

use Rattle.std.proofs.Common.{subst}
use Rattle.std.specs.Prelude.{IfSome}
use Rattle.cg_locked.specs.Entry.{ShowsChange}
use Rattle.cg_locked_tests.proofs.ToldReads.{read_has, starts_on}
use Rattle.cg_locked_tests.proofs.reading.change_and_read.Goals as goal

pub returns-clause-read : goal.returns-clause-read
returns-clause-read g c =
    let shows = subst (λ t. IfSome t (λ t. ShowsChange t g.N.Naming.opening.own c.change_of-event.result c.in_ok-receipt.receipt.reply)) c.in-Some.is c.in_ok-receipt.ensures.shown in
    read_has g.N.Naming.opening c.in-Some.told _ c.args.key c.args.text c.in_ok-receipt.receipt.reply c.in-Done.version c.in_ok-snapshot.snapshot
    (c.change_of-event.ensures c.in-Some.told g.N.Naming.opening.own c.in_ok-receipt.receipt.reply shows) c.in-Done.is
    (starts_on _ _ _ c.in_ok-snapshot.ensures.later c.learn.ensures.told) c.in_ok-snapshot.ensures.order c.in_ok-snapshot.ensures.table

use Rattle.cg_table.specs.Puts.{with_puts}
use Rattle.cg_web.proofs.ShowingLemmas.{shows_status}
use Rattle.cg_web.proofs.reading.read_status.Goals as goal

pub returns-clause-answer : goal.returns-clause-answer
returns-clause-answer g c =
    shows_status (with_puts g.N.Naming.opening c.show_status.new.pass) c.deref.result.now c.show_status.result
    c.show_status.ensures.answer

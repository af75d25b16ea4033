use Rattle.cg_table.specs.Puts.{with_puts}
use Rattle.cg_web.proofs.ShowingLemmas.{shows_page}
use Rattle.cg_web.proofs.reading.read_page.Goals as goal

pub returns-clause-answer : goal.returns-clause-answer
returns-clause-answer g c =
    shows_page (with_puts g.N.Naming.opening c.show_page.new.pass) c.deref.result.now c.show_page.result
    c.show_page.ensures.answer

use Rattle.cg_web.proofs.RequestLemmas.{calls_done}
use Rattle.cg_web.proofs.SeatLemmas.{requests_keep}
use Rattle.cg_web.proofs.SpeakLemmas.{spoken}
use Rattle.cg_web.proofs.connection.answer_connection.Goals as goal

pub returns-clause-requests : goal.returns-clause-requests
returns-clause-requests g c = calls_done g.N.Name.start g.N.Naming.opening _ _ _ _ c.serve.ensures.calls

pub returns-clause-spoken : goal.returns-clause-spoken
returns-clause-spoken g c =
    spoken g.N.Name.start g.N.Naming.opening c.serve.result _ _ _ _ _ _ c.new-connection.result c.serve.new.connection
    c.new-connection.ensures.history c.new-connection.ensures.config c.serve.ensures.config c.serve.ensures.read
    c.serve.ensures.written c.serve.ensures.calls c.serve.ensures.done

pub returns-clause-parts : goal.returns-clause-parts
returns-clause-parts g c =
    requests_keep g.N.Name.start g.N.Naming.opening.own _ _
    (calls_done g.N.Name.start g.N.Naming.opening _ _ _ _ c.serve.ensures.calls)

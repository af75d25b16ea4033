-- The requests of each connection so far were answered.
use Rattle.cg_web.specs.Requests.{DoneRequests}
use Rattle.cg_agent.proofs.browsers.serve_at.Given as goal

abbrev pub invariant-loop : goal.invariant-loop
invariant-loop g l = DoneRequests g.N.Name.start g.N.Naming.opening.own l.initial.web.gate l.web.gate

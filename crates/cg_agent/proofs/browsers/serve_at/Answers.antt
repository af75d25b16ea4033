use Rattle.cg_agent.proofs.MoreWork.{requests_more}
use Rattle.cg_agent.proofs.browsers.serve_at.Goals as goal
use Rattle.cg_agent.proofs.browsers.serve_at.Goals.{in-None, in-Some+then-is_ending, then-is_ending-via-then-is_ending, then-is_ending-via-else-is_ending+then-not-serve_next}

pub loop-preserved : goal.loop-preserved
loop-preserved g c =
    requests_more g.N.Name.start g.N.Naming.opening.own c.args.web.now.gate c.loop.web.gate c.serve_next.new.web.gate c.loop.invariant c.serve_next.ensures

pub returns : goal.returns
returns g c =
    elim c.match-next.branch [
      | in-None w ↦ rw w.web-is c.loop.invariant
      | in-Some+then-is_ending w ↦
          elim w.then-is_ending.branch [
            | then-is_ending-via-then-is_ending v ↦ rw (w.web-is, v.web-is) c.loop.invariant
            | then-is_ending-via-else-is_ending+then-not-serve_next v ↦
                rw (w.web-is, v.web-is)
                (requests_more g.N.Name.start g.N.Naming.opening.own c.args.web.now.gate c.loop.web.gate v.serve_next.new.web.gate c.loop.invariant v.serve_next.ensures)
          ]
    ]

use Rattle.cg_agent.proofs.MoreWork.{lines_more}
use Rattle.cg_agent.proofs.lines.do_lines_at.Goals as goal
use Rattle.cg_agent.proofs.lines.do_lines_at.Goals.{in-None, in-Some+in_default, in-Some+in-Some-next_line+then-is_ending, then-is_ending-via-then-is_ending, then-is_ending-via-else-is_ending+then-not-answer}

pub loop-preserved : goal.loop-preserved
loop-preserved g c = lines_more g.N.Name.start g.N.Naming.opening.own c.deref.result.now c.args.gate.now c.loop.gate c.answer.new.gate c.loop.invariant c.answer.ensures

pub returns : goal.returns
returns g c =
    elim c.match-next.branch [
      | in-None w ↦ rw w.gate-is c.loop.invariant
      | in-Some+in_default w ↦ rw w.gate-is c.loop.invariant
      | in-Some+in-Some-next_line+then-is_ending w ↦
          elim w.then-is_ending.branch [
            | then-is_ending-via-then-is_ending v ↦ rw (w.gate-is, v.gate-is) c.loop.invariant
            | then-is_ending-via-else-is_ending+then-not-answer v ↦
                rw (w.gate-is, v.gate-is)
                (lines_more g.N.Name.start g.N.Naming.opening.own v.deref.result.now c.args.gate.now c.loop.gate v.answer.new.gate c.loop.invariant v.answer.ensures)
          ]
    ]

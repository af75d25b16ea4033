use Rattle.std.proofs.Common.{inr, refl}
use Rattle.cg_agent.proofs.LifeLemmas.{lived}
use Rattle.cg_agent.proofs.living.agent.Goals as goal
use Rattle.cg_agent.proofs.living.agent.Goals.{in-Ok+in-None-1, in-Ok+in-Some-1, in-Err}

pub returns : goal.returns
returns g c =
    elim c.match-live.branch [
      | in-Ok+in-None-1 w ↦ rw c.ended.ensures (lived g.R.Disk.did g.F.Read.remaining g.F.Write.contents c.args.file.now c.match-live.fault w.in-Ok.ran.ended.history w.in-Ok.ensures)
      | in-Ok+in-Some-1 w ↦ rw c.ended.ensures (lived g.R.Disk.did g.F.Read.remaining g.F.Write.contents c.args.file.now c.match-live.fault w.in-Ok.ran.ended.history w.in-Ok.ensures)
      | in-Err w ↦ rw (c.ended.ensures, w.fault-is) (inr (refl, inr (w.in-Err.fault, w.in-Err.ensures)))
    ]

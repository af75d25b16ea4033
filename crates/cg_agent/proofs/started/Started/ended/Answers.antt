use Rattle.std.proofs.Common.{subst}
use Rattle.cg_agent.proofs.started.Started.ended.Goals as goal

pub returns-in-Ok : goal.returns-in-Ok
returns-in-Ok g c =
    let is = rw c.in-Ok.is at c.requires.promised in
    subst (λ p. g.P.Promise.kept_by p c.join.result) is c.join.ensures

pub work-requires : goal.work-requires
work-requires g c = rw c.in-Err.is at c.requires.runs

pub returns : goal.returns
returns g c =
    let kept = rw c.in-Err.is at c.requires.keeps in
    kept c.work.result c.work.ensures

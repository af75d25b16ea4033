use Rattle.cg_locked.proofs.shared.Shared.finish.Goals as goal

pub returns-clause-seen : goal.returns-clause-seen
returns-clause-seen g c = (_, c.finish.ensures.fold, c.finish.ensures.seen)

use Rattle.cg_exchange.proofs.TakingLemmas.{outcomes_rise}
use Rattle.cg_exchange.proofs.taking.take_ack2.Goals as goal

pub returns-clause-rise : goal.returns-clause-rise
returns-clause-rise c = rw (c.in_ok-take_deltas.ensures.outcomes, c.deltas-2.ensures.value) (outcomes_rise c.args.table.now c.args.ack2.now.deltas c.deltas.ensures.listed.rise)

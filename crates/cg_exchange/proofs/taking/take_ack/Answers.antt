use Rattle.cg_exchange.proofs.AnswerLemmas.{granted_listed}
use Rattle.cg_exchange.proofs.TakingLemmas.{outcomes_rise}
use Rattle.cg_exchange.proofs.taking.take_ack.Goals as goal

pub of_parts-requires : goal.of_parts-requires
of_parts-requires c =
    rw (c.in_ok-deltas.ensures, c.requests.ensures.value) (granted_listed c.in_ok-after.after.entries c.args.ack.now.requests c.requests.ensures.listed)

pub returns-clause-rise : goal.returns-clause-rise
returns-clause-rise c = rw (c.in_ok-after.ensures.outcomes, c.deltas-2.ensures.value) (outcomes_rise c.args.table.now c.args.ack.now.deltas c.deltas.ensures.listed.rise)

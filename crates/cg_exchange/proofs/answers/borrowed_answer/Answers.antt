use Rattle.cg_exchange.proofs.AnswerLemmas.{requests_listed}
use Rattle.cg_exchange.proofs.answers.borrowed_answer.Goals as goal

pub of_parts-requires-clause-requests : goal.of_parts-requires-clause-requests
of_parts-requires-clause-requests c =
    rw (c.in_ok-requests.ensures.requests, c.digests.ensures.value) (requests_listed c.args.table.now.entries c.args.syn.now.digests c.digests.ensures.listed)

use Rattle.cg_exchange.proofs.AnswerLemmas.{digests_listed}
use Rattle.cg_exchange.proofs.answers.syn.Goals as goal

pub of_parts-requires : goal.of_parts-requires
of_parts-requires c = digests_listed c.args.table.now.entries c.in_ok-digests.digests.items c.in_ok-digests.ensures.value c.in_ok-digests.ensures.few

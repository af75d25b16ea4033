use Rattle.std.proofs.Common.{append_assoc}
use Rattle.cg_status.proofs.counters.add_traffic.Goals as goal

pub returns-clause-tokens : goal.returns-clause-tokens
returns-clause-tokens c = simp (c.in_ok-add_number-6.ensures.tokens, c.in_ok-add_number-5.ensures.tokens, c.in_ok-add_number-4.ensures.tokens, c.in_ok-add_number-3.ensures.tokens, c.in_ok-add_number-2.ensures.tokens, c.in_ok-add_number.ensures.tokens, append_assoc) at c.add_number-7.ensures.tokens

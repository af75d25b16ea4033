-- There is a reader for each number so far.
use Rattle.std.proofs.Common.{◌≡◌, vec_len, vec_capacity}
use Rattle.cg_agent.proofs.publishing.published.Given as goal

abbrev pub invariant-loop : goal.invariant-loop
invariant-loop g l = (vec_len l.made ≡ l.counter) × (vec_capacity l.made ≡ l.readers)

use Rattle.cg_types.proofs.RisingLemmas.{from_sorted-none}
use Rattle.cg_testing.proofs.entries.bare_delta.Goals as goal

pub returns-clause-states : goal.returns-clause-states
returns-clause-states c = simp (c.new.ensures.items, from_sorted-none) at c.delta.ensures.states

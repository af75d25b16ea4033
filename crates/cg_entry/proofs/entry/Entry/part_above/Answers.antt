use Rattle.std.proofs.Common.{ap}
use Rattle.cg_entry.specs.Values.{EntryValue}
use Rattle.cg_entry.proofs.DeltaLemmas.{above_is_delta}
use Rattle.cg_entry.proofs.entry.Entry.part_above.Goals as goal

pub of_parts-requires-clause-valid : goal.of_parts-requires-clause-valid
of_parts-requires-clause-valid c =
    rw (c.in_ok-states.ensures.value, ap (λ (x : EntryValue). x.heartbeat) c.self.view_is) (above_is_delta c.args.above c.args.self.now.heartbeat c.args.self.now.states c.requires.newer)

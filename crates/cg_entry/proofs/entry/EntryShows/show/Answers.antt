use Rattle.std.proofs.Common.{subst}
use Rattle.cg_entry.specs.Contents.{IsEntry}
use Rattle.cg_entry.specs.Values.{EntryValue}
use Rattle.cg_entry.proofs.RemovalLemmas.{states_valid}
use Rattle.cg_entry.proofs.entry.EntryShows.show.Goals as goal

pub returns : goal.returns
returns c =
    subst (λ (x : EntryValue). IsEntry x) c.self.view_is (record {
      generation = c.show.ensures;
      heartbeat = c.show-2.ensures;
      states = states_valid c.self.inside.removals c.self.inside.states c.show-4.ensures c.show-3.ensures;
    })

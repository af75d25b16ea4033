use Rattle.std.proofs.Common.{ℕ, sym, subst, nat_lt}
use Rattle.std.specs.List.{AllByRecursion}
use Rattle.cg_entry.specs.Contents.{IsDeltaOfEntry, IsState}
use Rattle.cg_entry.specs.Values.{DeltaValue, EntryValue}
use Rattle.cg_entry.specs.Versioned.{Versioned}
use Rattle.std.specs.FinMap.{entries}
use Rattle.cg_entry.proofs.ContentLemmas.{all_filter}
use Rattle.cg_entry.proofs.DeltaLemmas.{above_is_delta, entries-newer_than}
use Rattle.cg_entry.proofs.borrowed.BorrowedDeltaShows.show.Goals as goal

pub returns : goal.returns
returns c =
    let e : EntryValue = c.self.inside.entry.now in
    let above : ℕ = c.self.inside.above in
    subst (λ (d : DeltaValue). IsDeltaOfEntry d) c.self.view_is (record {
      generation = c.show.ensures.generation;
      above = c.self.invariant.0;
      heartbeat = c.show.ensures.heartbeat;
      states = subst (λ es. AllByRecursion IsState es) (sym (entries-newer_than above e.states)) (all_filter IsState (λ (s : ℕ × Versioned). nat_lt above s.1.version) (entries e.states) c.show.ensures.states);
      carries = above_is_delta above e.heartbeat e.states c.self.invariant.1;
    })

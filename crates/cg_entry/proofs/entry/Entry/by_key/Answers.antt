use Rattle.std.proofs.Common.{◌∙◌, ℕ, List, map, sym, ap}
use Rattle.std.specs.FinMap.{entries}
use Rattle.cg_entry.specs.Values.{EntryValue}
use Rattle.cg_entry.specs.Versioned.{Versioned}
use Rattle.cg_entry.specs.Removals.{removed_under}
use Rattle.cg_entry.proofs.RemovalLemmas.{entries-under}
use Rattle.cg_entry.proofs.entry.Entry.by_key.Goals as goal

pub returns : goal.returns
returns c =
    c.under.ensures ∙ ap (λ (xs : List (ℕ × Versioned)). map (removed_under c.self.inside.removals) xs) c.by_key.ensures
    ∙ sym (entries-under c.self.inside.removals c.self.inside.states) ∙ ap (λ (x : EntryValue). entries x.states) c.self.view_is

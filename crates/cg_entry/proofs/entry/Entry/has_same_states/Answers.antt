use Rattle.std.proofs.Common.{◌∙◌, sym, ap}
use Rattle.std.specs.FinMap.{entries, same_entries_map}
use Rattle.cg_entry.proofs.entry.Entry.has_same_states.Goals as goal

pub returns : goal.returns
returns c = (
  λ yes. same_entries_map c.args.self.now.states c.args.other.now.states (sym c.by_key.ensures ∙ c.are_same.ensures.0 yes ∙ c.by_key-2.ensures),
  λ e. c.are_same.ensures.1 (c.by_key.ensures ∙ ap entries e ∙ sym c.by_key-2.ensures),
)

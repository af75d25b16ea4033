use Rattle.std.proofs.Common.{◌∙◌, sym}
use Rattle.cg_entry.specs.State.{value_at_key}
use Rattle.cg_entry.proofs.HeldLemmas.{shown_new, shown_old}
use Rattle.cg_entry.proofs.standing.Standing.shown.Goals as goal

pub returns-in-Some-clause-value : goal.returns-in-Some-clause-value
returns-in-Some-clause-value c = sym (shown_new c.args.self.now c.args.newer.now c.args.key (value_at_key c.in-Some.state.now) (sym c.in-Some.ensures.value))

pub returns-in-None-clause-value : goal.returns-in-None-clause-value
returns-in-None-clause-value c = c.get-in-None.ensures.value ∙ sym (shown_old c.args.self.now c.args.newer.now c.args.key (sym c.in-None.ensures.value))

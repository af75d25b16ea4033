use Rattle.std.proofs.Common.{◌∙◌, ap}
use Rattle.cg_entry.specs.State.{value_at_key}
use Rattle.std.specs.Option.{option_map}
use Rattle.cg_entry.proofs.StateLemmas.{get-pairs}
use Rattle.cg_entry.proofs.states.States.get.Goals as goal

pub returns-clause-value : goal.returns-clause-value
returns-clause-value c = ap (option_map value_at_key) c.state_of.ensures.value ∙ get-pairs c.args.key c.deref.result.now c.self.inside.items.items c.args.self.now c.deref.ensures.value c.self.invariant.rise c.self.view_is

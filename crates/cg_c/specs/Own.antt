-- Changes of the own entry of a node that is held.
use Rattle.std.specs.Prelude.{ℕ, List, Option, Some, None, Result, Err}
use Rattle.cg_types.specs.declared.fault.Fault.{Fault}
use Rattle.cg_types.specs.declared.fault.Fault.TheVariants.{NoSuchNode}
use Rattle.cg_types.specs.ResultSteps.{then, ◌>>=◌}
use Rattle.cg_core.specs.declared.event.Event.{Event}
use Rattle.cg_core.specs.declared.event.Event.TheVariants as event
use Rattle.cg_core.specs.declared.reply.Reply.{Reply}
use Rattle.cg_core.specs.declared.reply.Reply.TheVariants as reply
use Rattle.cg_core.specs.Values.{NodeValue}
use Rattle.cg_core.specs.Step.{node_step}
use Rattle.cg_text.specs.Words.{state_text_in}
use Rattle.cg_c.specs.Ranges.{key_of}

-- the version in a reply; 0 if it has none
abbrev pub version_in : Reply → ℕ
version_in (reply.Done version) = version
version_in _ = 0

-- the node that is held after a change of its own entry, and the version of that
abbrev pub held_change : Option NodeValue → Event → Result (Option NodeValue × ℕ) Fault
held_change None e = Err NoSuchNode
held_change (Some n) e = then (node_step n e) (λ x. (Some x.0, version_in x.1))

-- the event that gives a key a text
abbrev pub setting_of : ℕ → List ℕ → Result Event Fault
setting_of number text = key_of number >>= (λ key. then (state_text_in text) (λ t. event.Set key t))

-- the event that removes the text of a key
abbrev pub removal_of : ℕ → Result Event Fault
removal_of number = then (key_of number) (λ key. event.Remove key)

abbrev pub held_setting : Option NodeValue → ℕ → List ℕ → Result (Option NodeValue × ℕ) Fault
held_setting held number text = setting_of number text >>= held_change held

abbrev pub held_removal : Option NodeValue → ℕ → Result (Option NodeValue × ℕ) Fault
held_removal held number = removal_of number >>= held_change held

-- The owners whose entries a step changes, and its puts.
use Rattle.std.specs.Prelude.{ℕ, List, [], ◌∷◌, map, Result}
use Rattle.std.specs.List.{filter}
use Rattle.cg_types.specs.declared.fault.Fault.{Fault}
use Rattle.cg_table.specs.Puts.{Put, puts}
use Rattle.cg_messages.specs.declared.outcome.Outcome.{Outcome}
use Rattle.cg_core.specs.declared.event.Event.{Event}
use Rattle.cg_core.specs.declared.reply.Reply.{Reply}
use Rattle.cg_core.specs.declared.reply.Reply.TheVariants as reply
use Rattle.cg_core.specs.Values.{NodeValue}
use Rattle.cg_silence.specs.Windows.{was_taken}
use Rattle.cg_core.specs.Step.{node_step, then}

-- a step, with the puts that lead to its table
abbrev pub step_with_puts : NodeValue → Event → Result (NodeValue × Reply × List Put) Fault
step_with_puts n e = then (node_step n e) (λ x. (x.0, x.1, puts n.table x.0.table))

-- the owners of the deltas that were taken
abbrev pub taken_owners : List Outcome → List ℕ
taken_owners outcomes = map (λ o. o.endpoint) (filter (λ o. was_taken o.took) outcomes)

-- the owners whose entry a step changes, by its reply: the own one, nobody, or those of the deltas that were taken
abbrev pub changed_owners : ℕ → Reply → List ℕ
changed_owners own (reply.Done version) = own ∷ []
changed_owners own (reply.Round peers syn) = own ∷ []
changed_owners own (reply.Sent m) = []
changed_owners own (reply.Both outcomes ack2) = taken_owners outcomes
changed_owners own (reply.Took outcomes) = taken_owners outcomes

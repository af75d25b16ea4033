-- What an event leads to at a node.
use Rattle.std.specs.Prelude.{ℕ, List, [], Option, Some, None, Result, Ok, Err}
use Rattle.cg_types.specs.declared.fault.Fault.{Fault}
use Rattle.cg_types.specs.declared.fault.Fault.TheVariants.{NoSuchNode, Truncated}
use Rattle.cg_types.specs.ResultSteps.{then, ◌>>=◌}
use Rattle.cg_messages.specs.declared.message.Message.{Message}
use Rattle.cg_core.specs.declared.event.Event.{Event}
use Rattle.cg_core.specs.declared.event.Event.TheVariants as event
use Rattle.cg_core.specs.declared.reply.Reply.{Reply}
use Rattle.cg_core.specs.declared.reply.Reply.TheVariants as reply
use Rattle.cg_core.specs.Values.{NodeValue}
use Rattle.cg_core.specs.Step.{node_step, arrival_of}
use Rattle.cg_core.specs.Sending.{message_of}
use Rattle.cg_frames.specs.declared.layout.TheConstants.{LAYOUTS, WRITTEN}
use Rattle.cg_frames.specs.Choosing.{frame_among}
use Rattle.cg_frames.specs.Spelling.{frame}
use Rattle.cg_text.specs.Printed.{round_line, outcome_lines}
use Rattle.cg_c.specs.declared.leading.Led.{Led}

-- the peers of a round, or the outcomes of deltas
abbrev pub reply_text : Reply → List ℕ
reply_text (reply.Round peers syn) = round_line peers
reply_text (reply.Both outcomes ack2) = outcome_lines outcomes
reply_text (reply.Took outcomes) = outcome_lines outcomes
reply_text (reply.Done version) = []
reply_text (reply.Sent m) = []

-- the frame of a message; no bytes of none
abbrev pub message_frame : Option Message → List ℕ
message_frame None = []
message_frame (Some m) = frame WRITTEN m

abbrev pub reply_frame : Reply → List ℕ
reply_frame r = message_frame (message_of r)

-- the node after an event, the text of the reply, and its frame
abbrev pub leading : NodeValue → Event → Result (NodeValue × (List ℕ × List ℕ)) Fault
leading n e = then (node_step n e) (λ x. (x.0, (reply_text x.1, reply_frame x.1)))

abbrev pub led : Led → NodeValue × (List ℕ × List ℕ)
led l = (l.node, (l.text.value.items, l.frame.value.items))

-- ---- at a node that is held

abbrev pub held_leading : Option NodeValue → Event → Result (Option NodeValue × (List ℕ × List ℕ)) Fault
held_leading None e = Err NoSuchNode
held_leading (Some n) e = then (leading n e) (λ x. (Some x.0, x.1))

-- the frame of the message that opens an exchange
abbrev pub held_opening : Option NodeValue → Result (List ℕ) Fault
held_opening held = then (held_leading held event.Opening) (λ x. x.1.1)

-- the message of a whole frame, and the frame's length
abbrev pub whole : Result (Option (Message × ℕ)) Fault → Result (Message × ℕ) Fault
whole (Err fault) = Err fault
whole (Ok None) = Err Truncated
whole (Ok (Some m)) = Ok m

-- what the frame that bytes begin with leads to, and the frame's length
abbrev pub held_handling : Option NodeValue → ℕ → List ℕ → Result ((Option NodeValue × (List ℕ × List ℕ)) × ℕ) Fault
held_handling held now bytes =
    whole (frame_among LAYOUTS bytes) >>= (λ m. then (held_leading held (arrival_of now m.0)) (λ x. (x, m.1)))

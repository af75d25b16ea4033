-- The outcomes in a reply, and the kind of reply that each kind of event has.
use Rattle.std.specs.Prelude.{List, []}
use Rattle.cg_messages.specs.declared.message.Message.TheVariants as messages
use Rattle.cg_messages.specs.declared.outcome.Outcome.{Outcome}
use Rattle.cg_core.specs.declared.event.Event.{Event}
use Rattle.cg_core.specs.declared.event.Event.TheVariants as event
use Rattle.cg_core.specs.declared.reply.Reply.{Reply}
use Rattle.cg_core.specs.declared.reply.Reply.TheVariants as reply

-- the outcomes that a reply reports of deltas
abbrev pub outcomes_in : Reply → List Outcome
outcomes_in (reply.Done version) = []
outcomes_in (reply.Round peers syn) = []
outcomes_in (reply.Sent message) = []
outcomes_in (reply.Both outcomes ack2) = outcomes
outcomes_in (reply.Took outcomes) = outcomes

-- ---- each kind of event has its kind of reply

abbrev pub IsDone : Reply → Type 0
IsDone (reply.Done version) = Unit {0}
IsDone r = ⊥

abbrev pub IsRound : Reply → Type 0
IsRound (reply.Round peers syn) = Unit {0}
IsRound r = ⊥

abbrev pub SendsSyn : Reply → Type 0
SendsSyn (reply.Sent (messages.Syn m)) = Unit {0}
SendsSyn r = ⊥

abbrev pub SendsAck : Reply → Type 0
SendsAck (reply.Sent (messages.Ack m)) = Unit {0}
SendsAck r = ⊥

abbrev pub IsBoth : Reply → Type 0
IsBoth (reply.Both outcomes ack2) = Unit {0}
IsBoth r = ⊥

abbrev pub IsTook : Reply → Type 0
IsTook (reply.Took outcomes) = Unit {0}
IsTook r = ⊥

abbrev pub IsReplyTo : Event → Reply → Type 0
IsReplyTo event.Beat r = IsDone r
IsReplyTo (event.Set key text) r = IsDone r
IsReplyTo (event.Remove key) r = IsDone r
IsReplyTo (event.Tick now words) r = IsRound r
IsReplyTo event.Opening r = SendsSyn r
IsReplyTo (event.Syn m) r = SendsAck r
IsReplyTo (event.Ack now m) r = IsBoth r
IsReplyTo (event.Ack2 now m) r = IsTook r

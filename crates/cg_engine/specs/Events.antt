-- Messages as events, the bytes written for their replies, and the faults that may refuse an event.
use Rattle.std.specs.Prelude.{ℕ, List, [], Result}
use Rattle.cg_types.specs.ResultSteps.{then}
use Rattle.cg_types.specs.declared.fault.Fault.{Fault}
use Rattle.cg_types.specs.declared.fault.Fault.TheVariants as fault
use Rattle.cg_messages.specs.declared.message.Message.{Message}
use Rattle.cg_messages.specs.declared.message.Message.TheVariants as messages
use Rattle.cg_frames.specs.declared.layout.TheConstants.{WRITTEN}
use Rattle.cg_frames.specs.Spelling.{frame}
use Rattle.cg_core.specs.declared.event.Event.{Event}
use Rattle.cg_core.specs.declared.event.Event.TheVariants as event
use Rattle.cg_core.specs.declared.reply.Reply.{Reply}
use Rattle.cg_core.specs.declared.reply.Reply.TheVariants as reply
use Rattle.cg_engine.specs.Expected.{expected_syn, expected_ack, expected_ack2}
use Rattle.cg_messages.specs.declared.kind.Kind.{Kind}
use Rattle.cg_messages.specs.declared.kind.Kind.TheVariants as kind

-- The event of a message of the expected kind, which comes at a time; the fault of another kind.
abbrev pub expected_event : Kind → ℕ → Message → Result Event Fault
expected_event kind.Syn now m = then (expected_syn m) event.Syn
expected_event kind.Ack now m = then (expected_ack m) (event.Ack now)
expected_event kind.Ack2 now m = then (expected_ack2 m) (event.Ack2 now)

-- the bytes of the message that a reply holds, in the layout that is written; none if it holds none
abbrev pub written_for : Reply → List ℕ
written_for (reply.Done version) = []
written_for (reply.Round peers syn) = frame WRITTEN (messages.Syn syn)
written_for (reply.Sent m) = frame WRITTEN m
written_for (reply.Both outcomes ack2) = frame WRITTEN (messages.Ack2 ack2)
written_for (reply.Took outcomes) = []

abbrev pub IsRemoval : Event → Type 0
IsRemoval (event.Remove key) = Unit {0}
IsRemoval e = ⊥

-- the faults that may refuse an event: NoSuchKey a removal alone, and so no event of an exchange
abbrev pub IsGateFault : Event → Fault → Type 0
IsGateFault e fault.OutOfMemory = Unit {0}
IsGateFault e fault.VersionsSpent = Unit {0}
IsGateFault e fault.TableFull = Unit {0}
IsGateFault e fault.OtherCluster = Unit {0}
IsGateFault e fault.NoSuchKey = IsRemoval e
IsGateFault e f = ⊥

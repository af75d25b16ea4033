-- Borrowed events, and those of messages that come.
use Rattle.std.specs.Prelude.{ℕ}
use Rattle.cg_messages.specs.declared.message.Message.{Message}
use Rattle.cg_messages.specs.declared.message.Message.TheVariants as message
use Rattle.cg_core.specs.declared.event.Event.{Event}
use Rattle.cg_core.specs.declared.event.Event.TheVariants as event
use Rattle.cg_core.specs.declared.borrowed.BorrowedEvent.{BorrowedEvent}
use Rattle.cg_core.specs.declared.borrowed.BorrowedEvent.TheVariants as borrowed

-- the event that is borrowed
abbrev pub borrowed_event : BorrowedEvent → Event
borrowed_event borrowed.Beat = event.Beat
borrowed_event (borrowed.Set key text) = event.Set key.now text.now
borrowed_event (borrowed.Remove key) = event.Remove key.now
borrowed_event (borrowed.Tick now words) = event.Tick now words
borrowed_event borrowed.Opening = event.Opening
borrowed_event (borrowed.Syn m) = event.Syn m.now
borrowed_event (borrowed.Ack now m) = event.Ack now m.now
borrowed_event (borrowed.Ack2 now m) = event.Ack2 now m.now

-- the event of a message that comes at a time
abbrev pub arrival_of : ℕ → Message → Event
arrival_of now (message.Syn syn) = event.Syn syn
arrival_of now (message.Ack ack) = event.Ack now ack
arrival_of now (message.Ack2 ack2) = event.Ack2 now ack2

-- Borrowed messages.
use Rattle.cg_messages.specs.declared.borrowed.BorrowedMessage.{BorrowedMessage}
use Rattle.cg_messages.specs.declared.borrowed.BorrowedMessage.TheVariants as borrowed
use Rattle.cg_messages.specs.declared.message.Message.{Message}
use Rattle.cg_messages.specs.declared.message.Message.TheVariants as messages

-- the message that is borrowed
abbrev pub borrowed_message : BorrowedMessage → Message
borrowed_message (borrowed.Syn m) = messages.Syn m.now
borrowed_message (borrowed.Ack m) = messages.Ack m.now
borrowed_message (borrowed.Ack2 m) = messages.Ack2 m.now

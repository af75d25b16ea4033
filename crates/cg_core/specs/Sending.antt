-- Messages that replies send.
use Rattle.std.specs.Prelude.{Option, Some, None}
use Rattle.cg_messages.specs.declared.message.Message.{Message}
use Rattle.cg_messages.specs.declared.message.Message.TheVariants as messages
use Rattle.cg_core.specs.declared.reply.Reply.{Reply}
use Rattle.cg_core.specs.declared.reply.Reply.TheVariants as replies

-- the message that a reply sends, if it sends one
abbrev pub message_of : Reply → Option Message
message_of (replies.Done version) = None
message_of (replies.Round peers syn) = Some (messages.Syn syn)
message_of (replies.Sent message) = Some message
message_of (replies.Both outcomes ack2) = Some (messages.Ack2 ack2)
message_of (replies.Took outcomes) = None

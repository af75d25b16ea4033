-- What records weigh in memory: the bytes of their messages, as a journal writes them.
use Rattle.std.specs.Prelude.{ℕ, ◌+◌, ◌*◌, List, length, Option, None, Some}
use Rattle.std.specs.List.{sum_by}
use Rattle.cg_messages.specs.declared.message.Message.{Message}
use Rattle.cg_messages.specs.declared.message.Message.TheVariants as messages
use Rattle.cg_core.specs.declared.event.Event.{Event}
use Rattle.cg_core.specs.declared.reply.Reply.{Reply}
use Rattle.cg_core.specs.Sending.{message_of}
use Rattle.cg_history.specs.declared.item.Item.{Item}
use Rattle.cg_journal.specs.Text.{event_line}
use Rattle.cg_write_ahead.specs.declared.limits.TheConstants.{MEMBER_WEIGHT}

-- the members that a message names: digests, requests and deltas
abbrev pub members_in : Message → ℕ
members_in (messages.Syn m) = length m.digests
members_in (messages.Ack m) = length m.requests + length m.deltas
members_in (messages.Ack2 m) = length m.deltas

-- the members that the message of a reply names, if it sends one
abbrev pub members_sent : Option Message → ℕ
members_sent None = 0
members_sent (Some m) = members_in m

-- The bytes of an event's line, of which two spell a byte of its message, and a weight for each member of the reply's
-- message, which shares its texts with a table.
abbrev pub weight_of_both : Event → Reply → ℕ
weight_of_both e answer = length (event_line e) + MEMBER_WEIGHT * members_sent (message_of answer)

abbrev pub weight_of : Item → ℕ
weight_of r = weight_of_both r.event r.reply

-- the weight of records
abbrev pub weight_of_all : List Item → ℕ
weight_of_all records = sum_by weight_of records

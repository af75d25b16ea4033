-- Exchanges of which messages are lost.
use Rattle.std.specs.Prelude.{ℕ, zero, suc, ◌+◌, ◌-◌, ◌^◌, min, length, Option, Some, None, Result, Ok}
use Rattle.cg_types.specs.declared.fault.Fault.{Fault}
use Rattle.cg_types.specs.ResultSteps.{◌>>=◌, then}
use Rattle.cg_messages.specs.declared.message.Message.{Message}
use Rattle.cg_frames.specs.declared.layout.TheConstants.{WRITTEN}
use Rattle.cg_frames.specs.Spelling.{frame}
use Rattle.cg_core.specs.declared.reply.Reply.{Reply}
use Rattle.cg_core.specs.Values.{NodeValue}
use Rattle.cg_core.specs.Borrowed.{arrival_of}
use Rattle.cg_core.specs.Sending.{message_of}
use Rattle.cg_core.specs.Step.{Step, node_step}
use Rattle.cg_fleet.specs.declared.relaying.Sent.{Sent}

-- a sum of bytes, as far as it is counted
abbrev pub added : ℕ → ℕ → ℕ
added a b = min (a + b) (2 ^ 64 - 1)

-- the bytes of a message
abbrev pub size : Message → ℕ
size m = length (frame WRITTEN m)

-- the two nodes of an exchange, and the bytes that each sent
pub record Exchanged : Type 0 where
  pub from : NodeValue
  pub to : NodeValue
  pub sent : Sent

abbrev pub exchanged : NodeValue → NodeValue → Sent → Exchanged
exchanged from to sent = record { from = from; to = to; sent = sent }

abbrev pub sent_of : ℕ → ℕ → Sent
sent_of first other = record { first = first; other = other }

-- the exchange as its first side sees it, which sent so many bytes before the other one began
abbrev pub begun : ℕ → Exchanged → Exchanged
begun bytes x = exchanged x.to x.from (sent_of (added bytes x.sent.other) x.sent.first)

-- a node after a step, and the message that it sends
abbrev pub with_message : NodeValue × Reply → NodeValue × Option Message
with_message x = (x.0, message_of x.1)

abbrev pub sends : Step → Result (NodeValue × Option Message) Fault
sends step = then step with_message

-- Two nodes after a message of the first to the second, the answer to it, and so on, of which so many arrive. The one
-- after these is sent, and no node handles it.
abbrev pub relayed : ℕ → ℕ → Option Message → NodeValue → NodeValue → Result Exchanged Fault
relayed now zero None from to = Ok (exchanged from to (sent_of 0 0))
relayed now (suc arrive) None from to = Ok (exchanged from to (sent_of 0 0))
relayed now zero (Some m) from to = Ok (exchanged from to (sent_of (size m) 0))
relayed now (suc arrive) (Some m) from to =
    sends (node_step to (arrival_of now m)) >>= (λ x. then (relayed now arrive x.1 x.0 from) (begun (size m)))

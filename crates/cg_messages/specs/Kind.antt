-- The kinds of messages, and their names.
use Rattle.std.specs.Prelude.{ℕ, List, codes}
use Rattle.cg_messages.specs.declared.kind.Kind.{Kind}
use Rattle.cg_messages.specs.declared.kind.Kind.TheVariants as kind
use Rattle.cg_messages.specs.declared.message.Message.{Message}
use Rattle.cg_messages.specs.declared.message.Message.TheVariants as message

-- the kind of a message
abbrev pub kind_of : Message → Kind
kind_of (message.Syn m) = kind.Syn
kind_of (message.Ack m) = kind.Ack
kind_of (message.Ack2 m) = kind.Ack2

-- the kind's name
abbrev pub kind_name : Kind → List ℕ
kind_name kind.Syn = codes "syn"
kind_name kind.Ack = codes "ack"
kind_name kind.Ack2 = codes "ack2"

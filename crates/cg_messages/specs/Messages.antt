-- Facts of every message.
use Rattle.cg_messages.specs.declared.message.Message.{Message}
use Rattle.cg_messages.specs.declared.message.Message.TheVariants.{Syn, Ack, Ack2}
use Rattle.cg_messages.specs.Contents.{IsSyn, IsAck, IsAck2}

abbrev pub IsMessage : Message → Type 0
IsMessage (Syn m) = IsSyn m
IsMessage (Ack m) = IsAck m
IsMessage (Ack2 m) = IsAck2 m

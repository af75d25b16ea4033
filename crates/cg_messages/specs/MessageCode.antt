-- The code of messages of every kind.
use Rattle.std.specs.Prelude.{◌≡◌, ◌⊎◌, refl}
use Rattle.std.proofs.Common.{inl, inr}
use Rattle.std.specs.Coded.{Coded, code_by, coded⊎}
use Rattle.cg_messages.specs.declared.message.Message.{Message}
use Rattle.cg_messages.specs.declared.message.Message.TheVariants.{Syn, Ack, Ack2}
use Rattle.cg_messages.specs.Values.{SynValue, AckValue, Ack2Value, syn_code, ack_code, ack2_code}

abbrev content_of : Message → SynValue ⊎ (AckValue ⊎ Ack2Value)
content_of (Syn syn) = inl syn
content_of (Ack ack) = inr (inl ack)
content_of (Ack2 ack2) = inr (inr ack2)

abbrev message_of : SynValue ⊎ (AckValue ⊎ Ack2Value) → Message
message_of (inl syn) = Syn syn
message_of (inr (inl ack)) = Ack ack
message_of (inr (inr ack2)) = Ack2 ack2

pub of_its_content : (m : Message) → message_of (content_of m) ≡ m
of_its_content (Syn syn) = refl
of_its_content (Ack ack) = refl
of_its_content (Ack2 ack2) = refl

abbrev pub message_code : Coded Message
message_code =
    code_by (SynValue ⊎ (AckValue ⊎ Ack2Value)) (coded⊎ syn_code (coded⊎ ack_code ack2_code))
    content_of message_of of_its_content

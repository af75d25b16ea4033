-- The expected kind of message: the message itself, or the fault of another kind.
use Rattle.std.specs.Prelude.{Result, Ok, Err}
use Rattle.cg_types.specs.declared.fault.Fault.{Fault}
use Rattle.cg_messages.specs.declared.message.Message.{Message}
use Rattle.cg_messages.specs.declared.message.Message.TheVariants.{Syn, Ack, Ack2}
use Rattle.cg_messages.specs.Values.{SynValue, AckValue, Ack2Value}
use Rattle.cg_engine.specs.declared.expected.TheConstants.{UNEXPECTED}

abbrev pub expected_syn : Message → Result SynValue Fault
expected_syn (Syn m) = Ok m
expected_syn (Ack m) = Err UNEXPECTED
expected_syn (Ack2 m) = Err UNEXPECTED

abbrev pub expected_ack : Message → Result AckValue Fault
expected_ack (Syn m) = Err UNEXPECTED
expected_ack (Ack m) = Ok m
expected_ack (Ack2 m) = Err UNEXPECTED

abbrev pub expected_ack2 : Message → Result Ack2Value Fault
expected_ack2 (Syn m) = Err UNEXPECTED
expected_ack2 (Ack m) = Err UNEXPECTED
expected_ack2 (Ack2 m) = Ok m

-- The text that `answer` writes for an input.
use Rattle.std.specs.Prelude.{ℕ, nat_lt, if◌then◌else◌, List, [], ◌∷◌, ◌++◌, length, Option, Some, None, Result, Ok, Err}
use Rattle.hex.specs.Hex.{encode_lower}
use Rattle.cg_types.specs.declared.fault.Cause.TheVariants as cause
use Rattle.cg_types.specs.declared.fault.Fault.{Fault}
use Rattle.cg_types.specs.declared.fault.Fault.TheVariants as fault
use Rattle.cg_types.specs.Fault.{fault_text}
use Rattle.cg_types.specs.ResultSteps.{◌>>=◌}
use Rattle.cg_entry.specs.Entry.{starting_entry}
use Rattle.cg_table.specs.Values.{TableValue}
use Rattle.cg_table.specs.Table.{lone_table}
use Rattle.cg_messages.specs.declared.message.Message.{Message}
use Rattle.cg_messages.specs.declared.message.Message.TheVariants as messages
use Rattle.cg_messages.specs.Values.{SynValue}
use Rattle.cg_exchange.specs.Answering.{answer_to_syn}
use Rattle.cg_frames.specs.declared.layout.TheConstants.{WRITTEN, LAYOUTS}
use Rattle.cg_frames.specs.Choosing.{frame_among}
use Rattle.cg_frames.specs.Spelling.{frame}
use Rattle.cg_engine.specs.Expected.{expected_syn}
use Rattle.cg_tool.specs.declared.request.Header.{Header}
use Rattle.cg_tool.specs.Request.{request_in}

-- the message at the start of the bytes, if nothing follows it
abbrev pub alone_in : List ℕ → Result (Option (Message × ℕ)) Fault → Result SynValue Fault
alone_in bytes (Ok None) = Err fault.Truncated
alone_in bytes (Ok (Some m)) =
    if nat_lt m.1 (length bytes) then Err (fault.BadFrame m.1 cause.Rest) else expected_syn m.0
alone_in bytes (Err f) = Err f

-- the SYN whose frame the bytes are
unfoldable pub syn_in : List ℕ → Result SynValue Fault
syn_in bytes = alone_in bytes (frame_among LAYOUTS bytes)

-- the table of a node that has just started
abbrev pub started_table : Header → TableValue
started_table h = lone_table h.endpoint (starting_entry h.generation)

-- the frame of the ACK with which the node answers a frame
unfoldable pub answer_to_frame : Header → List ℕ → Result (List ℕ) Fault
answer_to_frame h bytes = do
  syn ← syn_in bytes
  ack ← answer_to_syn (started_table h) h.cluster syn
  Ok (frame WRITTEN (messages.Ack ack))

abbrev pub answer_to_request : Option (Header × List ℕ) → Result (List ℕ) Fault
answer_to_request None = Err fault.BadText
answer_to_request (Some r) = answer_to_frame r.0 r.1

-- the answer to an input: the frame of an ACK, or a fault
unfoldable pub answer_to : List ℕ → Result (List ℕ) Fault
answer_to input = answer_to_request (request_in input)

-- a frame in hexadecimal digits, or the fault's line
abbrev pub text_of : Result (List ℕ) Fault → List ℕ
text_of (Ok bytes) = encode_lower bytes ++ 10 ∷ []
text_of (Err f) = fault_text f

-- 0 after an ACK
abbrev pub status_of : Result (List ℕ) Fault → ℕ
status_of (Ok bytes) = 0
status_of (Err f) = 1

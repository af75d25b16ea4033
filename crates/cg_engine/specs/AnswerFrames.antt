-- The answer to a SYN as a frame.
use Rattle.std.specs.Prelude.{ℕ, List, Result, Ok}
use Rattle.cg_types.specs.declared.fault.Fault.{Fault}
use Rattle.cg_types.specs.ResultSteps.{◌>>=◌}
use Rattle.cg_types.specs.Text.{ClusterValue}
use Rattle.cg_table.specs.Values.{TableValue}
use Rattle.cg_messages.specs.declared.message.Message.TheVariants as messages
use Rattle.cg_messages.specs.Values.{SynValue}
use Rattle.cg_exchange.specs.Answering.{answer_to_syn}
use Rattle.cg_frames.specs.declared.layout.TheConstants.{WRITTEN}
use Rattle.cg_frames.specs.Spelling.{frame}

-- the frame of the ACK that answers the SYN
abbrev pub frame_of_answer : TableValue → ClusterValue → SynValue → Result (List ℕ) Fault
frame_of_answer t cluster syn = answer_to_syn t cluster syn >>= λ ack. Ok (frame WRITTEN (messages.Ack ack))

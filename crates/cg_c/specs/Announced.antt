-- The length that the first bytes of a frame announce.
use Rattle.std.specs.Prelude.{ℕ, ◌+◌, List, length, take, Option, Result, Ok, Err, nat_lt, if◌then◌else◌}
use Rattle.cg_types.specs.declared.fault.Fault.{Fault}
use Rattle.cg_types.specs.declared.fault.Fault.TheVariants.{Truncated}
use Rattle.cg_messages.specs.declared.message.Message.{Message}
use Rattle.cg_frames.specs.declared.layout.TheConstants.{LAYOUTS}
use Rattle.cg_frames.specs.Choosing.{frame_among}
use Rattle.cg_frames.specs.Reading.{size_of}

-- the length of the frame that bytes begin with, four bytes and as many as they say, if a reader finds no fault
abbrev pub announced_by : List ℕ → Result (Option (Message × ℕ)) Fault → Result ℕ Fault
announced_by bytes (Err fault) = Err fault
announced_by bytes (Ok read) = if nat_lt (length bytes) 4 then Err Truncated else Ok (4 + size_of bytes)

-- The same by the first five bytes, which are the length and the layout: what is refused of these is refused.
abbrev pub announced : List ℕ → Result ℕ Fault
announced bytes = announced_by bytes (frame_among LAYOUTS (take 5 bytes))

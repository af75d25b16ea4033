-- Messages and frames, read from left to right, with the first fault that is met.
use Rattle.std.specs.Prelude.{ℕ, ◌+◌, List, length, take, drop, Option, Some, None, Result, Ok, Err, ◌-◌, nat_lt, ◌==◌, if◌then◌else◌}
use Rattle.std.specs.Int.{w8, w32, from_be_bytes}
use Rattle.cg_types.specs.declared.fault.Cause.TheVariants as causes
use Rattle.cg_types.specs.declared.fault.Fault.{Fault}
use Rattle.cg_types.specs.declared.fault.Fault.TheVariants as faults
use Rattle.cg_types.specs.ResultSteps.{◌>>=◌}
use Rattle.cg_messages.specs.declared.message.Message.{Message}
use Rattle.cg_messages.specs.declared.message.Message.TheVariants as messages
use Rattle.cg_messages.specs.declared.kind.Kind.{Kind}
use Rattle.cg_messages.specs.declared.kind.Kind.TheVariants as kinds
use Rattle.cg_messages.specs.Values.{SynValue, AckValue, Ack2Value}
use Rattle.cg_frames.specs.declared.layout.Layout.{Layout}
use Rattle.cg_frames.specs.declared.misread.Misread.{Misread}
use Rattle.cg_frames.specs.Spelling.{number_of_kind}
pub use Rattle.cg_frames.specs.Fields.{Field, wrong, bytes_at, number_at, count_at, endpoint_from, endpoint_at, ranged_at, generation_at, version_at, heartbeat_at, held_at, version_above_at, plain_at, name_at, key_from, key_at, state_count_at, tombstone_or_fault, value_at}
pub use Rattle.cg_frames.specs.Lists.{digest_at, request_at, state_at, rising_at, digests_at, requests_at, states_at, carries, delta_from, delta_at, deltas_at, listed_requests_at, listed_deltas_at}
pub use Rattle.cg_frames.specs.Readers.{Reads, part_of_field, behind, Passes, Fails, GivesField, FindsEnd, Checks, GivesWhole, GivesAlone, IsCutOut, IsEndOf}
pub use Rattle.cg_entry.specs.Section.{StandsIn}

unfoldable pub syn_at : Layout → List ℕ → Field SynValue
syn_at layout bytes = do
  name ← name_at bytes
  partitioner ← number_at w8 name.1
  count ← count_at layout partitioner.1
  digests ← digests_at count.0 None count.1
  Ok (record { cluster = record { name = name.0; partitioner = partitioner.0 }; digests = digests.0 }, digests.1)

-- the body of an ACK: requests, and then deltas
unfoldable pub ack_at : Layout → List ℕ → Field AckValue
ack_at layout bytes = do
  requests ← listed_requests_at layout bytes
  deltas ← listed_deltas_at layout requests.1
  Ok (record { requests = requests.0; deltas = deltas.0 }, deltas.1)

-- the body of an ACK2: deltas
unfoldable pub ack2_at : Layout → List ℕ → Field Ack2Value
ack2_at layout bytes = do
  deltas ← listed_deltas_at layout bytes
  Ok (record { deltas = deltas.0 }, deltas.1)

-- nothing is left after the last field
abbrev pub whole_field : {A : Type 0} → Field A → Result A Misread
whole_field (Ok x) = if length x.1 == 0 then Ok x.0 else wrong causes.Rest x.1
whole_field (Err m) = Err m

abbrev pub as_message : {A : Type 0} → (A → Message) → Result A Misread → Result Message Misread
as_message message (Ok x) = Ok (message x)
as_message message (Err m) = Err m

-- the byte that names the layout
abbrev pub layout_at : Layout → List ℕ → Field ℕ
layout_at layout bytes = do
  byte ← number_at w8 bytes
  if byte.0 == layout.byte then Ok byte else wrong causes.Layout bytes

-- the kind of a message, by its number
abbrev pub kind_from : List ℕ → ℕ → List ℕ → Field Kind
kind_from bytes number rest =
    if number == number_of_kind kinds.Syn then Ok (kinds.Syn, rest)
    else if number == number_of_kind kinds.Ack then Ok (kinds.Ack, rest)
    else if number == number_of_kind kinds.Ack2 then Ok (kinds.Ack2, rest)
    else wrong causes.Kind bytes

abbrev pub kind_at : List ℕ → Field Kind
kind_at bytes = do
  number ← number_at w8 bytes
  kind_from bytes number.0 number.1

-- the body of a message of this kind, and nothing after it
abbrev pub of_kind : Layout → Kind → List ℕ → Result Message Misread
of_kind layout kinds.Syn bytes = as_message messages.Syn (whole_field (syn_at layout bytes))
of_kind layout kinds.Ack bytes = as_message messages.Ack (whole_field (ack_at layout bytes))
of_kind layout kinds.Ack2 bytes = as_message messages.Ack2 (whole_field (ack2_at layout bytes))

-- all bytes after the length of a frame
unfoldable pub inside_at : Layout → List ℕ → Result Message Misread
inside_at layout bytes = do
  byte ← layout_at layout bytes
  kind ← kind_at byte.1
  of_kind layout kind.0 kind.1

-- the fault of a frame with this number of bytes after its length
abbrev pub fault_at : ℕ → Misread → Fault
fault_at size m = faults.BadFrame (4 + size - m.left) m.cause

abbrev pub with_place : {A : Type 0} → ℕ → Result A Misread → Result A Fault
with_place size (Ok x) = Ok x
with_place size (Err m) = Err (fault_at size m)

abbrev pub with_size : {A : Type 0} → ℕ → Result A Fault → Result (Option (A × ℕ)) Fault
with_size size (Ok x) = Ok (Some (x, 4 + size))
with_size size (Err f) = Err f

abbrev pub sized_at : Layout → ℕ → List ℕ → Result (Option (Message × ℕ)) Fault
sized_at layout size rest =
    if nat_lt layout.length size then Err (faults.BadFrame 0 causes.Length)
    else if nat_lt (length rest) size then Ok None
    else with_size size (with_place size (inside_at layout (take size rest)))

-- the length that the first four bytes say
abbrev pub size_of : List ℕ → ℕ
size_of bytes = from_be_bytes w32 (take 4 bytes)

-- The frame at the start of the bytes, and its length; None if more bytes are needed.
unfoldable pub frame_at : Layout → List ℕ → Result (Option (Message × ℕ)) Fault
frame_at layout bytes =
    if nat_lt (length bytes) 4 then Ok None
    else sized_at layout (size_of bytes) (drop 4 bytes)

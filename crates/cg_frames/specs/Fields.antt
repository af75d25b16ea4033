-- The fields of a frame, read from left to right, with the first fault that is met.
use Rattle.std.specs.Prelude.{ℕ, ◌&&◌, ◌||◌, not, List, length, take, drop, Option, Some, None, Result, Ok, Err, nat_lt, ◌==◌, if◌then◌else◌}
use Rattle.std.specs.Int.{Width, w8, w16, w32, byte_len, from_be_bytes}
use Rattle.cg_types.specs.declared.fault.Cause.{Cause}
use Rattle.cg_types.specs.declared.fault.Cause.TheVariants as causes
use Rattle.cg_types.specs.declared.limits.TheConstants.{NUMBER_LIMIT, NAME_LIMIT, STATE_LIMIT}
use Rattle.cg_types.specs.Numbers.{endpoint_of}
use Rattle.cg_types.specs.ResultSteps.{◌>>=◌}
use Rattle.cg_types.specs.Rising.{is_past}
use Rattle.cg_types.specs.Text.{plain}
use Rattle.cg_frames.specs.declared.layout.Layout.{Layout}
use Rattle.cg_entry.specs.declared.spelled.TheConstants.{TOMBSTONE}
use Rattle.cg_frames.specs.declared.misread.Misread.{Misread}

-- A field is a value and the bytes after it.
abbrev pub Field : Type 0 → Type 0
Field A = Result (A × List ℕ) Misread

-- The fault is where these bytes begin.
abbrev pub wrong : {A : Type 0} → Cause → List ℕ → Result A Misread
wrong cause bytes = Err (record { cause = cause; left = length bytes })

-- this number of bytes, as one field
abbrev pub bytes_at : ℕ → List ℕ → Field (List ℕ)
bytes_at count bytes =
    if nat_lt (length bytes) count then wrong causes.Short bytes
    else Ok (take count bytes, drop count bytes)

abbrev pub number_at : Width → List ℕ → Field ℕ
number_at w bytes = do
  front ← bytes_at (byte_len w) bytes
  Ok (from_be_bytes w front.0, front.1)

-- the number of members of a list
abbrev pub count_at : Layout → List ℕ → Field ℕ
count_at layout bytes = do
  n ← number_at w16 bytes
  if nat_lt layout.members n.0 then wrong causes.Count bytes else Ok n

-- an endpoint's six bytes, as one field
abbrev pub endpoint_from : Option ℕ → List ℕ → ℕ → ℕ → List ℕ → Field ℕ
endpoint_from last bytes address port rest =
    if port == 0 then wrong causes.Endpoint bytes
    else if is_past last (endpoint_of address port) then Ok (endpoint_of address port, rest)
    else wrong causes.Order bytes

abbrev pub endpoint_at : Option ℕ → List ℕ → Field ℕ
endpoint_at last bytes = do
  front ← bytes_at 6 bytes
  endpoint_from last bytes (from_be_bytes w32 (take 4 front.0)) (from_be_bytes w16 (drop 4 front.0)) front.1

-- a number from `least` to the greatest
abbrev pub ranged_at : Cause → ℕ → List ℕ → Field ℕ
ranged_at cause least bytes = do
  n ← number_at w32 bytes
  if not (nat_lt n.0 least) && nat_lt n.0 NUMBER_LIMIT then Ok n else wrong cause bytes

abbrev pub generation_at : List ℕ → Field ℕ
generation_at = ranged_at causes.Generation 1

abbrev pub version_at : List ℕ → Field ℕ
version_at = ranged_at causes.Version 1

-- the version of a heartbeat
abbrev pub heartbeat_at : List ℕ → Field ℕ
heartbeat_at = ranged_at causes.Heartbeat 1

-- A version, or 0: of a request, and the version that a delta is above.
abbrev pub held_at : Cause → List ℕ → Field ℕ
held_at cause = ranged_at cause 0

-- a version that is greater than another
abbrev pub version_above_at : ℕ → List ℕ → Field ℕ
version_above_at above bytes = do
  version ← version_at bytes
  if nat_lt above version.0 then Ok version else wrong causes.Version bytes

-- this number of bytes of plain text
abbrev pub plain_at : ℕ → Cause → List ℕ → Field (List ℕ)
plain_at count cause bytes = do
  front ← bytes_at count bytes
  if plain front.0 then Ok front else wrong cause bytes

unfoldable pub name_at : List ℕ → Field (List ℕ)
name_at bytes = do
  len ← number_at w8 bytes
  if len.0 == 0 || nat_lt NAME_LIMIT len.0 then wrong causes.Name bytes else plain_at len.0 causes.Name len.1

-- a key, which has to come after the last one of its delta
abbrev pub key_from : Option ℕ → List ℕ → ℕ → List ℕ → Field ℕ
key_from last bytes key rest =
    if key == 0 || nat_lt STATE_LIMIT key then wrong causes.Key bytes
    else if is_past last key then Ok (key, rest)
    else wrong causes.Order bytes

abbrev pub key_at : Option ℕ → List ℕ → Field ℕ
key_at last bytes = do
  key ← number_at w8 bytes
  key_from last bytes key.0 key.1

-- the number of states of a delta: one byte
abbrev pub state_count_at : List ℕ → Field ℕ
state_count_at bytes = do
  count ← number_at w8 bytes
  if nat_lt STATE_LIMIT count.0 then wrong causes.Count bytes else Ok count

-- a text that is read as the value of a state, which might have been a tombstone
abbrev pub some_text : Field (List ℕ) → Field (Option (List ℕ))
some_text (Ok t) = Ok (Some t.0, t.1)
some_text (Err m) = Err m

-- A length over that of each text stands for a tombstone; else it is a fault, from which on so many bytes are left.
abbrev pub tombstone_or_fault : Layout → ℕ → ℕ → Result (Unit {0}) Misread
tombstone_or_fault layout len left =
    if layout.tombstones && len == TOMBSTONE then Ok tt else Err (record { cause = causes.Text; left = left })

-- what stands behind the length of a state's value: nothing behind a tombstone
abbrev pub value_from : Layout → List ℕ → ℕ → List ℕ → Field (Option (List ℕ))
value_from layout bytes len rest =
    if nat_lt layout.text len then (tombstone_or_fault layout len (length bytes) >>= λ _. Ok (None, rest))
    else some_text (plain_at len causes.Text rest)

-- a state's value: a text, with its length before it, or a tombstone's length, if the layout has tombstones
unfoldable pub value_at : Layout → List ℕ → Field (Option (List ℕ))
value_at layout bytes = do
  len ← number_at w16 bytes
  value_from layout bytes len.0 len.1

-- Bytes that come in chunks, cut into messages.
use Rattle.std.specs.Prelude.{◌≡◌, ℕ, zero, suc, ◌+◌, ◌-◌, ◌≤◌, List, [], ◌∷◌, ◌++◌, length, drop, map, Option, Some, None, Result, Ok, Err, IfOk, nat_lt, if◌then◌else◌}
use Rattle.std.specs.List.{flat_map, AllByRecursion}
use Rattle.cg_types.specs.declared.fault.Fault.{Fault}
use Rattle.cg_types.specs.declared.fault.Fault.TheVariants.{Truncated}
use Rattle.cg_messages.specs.declared.message.Message.{Message}
use Rattle.cg_frames.specs.declared.layout.Layout.{Layout}
use Rattle.cg_frames.specs.Faults.{IsBadFrame}
use Rattle.cg_frames.specs.Reading.{size_of}
use Rattle.cg_frames.specs.Choosing.{frame_among, NeedsMore, IsOneOf}
use Rattle.cg_frames.specs.Spelling.{frame}
use Rattle.cg_frames.specs.Fits.{Fits}

-- The number of bytes that the present length or frame lacks.
unfoldable pub lack_of : List ℕ → ℕ
lack_of bytes =
    if nat_lt (length bytes) 4 then 4 - length bytes
    else 4 + size_of bytes - length bytes

-- The state of a feed: the bytes that it holds of the next frame, or its lasting fault.
abbrev pub Standing : Type 0
Standing = Result (List ℕ) Fault

-- The cut of bytes: whole messages, and the state of a feed after them.
pub record Cut : Type 0 where
  pub messages : List Message
  pub rest : Standing

abbrev pub with_front : List Message → Cut → Cut
with_front front c = record { messages = front ++ c.messages; rest = c.rest }

-- The first frame or fault of the bytes decides; after a message it goes on as next says.
abbrev pub cut_by : (List ℕ → Cut) → List ℕ → Result (Option (Message × ℕ)) Fault → Cut
cut_by next bytes (Err f) = record { messages = []; rest = Err f }
cut_by next bytes (Ok None) = record { messages = []; rest = Ok bytes }
cut_by next bytes (Ok (Some p)) = with_front (p.0 ∷ []) (next (drop p.1 bytes))

abbrev pub cut_within : List Layout → ℕ → List ℕ → Cut
cut_within layouts zero bytes = record { messages = []; rest = Ok bytes }
cut_within layouts (suc n) bytes = cut_by (cut_within layouts n) bytes (frame_among layouts bytes)

-- All messages of the bytes, and the state of a feed after them. There are no more frames than bytes.
unfoldable pub frames_in : List Layout → List ℕ → Cut
frames_in layouts bytes = cut_within layouts (length bytes) bytes

-- The messages of a chunk, and the state of the feed after it.
abbrev pub cut_of_piece : List Layout → Standing → List ℕ → Cut
cut_of_piece layouts (Ok held) piece = frames_in layouts (held ++ piece)
cut_of_piece layouts (Err f) piece = record { messages = []; rest = Err f }

-- The messages of chunks, one after another.
abbrev pub fed_all : List Layout → Standing → List (List ℕ) → Cut
fed_all layouts s [] = record { messages = []; rest = s }
fed_all layouts s (piece ∷ pieces) =
    with_front (cut_of_piece layouts s piece).messages (fed_all layouts (cut_of_piece layouts s piece).rest pieces)

-- The bytes held need more; or there is a lasting fault, any.
abbrev pub HoldsNoFrame : List Layout → Standing → Type 0
HoldsNoFrame layouts s = IfOk s (NeedsMore layouts)

-- The bytes held need more; a lasting fault is a bad frame.
abbrev pub IsPartial : List Layout → Standing → Type 0
IsPartial layouts (Ok held) = NeedsMore layouts held
IsPartial layouts (Err f) = IsBadFrame f

-- These bytes come after the messages.
abbrev pub StandsAt : List Layout → Standing → List ℕ → Type 0
StandsAt layouts (Ok held) rest = (rest ≡ held) × NeedsMore layouts held
StandsAt layouts (Err f) rest = frame_among layouts rest ≡ Err f

-- the frame of a message in the layout beside it
abbrev pub spelling : Layout × Message → List ℕ
spelling s = frame s.0 s.1

-- The layout is one of the list, and can spell the message.
abbrev pub IsSpellable : List Layout → Layout × Message → Type 0
IsSpellable layouts s = IsOneOf layouts s.0 × Fits s.0 s.1

-- The bytes are the spellings of these messages, each in a layout of the list that can spell it, and then a rest.
pub record Splits (layouts : List Layout) (bytes : List ℕ) (c : Cut) : Type 0 where
  pub spelled : List (Layout × Message)
  pub rest : List ℕ
  pub messages : c.messages ≡ map (λ s. s.1) spelled
  pub whole : bytes ≡ flat_map spelling spelled ++ rest
  pub fit : AllByRecursion (IsSpellable layouts) spelled
  pub stands : StandsAt layouts c.rest rest

-- The bytes held and then the chunk are split so; after a fault no message is given, and the fault stays.
abbrev pub SplitsFrom : List Layout → Standing → List ℕ → Cut → Type 0
SplitsFrom layouts (Ok held) piece c = Splits layouts (held ++ piece) c
SplitsFrom layouts (Err f) piece c = c ≡ record { messages = []; rest = Err f }

abbrev pub fault_standing : Standing → Option Fault
fault_standing (Ok held) = None
fault_standing (Err f) = Some f

abbrev pub standing_of : List ℕ → Option Fault → Standing
standing_of held None = Ok held
standing_of held (Some f) = Err f

-- the number of bytes that may come without passing the present length or frame
abbrev pub wants_of : Standing → ℕ
wants_of (Ok held) = lack_of held
wants_of (Err f) = 0

-- At most one message, and then nothing is held.
abbrev pub HasAtMostOne : List Message → Standing → Type 0
HasAtMostOne [] rest = Unit {0}
HasAtMostOne (m ∷ []) rest = rest ≡ Ok []
HasAtMostOne (m ∷ (n ∷ ms)) rest = ⊥

-- Cutting gave these messages of this number of bytes, and this fault after them.
pub record IsCut (layouts : List Layout) (bytes : List ℕ) (messages : List Message) (taken : ℕ) (fault : Option Fault)
    : Type 0 where
  pub within : taken ≤ length bytes
  pub all : frames_in layouts bytes ≡ record { messages = messages; rest = standing_of (drop taken bytes) fault }

-- A stream may end if no byte is held and there is no lasting fault.
abbrev pub Ends : Standing → Result Unit Fault → Type 0
Ends (Ok []) result = result ≡ Ok tt
Ends (Ok (b ∷ held)) result = result ≡ Err Truncated
Ends (Err f) result = result ≡ Err f

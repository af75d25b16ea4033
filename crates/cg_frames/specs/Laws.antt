-- Laws of spelling, reading and feeding as a whole.
use Rattle.std.specs.Prelude.{◌≡◌, ℕ, ◌+◌, ◌<◌, ◌≤◌, List, [], ◌++◌, length, take, slice_get, slice_index, Some, None, Result, Ok, Err, Option, IfOk, IfErr, IfSome}
use Rattle.std.specs.List.{flat_map, AllByRecursion}
use Rattle.cg_types.specs.declared.fault.Cause.TheVariants as causes
use Rattle.cg_types.specs.declared.fault.Fault.{Fault}
use Rattle.cg_types.specs.declared.fault.Fault.TheVariants as faults
use Rattle.cg_types.specs.Answer.{Answers}
use Rattle.cg_messages.specs.declared.message.Message.{Message}
use Rattle.cg_frames.specs.declared.layout.Layout.{Layout}
use Rattle.cg_frames.specs.Spelling.{inside, frame}
use Rattle.cg_frames.specs.Fits.{Fits}
use Rattle.cg_frames.specs.Lengths.{greatest_length}
use Rattle.cg_frames.specs.Faults.{IsBadFrame}
use Rattle.cg_frames.specs.Reading.{size_of, frame_at}
use Rattle.cg_frames.specs.Choosing.{layout_with_byte, frame_among, NeedsMore, IsOneOf}
use Rattle.cg_frames.specs.Feeding.{Standing, Cut, lack_of, with_front, frames_in, cut_of_piece, fed_all, HoldsNoFrame, IsPartial, Splits, HasAtMostOne}

-- The first bytes, up to this size, are the frame of a message that the layout can spell.
pub record IsSpelledIn (layout : Layout) (bytes : List ℕ) (message : Message) (size : ℕ) : Type 0 where
  pub within : size ≤ length bytes
  pub spelled : take size bytes ≡ frame layout message
  pub fits : Fits layout message

-- A message that is read is spelled so in the bytes, in a layout of the list.
abbrev pub TakesOnlySpelled : List Layout → List ℕ → Result (Option (Message × ℕ)) Fault → Type 0
TakesOnlySpelled layouts bytes result =
    IfOk result (λ found. IfSome found (λ f.
    (layout : Layout) × IsOneOf layouts layout × IsSpelledIn layout bytes f.0 f.1))

-- A message that a layout of the list can spell, and whose frame in it the bytes begin with, is the answer.
abbrev pub GivesEachSpelled : List Layout → List ℕ → Result (Option (Message × ℕ)) Fault → Type 0
GivesEachSpelled layouts bytes result =
    (layout : Layout) (m : Message) (rest : List ℕ) → IsOneOf layouts layout → Fits layout m
    → bytes ≡ frame layout m ++ rest
    → Answers (λ x. x) (Ok (Some (m, length (frame layout m)))) result

-- The frame of a message does not begin with that of another, and no two have the same one, in any layouts of the list.
abbrev pub NoSpellingBeginsAnother : List Layout → Type 0
NoSpellingBeginsAnother layouts =
    (k l : Layout) (m n : Message) (rest : List ℕ) → IsOneOf layouts k → IsOneOf layouts l → Fits k m → Fits l n
    → frame k m ++ rest ≡ frame l n → (k ≡ l) × (m ≡ n) × (rest ≡ [])

-- The bytes after the length of a message's frame are never more than the greatest.
abbrev pub EachIsShort : Layout → Type 0
EachIsShort layout = (m : Message) → Fits layout m → length (inside layout m) ≤ greatest_length layout

-- ---- of several layouts

-- The layout of a list that a frame is read in is the one that the byte after the length names.
pub record ChoosesByTheByte (layouts : List Layout) : Type 0 where
  pub by_byte : (layout : Layout) (bytes : List ℕ) → IsOneOf layouts layout → slice_get bytes 4 ≡ Some layout.byte
      → frame_among layouts bytes ≡ frame_at layout bytes
  -- A length that no layout allows is refused at once;
  pub over : (bytes : List ℕ) → 4 ≤ length bytes → AllByRecursion (λ l. l.length < size_of bytes) layouts
      → frame_among layouts bytes ≡ Err (faults.BadFrame 0 causes.Length)
  -- a length that some layout allows waits for the byte.
  pub waits : (layout : Layout) (bytes : List ℕ) → IsOneOf layouts layout → length bytes ≡ 4 → 0 < size_of bytes
      → size_of bytes ≤ layout.length → NeedsMore layouts bytes
  -- A byte that names none is refused once its frame is whole, even if some layout allows its length.
  pub unnamed : (byte : ℕ) (bytes : List ℕ) → layout_with_byte layouts byte ≡ None → slice_get bytes 4 ≡ Some byte
      → 0 < size_of bytes → 4 + size_of bytes ≤ length bytes
      → (layout : Layout) → IsOneOf layouts layout → size_of bytes ≤ layout.length
      → frame_among layouts bytes ≡ Err (faults.BadFrame 4 causes.Layout)

-- ---- of feeding

-- Each is the value of a byte.
abbrev pub AreBytes : List ℕ → Type 0
AreBytes bytes = (i : ℕ) → slice_index bytes i < 256

-- Some bytes are lacking if more are needed.
abbrev pub SomeAreLacking : List Layout → Type 0
SomeAreLacking layouts = (held : List ℕ) → NeedsMore layouts held → 0 < lack_of held

-- Chunks give what all of them at once give, after any bytes with nothing whole, and after any fault.
abbrev pub PiecesAddUp : List Layout → Type 0
PiecesAddUp layouts =
    (s : Standing) (pieces : List (List ℕ)) → HoldsNoFrame layouts s
    → fed_all layouts s pieces ≡ cut_of_piece layouts s (flat_map (λ (piece : List ℕ). piece) pieces)

-- A stream that is cut into chunks gives what its bytes at once give, for any chunks.
abbrev pub EveryCuttingIsTheWhole : List Layout → Type 0
EveryCuttingIsTheWhole layouts =
    (pieces : List (List ℕ))
    → fed_all layouts (Ok []) pieces ≡ frames_in layouts (flat_map (λ (piece : List ℕ). piece) pieces)

-- The bytes held need more, at first and after a chunk, whatever was held before it; a fault that lasts then is a bad
-- frame, if the one before was.
pub record WhatIsHeldIsPartial (layouts : List Layout) : Type 0 where
  pub new : IsPartial layouts (Ok [])
  pub later : (s : Standing) (piece : List ℕ)
      → IfErr s IsBadFrame → IsPartial layouts (cut_of_piece layouts s piece).rest

-- A fault of bytes, read in any layout, and of a feed is a bad frame.
pub record FaultsAreBadFrames (layouts : List Layout) : Type 0 where
  pub read : (bytes : List ℕ) (f : Fault) → frame_among layouts bytes ≡ Err f → IsBadFrame f
  pub fed : (pieces : List (List ℕ)) (f : Fault) → (fed_all layouts (Ok []) pieces).rest ≡ Err f → IsBadFrame f

-- Two chunks give what both at once give.
abbrev pub TwoPiecesAreOne : List Layout → Type 0
TwoPiecesAreOne layouts =
    (s : Standing) (first second : List ℕ)
    → cut_of_piece layouts s (first ++ second)
    ≡ with_front (cut_of_piece layouts s first).messages
    (cut_of_piece layouts (cut_of_piece layouts s first).rest second)

-- A chunk that is no longer than what is lacking gives at most one message; if it gives one, nothing is held then.
abbrev pub OneAtATime : List Layout → Type 0
OneAtATime layouts =
    (held piece : List ℕ) → NeedsMore layouts held → length piece ≤ lack_of held
    → HasAtMostOne (frames_in layouts (held ++ piece)).messages (frames_in layouts (held ++ piece)).rest

-- All bytes are the spellings of the messages that they are cut into, and then the rest or the fault.
abbrev pub AllIsSpelled : List Layout → Type 0
AllIsSpelled layouts = (bytes : List ℕ) → AreBytes bytes → Splits layouts bytes (frames_in layouts bytes)

-- No other messages and no other rest are in the bytes.
abbrev pub NothingElseIsSpelled : List Layout → Type 0
NothingElseIsSpelled layouts = (bytes : List ℕ) (c : Cut) → Splits layouts bytes c → frames_in layouts bytes ≡ c

-- Reading one message: its results, and the bytes read.
use Rattle.std.specs.Prelude.{◌≡◌, ℕ, ◌<◌, ◌≤◌, ◌⊎◌, List, [], ◌++◌, length, Option, Result, Ok, Err, IsErr, MatchResult, MatchOption}
use Rattle.std.specs.Io.KnownBytes.{Consumes, IsAtEnd}
use Rattle.cg_types.specs.declared.fault.Fault.{Fault}
use Rattle.cg_types.specs.declared.fault.Fault.TheVariants as fault
use Rattle.cg_messages.specs.declared.message.Message.{Message}
use Rattle.cg_frames.specs.declared.layout.Layout.{Layout}
use Rattle.cg_frames.specs.declared.layout.TheConstants.{LAYOUTS}
use Rattle.cg_frames.specs.Choosing.{frame_among, NeedsMore}
use Rattle.cg_frames.specs.Faults.{IsBadFrame}
use Rattle.cg_frames.specs.Feeding.{Standing, IsSpellable, lack_of}
use Rattle.cg_frames.specs.Spelling.{frame}
use Rattle.cg_links.specs.declared.counted.Counted.{Counted}
use Rattle.cg_links.specs.Counted.{KeepsCounts, CountsFailed}
use Rattle.cg_engine.specs.declared.receiving.TheConstants.{PIECE_LIMIT}

-- The message is spelled by these bytes, in one of the layouts that frames are read in.
pub record IsSpelledBy (bytes : List ℕ) (m : Message) : Type 0 where
  pub layout : Layout
  pub allowed : IsSpellable LAYOUTS (layout, m)
  pub spelled : bytes ≡ frame layout m

-- the bytes that a feed holds
abbrev pub held_of : Standing → List ℕ
held_of (Ok held) = held
held_of (Err f) = []

-- A chunk came after the held bytes of a message. It has no more bytes than the present length or the present frame
-- lacks, and no more than one read requests.
pub record IsNextPiece (held piece : List ℕ) : Type 0 where
  pub partial : NeedsMore LAYOUTS held
  pub some : 0 < length piece
  pub fits : length piece ≤ lack_of held
  pub few : length piece ≤ PIECE_LIMIT

-- ---- the ends of reading a message, by the reader's rest before and after, and its counts

module _ {L : Type 0} (before after : Option (List ℕ)) (old new : Counted L) where
  -- the message was read, and no byte after it
  pub record ReceivesMessage (m : Message) : Type 0 where
    pub bytes : List ℕ
    pub spelled : IsSpelledBy bytes m
    pub read : Consumes before after bytes
    pub kept : KeepsCounts old new

  -- the input ends where a message would begin
  pub record MeetsEnd : Type 0 where
    pub read : Consumes before after []
    pub end : IsAtEnd after
    pub kept : KeepsCounts old new

  -- Memory ran out for the next chunk of a message, and no read failed. If nothing was held, the chunk does not begin
  -- with a fault. A fault that needs the held bytes may be hidden by that.
  pub record LacksMemory (f : Fault) : Type 0 where
    pub fault : f ≡ fault.OutOfMemory
    pub held : List ℕ
    pub piece : List ℕ
    pub next : IsNextPiece held piece
    pub read : Consumes before after (held ++ piece)
    pub unhidden : held ≡ [] → IsErr (frame_among LAYOUTS piece) → ⊥
    pub kept : KeepsCounts old new

  -- a read failed, before a message was whole
  pub record ReadFails (f : Fault) : Type 0 where
    pub fault : f ≡ fault.ReadFault
    pub bytes : List ℕ
    pub read : Consumes before after bytes
    pub partial : NeedsMore LAYOUTS bytes
    pub caused : CountsFailed old new

  -- the input ends inside a message
  pub record EndsInside (f : Fault) : Type 0 where
    pub fault : f ≡ fault.Truncated
    pub bytes : List ℕ
    pub read : Consumes before after bytes
    pub some : 0 < length bytes
    pub partial : NeedsMore LAYOUTS bytes
    pub end : IsAtEnd after
    pub kept : KeepsCounts old new

  -- the bytes begin with a fault, which the next chunk of a message completed
  pub record BeginsBadly (f : Fault) : Type 0 where
    pub held : List ℕ
    pub piece : List ℕ
    pub next : IsNextPiece held piece
    pub read : Consumes before after (held ++ piece)
    pub bad : IsBadFrame f
    pub found : frame_among LAYOUTS (held ++ piece) ≡ Err f
    pub kept : KeepsCounts old new

  -- the faults of reading a message
  abbrev pub FailsToReceive : Fault → Type 0
  FailsToReceive f = LacksMemory f ⊎ (ReadFails f ⊎ (EndsInside f ⊎ BeginsBadly f))

  -- the results of reading a message
  abbrev pub Receives : Result (Option Message) Fault → Type 0
  Receives result = MatchResult result (λ o. MatchOption o MeetsEnd ReceivesMessage) FailsToReceive

-- A whole exchange: the messages read, the events done, and the bytes written.
use Rattle.std.specs.Prelude.{◌≡◌, ℕ, ◌+◌, ◌<◌, ◌⊎◌, List, [], ◌∷◌, ◌++◌, length, slice_get, Option, Some, Result, Ok, Err}
use Rattle.std.specs.List.{flat_map}
use Rattle.std.specs.Io.KnownBytes.{Appends, Consumes, IsAtEnd}
use Rattle.cg_types.specs.declared.fault.Fault.{Fault}
use Rattle.cg_messages.specs.declared.message.Message.{Message}
use Rattle.cg_core.specs.declared.event.Event.{Event}
use Rattle.cg_core.specs.declared.reply.Reply.{Reply}
use Rattle.cg_links.specs.declared.counted.Counted.{Counted}
use Rattle.cg_links.specs.Counted.{KeepsCounts}
use Rattle.cg_engine.specs.Received.{IsSpelledBy, ReceivesMessage, FailsToReceive}
use Rattle.cg_engine.specs.Sent.{LeavesFlushed, FailsToSend}
use Rattle.cg_core.specs.Replies.{IsReplyTo}
use Rattle.cg_engine.specs.Events.{expected_event, written_for, IsGateFault}
use Rattle.cg_messages.specs.declared.kind.Kind.{Kind}
use Rattle.cg_engine.specs.declared.exchange.Ended.{Ended}
use Rattle.cg_engine.specs.declared.exchange.Ended.TheVariants as ended
use Rattle.cg_engine.specs.declared.exchange.Broken.{Broken}

-- a message that came, by the bytes that spell it, its event, and the reply
pub record Turn : Type 0 where
  pub bytes : List ℕ
  pub message : Message
  pub event : Event
  pub reply : Reply

-- The bytes spell the message in some layout, it is of the expected kind, its event is at this time, and the reply is
-- of the event's kind.
pub record IsTurn (kind : Kind) (now : ℕ) (t : Turn) : Type 0 where
  pub spelled : IsSpelledBy t.bytes t.message
  pub due : expected_event kind now t.message ≡ Ok t.event
  pub answer : IsReplyTo t.event t.reply

-- the first turns of an exchange in which messages of these kinds are expected, in this order
abbrev pub AreTurns : List Kind → ℕ → List Turn → Type 0
AreTurns kinds now [] = Unit {0}
AreTurns [] now (t ∷ ts) = ⊥
AreTurns (k ∷ ks) now (t ∷ ts) = IsTurn k now t × AreTurns ks now ts

-- the bytes of the messages that came, and those of the messages in the replies
abbrev pub read_of : List Turn → List ℕ
read_of ts = flat_map (λ t. t.bytes) ts

abbrev pub written_of : List Turn → List ℕ
written_of ts = flat_map (λ t. written_for t.reply) ts

-- the events of turns, one after the other, from s to u
abbrev pub TurnsLead : {S : Type 0} → (S → Event → Reply → S → Type 0) → S → List Turn → S → Type 0
TurnsLead does s [] u = u ≡ s
TurnsLead {S} does s (t ∷ ts) u = (v : S) × (does s t.event t.reply v × TurnsLead does v ts u)

-- Some turns were done: their events lead from s to here, their bytes were read up to there, and nothing else was.
pub record Turned {S R : Type 0} (does : S → Event → Reply → S → Type 0) (kinds : List Kind) (now : ℕ)
    (before : Option (List ℕ)) (r0 : Counted R) (s : S)
    (turns : List Turn) (there : Option (List ℕ)) (reader : Counted R) (here : S) : Type 0 where
  pub due : AreTurns kinds now turns
  pub ran : TurnsLead does s turns here
  pub read : Consumes before there (read_of turns)
  pub sound : KeepsCounts r0 reader

-- All bytes to write so far were written and flushed, and no others.
pub record AllWritten {W : Type 0} (opening : List ℕ) (held : Option (List ℕ)) (w0 : Counted W) (turns : List Turn)
    (holds : Option (List ℕ)) (w1 : Counted W) : Type 0 where
  pub written : Appends held holds (opening ++ written_of turns)
  pub flushed : LeavesFlushed (opening ++ written_of turns) w0 w1
  pub kept : KeepsCounts w0 w1

-- The parameters are the gate's events, refusals and states left; the kinds that are expected, their time, and the
-- bytes written first; the reader's rest, the writer's contents, their counts, and the gate's state, before and after.
module _ {S R W : Type 0} (does : S → Event → Reply → S → Type 0) (refuses : S → Event → Fault → Type 0)
    (stays : S → S → Type 0) (kinds : List Kind) (now : ℕ) (opening : List ℕ)
    (before after held holds : Option (List ℕ)) (r0 r1 : Counted R) (w0 w1 : Counted W) (s t : S) where
  -- all events were done
  pub record IsWhole : Type 0 where
    pub turns : List Turn
    pub all : length turns ≡ length kinds
    pub done : Turned does kinds now before r0 s turns after r1 t
    pub wrote : AllWritten opening held w0 turns holds w1

  -- the input ended where a message would begin, with events still to come
  pub record IsClosed (count : ℕ) : Type 0 where
    pub turns : List Turn
    pub counted : length turns ≡ count
    pub fewer : count < length kinds
    pub done : Turned does kinds now before r0 s turns after r1 t
    pub end : IsAtEnd after
    pub wrote : AllWritten opening held w0 turns holds w1

  -- the next message could not be read
  pub record IsUnread (count : ℕ) (f : Fault) : Type 0 where
    pub turns : List Turn
    pub counted : length turns ≡ count
    pub fewer : count < length kinds
    pub there : Option (List ℕ)
    pub reader : Counted R
    pub done : Turned does kinds now before r0 s turns there reader t
    pub failed : FailsToReceive there after reader r1 f
    pub wrote : AllWritten opening held w0 turns holds w1

  -- the next message was of another kind
  pub record IsUnexpected (count : ℕ) (f : Fault) : Type 0 where
    pub turns : List Turn
    pub counted : length turns ≡ count
    pub kind : Kind
    pub next : slice_get kinds count ≡ Some kind
    pub there : Option (List ℕ)
    pub reader : Counted R
    pub done : Turned does kinds now before r0 s turns there reader t
    pub message : Message
    pub read : ReceivesMessage there after reader r1 message
    pub another : expected_event kind now message ≡ Err f
    pub wrote : AllWritten opening held w0 turns holds w1

  -- the next event was refused
  pub record IsRefused (count : ℕ) (f : Fault) : Type 0 where
    pub turns : List Turn
    pub counted : length turns ≡ count
    pub kind : Kind
    pub next : slice_get kinds count ≡ Some kind
    pub there : Option (List ℕ)
    pub reader : Counted R
    pub here : S
    pub done : Turned does kinds now before r0 s turns there reader here
    pub message : Message
    pub event : Event
    pub read : ReceivesMessage there after reader r1 message
    pub due : expected_event kind now message ≡ Ok event
    pub refused : refuses here event f
    pub known : IsGateFault event f
    pub stayed : stays here t
    pub wrote : AllWritten opening held w0 turns holds w1

  -- the last event was done, its message was not written whole, and all bytes before it were written
  pub record IsUnanswered (count : ℕ) (f : Fault) : Type 0 where
    pub turns : List Turn
    pub last : Turn
    pub counted : length turns + 1 ≡ count
    pub done : Turned does kinds now before r0 s (turns ++ (last ∷ [])) after r1 t
    pub there : Option (List ℕ)
    pub writer : Counted W
    pub wrote : AllWritten opening held w0 turns there writer
    pub failed : FailsToSend there holds writer w1 (written_for last.reply) f

  -- the first bytes were not written whole; nothing was read, and the gate stayed the same
  pub record IsUnopened (count : ℕ) (f : Fault) : Type 0 where
    pub none : count ≡ 0
    pub unread : after ≡ before
    pub reader : r1 ≡ r0
    pub same : t ≡ s
    pub failed : FailsToSend held holds w0 w1 opening f

  -- the faults that break off an exchange, after this number of events
  abbrev pub BreaksOff : ℕ → Fault → Type 0
  BreaksOff count f = IsUnread count f ⊎ (IsUnexpected count f ⊎ (IsRefused count f
      ⊎ (IsUnanswered count f ⊎ IsUnopened count f)))

  -- the results of an exchange
  abbrev pub Exchanges : Result Ended Broken → Type 0
  Exchanges (Ok ended.Whole) = IsWhole
  Exchanges (Ok (ended.Closed count)) = IsClosed count
  Exchanges (Err b) = BreaksOff b.done b.fault

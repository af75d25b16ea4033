-- One turn of an exchange: a message is read, its event is done, and the results.
use Rattle.std.specs.Prelude.{◌≡◌, ℕ, ◌⊎◌, List, Bool, true, false, Option, Some, Result, Ok, Err}
use Rattle.cg_types.specs.declared.fault.Fault.{Fault}
use Rattle.cg_messages.specs.declared.message.Message.{Message}
use Rattle.cg_core.specs.declared.event.Event.{Event}
use Rattle.cg_core.specs.declared.reply.Reply.{Reply}
use Rattle.cg_links.specs.declared.counted.Counted.{Counted}
use Rattle.cg_engine.specs.Received.{ReceivesMessage, MeetsEnd, FailsToReceive}
use Rattle.cg_core.specs.Replies.{IsReplyTo}
use Rattle.cg_engine.specs.Events.{expected_event, IsGateFault}
use Rattle.cg_messages.specs.declared.kind.Kind.{Kind}

-- A gate by its ghost members: a state, an event, its reply and the state after it; the refusals of an event in a
-- state; a state and one that a refused event left; the reply of the last event done.
module _ {S L : Type 0} (does : S → Event → Reply → S → Type 0) (refuses : S → Event → Fault → Type 0)
    (stays : S → S → Type 0) (last : S → Option Reply)
    (kind : Kind) (now : ℕ) (before after : Option (List ℕ)) (old new : Counted L) (s t : S) where
  -- a message of the expected kind came, and its event was done
  pub record DoesEvent : Type 0 where
    pub message : Message
    pub event : Event
    pub reply : Reply
    pub read : ReceivesMessage before after old new message
    pub due : expected_event kind now message ≡ Ok event
    pub did : does s event reply t
    pub answer : IsReplyTo event reply
    pub shown : last t ≡ Some reply

  -- the input ended where the message would begin
  pub record FindsEnd : Type 0 where
    pub end : MeetsEnd before after old new
    pub same : t ≡ s

  -- no message could be read
  pub record ReadsNone (f : Fault) : Type 0 where
    pub failed : FailsToReceive before after old new f
    pub same : t ≡ s

  -- a message of another kind came
  pub record ReadsAnother (f : Fault) : Type 0 where
    pub message : Message
    pub read : ReceivesMessage before after old new message
    pub another : expected_event kind now message ≡ Err f
    pub same : t ≡ s

  -- the event was refused
  pub record RefusesEvent (f : Fault) : Type 0 where
    pub message : Message
    pub event : Event
    pub read : ReceivesMessage before after old new message
    pub due : expected_event kind now message ≡ Ok event
    pub refused : refuses s event f
    pub known : IsGateFault event f
    pub stayed : stays s t

  -- the results of a turn: an event was done, or the input ended, or a fault
  abbrev pub TakesEvent : Result Bool Fault → Type 0
  TakesEvent (Ok true) = DoesEvent
  TakesEvent (Ok false) = FindsEnd
  TakesEvent (Err f) = ReadsNone f ⊎ (ReadsAnother f ⊎ RefusesEvent f)

-- The work of receivers and of rounds, by the gate of a seat.
use Rattle.std.specs.Prelude.{◌≡◌, ◌⊎◌, ℕ, List, Option, None, Some, Result, Ok, Err}
use Rattle.rand_core.specs.Stream.{Stream}
use Rattle.cg_types.specs.declared.fault.Fault.{Fault}
use Rattle.cg_types.specs.declared.fault.Fault.TheVariants as fault
use Rattle.cg_messages.specs.Values.{SynValue}
use Rattle.cg_core.specs.Values.{NodeValue}
use Rattle.cg_core.specs.declared.event.Event.TheVariants as event
use Rattle.cg_core.specs.declared.reply.Reply.{Reply}
use Rattle.cg_core.specs.declared.reply.Reply.TheVariants as reply
use Rattle.cg_workers.specs.Each.{Each}
use Rattle.cg_workers.specs.Words.{four_of}
use Rattle.cg_workers.specs.Workers.{NextCame, Reached}
use Rattle.cg_ahead_seats.specs.Gates.{AheadValue, Enters, Refuses, Stays, forgotten}

-- A step was done, and then the gate let go of its last receipt.
abbrev pub ThenForgets : {X L : Type 0} → (X → L × AheadValue → L × AheadValue → Type 0) → X → L × AheadValue → L × AheadValue → Type 0
ThenForgets step x s t = (h : AheadValue) × step x s (t.0, h) × (t.1 ≡ forgotten h)

-- Parameters: the start of the node, the own endpoint of its views, a reader's rest, a writer's contents, a listener's
-- answers, and the times of a clock.
module _ (start : NodeValue) (own : ℕ) {R W L : Type 0} (remaining : R → Option (List ℕ)) (contents : W → Option (List ℕ))
    (accepts : L → Result (Option (R × W)) Fault → L → Type 0) (shows : ℕ → Type 0) where
  -- A connection came, and was answered, and broken off by this fault, if by any; or none came.
  abbrev pub Came : Option (Option Fault) → L × AheadValue → L × AheadValue → Type 0
  Came came s t = NextCame (Enters start own) (Refuses start) Stays remaining contents accepts shows came s t

  -- Each of these connections came and was answered, and the gate let go of the receipt.
  abbrev pub AllCame : List (Option Fault) → L × AheadValue → L × AheadValue → Type 0
  AllCame each s t = Each (ThenForgets (λ broken. Came (Some broken))) each s t

  -- Connections were waited for, one after the other, and each that came was answered; at last none came, or no further
  -- one was waited for.
  pub record HasAnswered (s t : L × AheadValue) : Type 0 where
    pub each : List (Option Fault)
    pub here : L × AheadValue
    pub came : AllCame each s here
    pub end : (t ≡ here) ⊎ Came None here t

-- Parameters: the same, with a dialer's answers.
module _ (start : NodeValue) (own : ℕ) {R W D : Type 0} (remaining : R → Option (List ℕ)) (contents : W → Option (List ℕ))
    (dials : D → ℕ → Result (R × W) Fault → D → Type 0) (shows : ℕ → Type 0) where
  -- a peer was dialed, and an exchange was begun with this SYN if it was reached
  abbrev pub ReachedBy : SynValue → ℕ → D × AheadValue → D × AheadValue → Type 0
  ReachedBy syn peer s t = Reached (Enters start own) (Refuses start) Stays remaining contents dials shows syn peer s t

  -- each peer was, in their order, and each time the gate let go of the receipt
  abbrev pub SentTo : SynValue → List ℕ → D × AheadValue → D × AheadValue → Type 0
  SentTo syn peers s t = Each (ThenForgets (ReachedBy syn)) peers s t

  -- the round of a tick's reply was sent
  abbrev pub SentRoundOf : Reply → D × AheadValue → D × AheadValue → Type 0
  SentRoundOf (reply.Round peers syn) s t = SentTo syn peers s t
  SentRoundOf answer s t = t ≡ s

  -- The node ticked at this time by these words, with this reply, and the gate went on.
  abbrev pub Ticked : ℕ → List ℕ → Reply → AheadValue → AheadValue → Type 0
  Ticked now words answer g u = Enters start own g (event.Tick now words) answer u

  -- A tick and its round were done; or the tick was refused, or its round found no memory to be sent.
  abbrev pub TickSent : ℕ → List ℕ → Result (Unit {0}) Fault → D × AheadValue → D × AheadValue → Type 0
  TickSent now words (Ok done) s t =
      (answer : Reply) × (u : AheadValue) × Ticked now words answer s.1 u × SentRoundOf answer (s.0, u) t
  TickSent now words (Err f) s t =
      (t.0 ≡ s.0)
      × ((Refuses start s.1 (event.Tick now words) f × Stays s.1 t.1)
      ⊎ ((f ≡ fault.OutOfMemory) × ((answer : Reply) × Ticked now words answer s.1 t.1)))

  -- the same, at a time that the clock shows
  pub record Turned (words : List ℕ) (result : Result (Unit {0}) Fault) (s t : D × AheadValue) : Type 0 where
    pub now : ℕ
    pub shown : shows now
    pub sent : TickSent now words result s t

  -- a turn by the next words of a generator
  pub record TurnedBy (result : Result (Unit {0}) Fault) (s t : Stream × (D × AheadValue)) : Type 0 where
    pub words : t.0 ≡ (four_of s.0).1
    pub turned : Turned (four_of s.0).0 result s.1 t.1

  -- Turns were done, one after the other.
  pub record TurnedOn (s t : Stream × (D × AheadValue)) : Type 0 where
    pub results : List (Result (Unit {0}) Fault)
    pub turns : Each TurnedBy results s t

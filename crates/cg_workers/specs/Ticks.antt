-- The ticks of a ticker, and their rounds.
use Rattle.std.specs.Prelude.{ℕ, suc, ◌≡◌, ◌≤◌, List, [], ◌∷◌, ◌++◌, length, Option, Some, None}
use Rattle.std.specs.List.{All}
use Rattle.rand_core.specs.Stream.{Stream}
use Rattle.cg_types.specs.declared.fault.Fault.{Fault}
use Rattle.cg_core.specs.declared.event.Event.{Event}
use Rattle.cg_core.specs.declared.event.Event.TheVariants as event
use Rattle.cg_core.specs.declared.reply.Reply.{Reply}
use Rattle.cg_core.specs.declared.reply.Reply.TheVariants as reply
use Rattle.cg_history.specs.declared.item.Receipt.{Receipt}
use Rattle.cg_workers.specs.declared.round.Round.{Round}
use Rattle.cg_workers.specs.declared.ends.Putting.{Putting}
use Rattle.cg_workers.specs.Ends.{put_by, said_by, IsDisconnected, HasEnded}
use Rattle.cg_workers.specs.Words.{four_of}
use Rattle.cg_workers.specs.declared.ticked.Stop.{Stop}
use Rattle.cg_workers.specs.declared.ticked.Stop.TheVariants as stop
use Rattle.cg_workers.specs.declared.ticked.Ticked.{Ticked}
use Rattle.cg_workers.specs.declared.ticking.Turn.{Turn}
use Rattle.cg_workers.specs.declared.ticking.Turn.TheVariants as turn

-- ---- ticks, and their rounds

-- A tick at one of a clock's times was answered by a round.
abbrev pub IsTickOf : (ℕ → Type 0) → Event → Reply → Type 0
IsTickOf shows (event.Tick now words) (reply.Round peers syn) = shows now
IsTickOf shows e answer = ⊥

abbrev pub IsTick : (ℕ → Type 0) → Receipt → Type 0
IsTick shows q = IsTickOf shows q.event q.reply

-- the round of a receipt: its reply's peers and SYN, with its number; empty if it is not of a tick
abbrev pub round_with : ℕ → Reply → List Round
round_with number (reply.Round peers syn) = record { peers = peers; syn = syn; number = number } ∷ []
round_with number answer = []

abbrev pub round_in : Receipt → List Round
round_in q = round_with q.number q.reply

-- the words of an event; empty if it is not a tick
abbrev pub words_in : Event → List ℕ
words_in (event.Tick now words) = words
words_in e = []

-- ---- one turn

-- The round of the receipt was put in; or it was not, since there was no memory for it, or since nobody takes any more.
abbrev pub IsPassedOn : Receipt → Turn → Putting → Putting → Type 0
IsPassedOn q turn.Refused before after = ⊥
IsPassedOn q turn.Put before after = (put_by after ≡ put_by before ++ round_in q) × (said_by after ≡ said_by before)
IsPassedOn q (turn.Stopped stop.NoMemory) before after = after ≡ before
IsPassedOn q (turn.Stopped stop.HandedBack) before after =
    (put_by after ≡ put_by before) × (said_by after ≡ said_by before) × IsDisconnected after

-- no turn follows one that stopped
abbrev pub MayGoOn : Turn → Type 0
MayGoOn (turn.Stopped why) = ⊥
MayGoOn turn = Unit {0}

-- the last turn of a ticker that stopped
abbrev pub stopped_turn : Option Stop → List Turn
stopped_turn None = []
stopped_turn (Some why) = turn.Stopped why ∷ []

-- the number of refused turns
abbrev pub refusals : List Turn → ℕ
refusals [] = 0
refusals (turn.Refused ∷ turns) = suc (refusals turns)
refusals (turn ∷ turns) = refusals turns

-- Parameters: the receipts of a gate, its steps and refusals, and the times of a clock.
module _ {S : Type 0} (receipts_of : S → List Receipt) (does : S → Event → Reply → S → Type 0)
    (refuses : S → Event → Fault → Type 0) (shows : ℕ → Type 0) where
  -- a tick with these words, at a time that the clock showed, was refused, and nothing changed
  pub record WasRefused (drawn : List ℕ) (s t : S × Putting) : Type 0 where
    pub now : ℕ
    pub shown : shows now
    pub fault : Fault
    pub refused : refuses s.0 (event.Tick now drawn) fault
    pub same : (t.0 ≡ s.0) × (t.1 ≡ s.1)

  -- a tick with these words, at a time that the clock showed, was done, and this is its receipt
  pub record HasTicked (drawn : List ℕ) (q : Receipt) (s t : S) : Type 0 where
    pub tick : IsTick shows q
    pub words : words_in q.event ≡ drawn
    pub done : does s q.event q.reply t
    pub receipts : receipts_of t ≡ receipts_of s ++ q ∷ []

  -- One turn, with these words: a tick was refused, or it was done and its round passed on.
  abbrev pub IsTurn : List ℕ → Turn → S × Putting → S × Putting → Type 0
  IsTurn drawn turn.Refused s t = WasRefused drawn s t
  IsTurn drawn turn s t = (q : Receipt) × HasTicked drawn q s.0 t.0 × IsPassedOn q turn s.1 t.1

  -- ---- all turns

  -- These turns, one after the other, lead from s to t. Each had the next four words of the stream.
  abbrev pub AreTurns : List Turn → Stream → S × Putting → S × Putting → Type 0
  AreTurns [] words s t = t ≡ s
  AreTurns (turn ∷ turns) words s t =
      (u : S × Putting) × IsTurn (four_of words).0 turn s u × AreTurns turns (four_of words).1 u t

  -- Turns were made, as many as were wanted, or up to one whose round could not be put in.
  pub record HasTurned (rounds : ℕ) (words : Stream) (left : Ticked) (s t : S × Putting) : Type 0 where
    pub earlier : List Turn
    pub go_on : All MayGoOn earlier
    pub made : AreTurns (earlier ++ stopped_turn left.stopped) words s t
    pub most : length (earlier ++ stopped_turn left.stopped) ≤ rounds
    pub whole : left.stopped ≡ None → length earlier ≡ rounds
    pub refused : left.refused ≡ refusals earlier

  -- Turns were made, and then the end of the rounds was said, unless nobody takes any more.
  pub record Ticks (rounds : ℕ) (words : Stream) (left : Ticked) (s t : S × Putting) : Type 0 where
    pub there : Putting
    pub turned : HasTurned rounds words left s (t.0, there)
    pub put : put_by t.1 ≡ put_by there
    pub ended : HasEnded t.1

-- The receipts and the rounds that a ticker's turns make.
use Rattle.std.specs.Prelude.{ℕ, ◌+◌, ◌≡◌, ◌≤◌, List, [], ◌∷◌, ◌++◌, length, Option, Some, None}
use Rattle.std.specs.List.{All}
use Rattle.rand_core.specs.Stream.{Stream}
use Rattle.cg_types.specs.declared.fault.Fault.{Fault}
use Rattle.cg_core.specs.declared.event.Event.{Event}
use Rattle.cg_core.specs.declared.reply.Reply.{Reply}
use Rattle.cg_history.specs.declared.item.Receipt.{Receipt}
use Rattle.cg_workers.specs.declared.round.Round.{Round}
use Rattle.cg_workers.specs.declared.ends.Putting.{Putting}
use Rattle.cg_workers.specs.Ends.{put_by}
use Rattle.cg_workers.specs.Words.{words_of_ticks}
use Rattle.cg_workers.specs.declared.ticked.Stop.{Stop}
use Rattle.cg_workers.specs.declared.ticked.Ticked.{Ticked}
use Rattle.cg_workers.specs.Ticks.{IsTick, round_in, words_in, Ticks}

-- the rounds of receipts
abbrev pub rounds_in : List Receipt → List Round
rounds_in [] = []
rounds_in (q ∷ qs) = round_in q ++ rounds_in qs

-- the words of the ticks of receipts, one tick after the other
abbrev pub words_of : List Receipt → List ℕ
words_of [] = []
words_of (q ∷ qs) = words_in q.event ++ words_of qs

-- the number of ticks at the end that have no round in the channel
abbrev pub missing : Option Stop → ℕ
missing None = 0
missing (Some why) = 1

-- There are more receipts, all of ticks at times that the clock showed. First come those whose rounds were put in,
-- then, if the ticker stopped, one whose round was not. If it did not stop, ticks and refused ticks are as many as
-- rounds were wanted. If no tick was refused, the words of the ticks are the generator's.
pub record MakesRounds {S : Type 0} (receipts_of : S → List Receipt) (shows : ℕ → Type 0) (rounds : ℕ)
    (words : Stream) (left : Ticked) (s t : S × Putting) : Type 0 where
  pub passed : List Receipt
  pub rest : List Receipt
  pub receipts : receipts_of t.0 ≡ receipts_of s.0 ++ (passed ++ rest)
  pub ticks : All (IsTick shows) (passed ++ rest)
  pub put : put_by t.1 ≡ put_by s.1 ++ rounds_in passed
  pub stopped : length rest ≡ missing left.stopped
  pub most : left.refused + length (passed ++ rest) ≤ rounds
  pub whole : left.stopped ≡ None → left.refused + length (passed ++ rest) ≡ rounds
  pub drawn : left.refused ≡ 0 → words_of (passed ++ rest) ≡ words_of_ticks (length (passed ++ rest)) words

-- Ticks make such receipts and rounds, whatever the gate and the clock.
abbrev pub TicksMakeRounds : {S C : Type 0} → (S → List Receipt) → (S → Event → Reply → S → Type 0)
    → (S → Event → Fault → Type 0) → (C → ℕ → Type 0) → Type 0
TicksMakeRounds {S} {C} receipts_of does refuses shows =
    (clock : C) (rounds : ℕ) (words : Stream) (left : Ticked) (s t : S × Putting)
    → Ticks receipts_of does refuses (shows clock) rounds words left s t
    → MakesRounds receipts_of (shows clock) rounds words left s t

-- Rounds that were put in at one end of the channel, and taken at the other.
use Rattle.std.specs.Prelude.{◌≡◌, ◌⊎◌, ℕ, Bool, true, false, List, [], ◌∷◌, ◌++◌, Option, Some, None}
use Rattle.crossbeam_channel.specs.Claims.{view, IsSeatAt}
use Rattle.crossbeam_channel.specs.Ends.{sends_on, receives_on, ruled_capacity}
use Rattle.cg_workers.specs.declared.round.Round.{Round}
use Rattle.cg_workers.specs.declared.ends.Putting.{Putting}
use Rattle.cg_workers.specs.declared.ends.Taking.{Taking}
use Rattle.cg_workers.specs.declared.ends.Taken.{Taken}

-- the rounds that were put in at this end
abbrev pub put_by : Putting → List Round
put_by end = (view end.pass).put

-- the rounds that were taken at this end
abbrev pub taken_by : Taking → List Round
taken_by end = (view end.pass).taken

abbrev pub taken_in : Taken → List Round
taken_in taken = (view taken.pass).taken

-- both are ends of one channel
abbrev pub AreEnds : Putting → Taking → Type 0
AreEnds putting taking = receives_on taking.from ≡ sends_on putting.to

-- rounds, and one more if there is one
abbrev pub with_next : List Round → Option Round → List Round
with_next rounds None = rounds
with_next rounds (Some round) = rounds ++ round ∷ []

-- the number of rounds for which the channel has room
abbrev pub room_of : Putting → ℕ
room_of putting = ruled_capacity (sends_on putting.to)

-- the end stays one of the same channel
abbrev pub PutsWhere : Putting → Putting → Type 0
PutsWhere putting before = sends_on putting.to ≡ sends_on before.to

abbrev pub TakesWhere : Taking → Taking → Type 0
TakesWhere taking before = receives_on taking.from ≡ receives_on before.from

-- it was said at this end that no more rounds come
abbrev pub said_by : Putting → Bool
said_by end = (view end.pass).said

-- the channel has handed something back, since nobody takes any more
abbrev pub IsDisconnected : Putting → Type 0
IsDisconnected end = end.disconnected ≡ true

abbrev pub IsOpen : Putting → Type 0
IsOpen end = (said_by end ≡ false) × (end.disconnected ≡ false)

-- nobody waits for a round of this end: it said that no more come, or nobody takes any
abbrev pub HasEnded : Putting → Type 0
HasEnded end = (said_by end ≡ true) ⊎ IsDisconnected end

-- they were taken at this end of the channel
abbrev pub IsLeftOf : Taking → Taken → Type 0
IsLeftOf taking taken = IsSeatAt (receives_on taking.from) taken.pass

-- they were taken at the other end of the channel
abbrev pub WereTakenOf : Putting → Taken → Type 0
WereTakenOf putting taken = IsSeatAt (sends_on putting.to) taken.pass

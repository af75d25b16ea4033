-- The seats of workers: their parts of the board's ledger, the events that they counted, and their number.
use Rattle.std.specs.Prelude.{ℕ, ◌+◌, Option, None, Some}
use Rattle.cg_core.specs.Values.{NodeValue}
use Rattle.cg_locked.specs.Seat.{SeatState}
use Rattle.cg_settings_file.specs.declared.agent.AgentInput.{AgentInput}
use Rattle.cg_settings_file.specs.declared.agent.AgentInput.TheVariants.{Ignore, Stop, Lines}
use Rattle.cg_agent.specs.declared.reading.Reading.{Reading}
use Rattle.cg_agent.specs.declared.reading.Reading.TheVariants as reading
use Rattle.cg_agent.specs.Worked.{LeftByLines}

-- the parts of a seat, if there is one
abbrev pub parts_if : Option SeatState → ℕ
parts_if None = 0
parts_if (Some seat) = seat.parts

-- those of the seat by which standard input is read, if by any
abbrev pub parts_read : {N : Type 0} → Reading N → ℕ
parts_read reading.Nothing = 0
parts_read reading.End = 0
parts_read (reading.Lines seat pass) = seat.parts

-- the events that it counted
abbrev pub amount_read : {N : Type 0} → Reading N → ℕ
amount_read reading.Nothing = 0
amount_read reading.End = 0
amount_read (reading.Lines seat pass) = seat.amount

-- It was left by an operator's lines.
abbrev pub LeftByReading : {N : Type 0} → NodeValue → ℕ → Reading N → SeatState → Type 0
LeftByReading start own (reading.Lines seat pass) left = LeftByLines start own seat left
LeftByReading start own r left = ⊥

-- the number of seats of a node with this number of receivers
abbrev pub seats_for : ℕ → AgentInput → ℕ
seats_for receivers Ignore = receivers + 1
seats_for receivers Stop = receivers + 1
seats_for receivers Lines = receivers + 2

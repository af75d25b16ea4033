-- The seats that a node's workers begin with.
use Rattle.std.specs.Prelude.{ℕ, ◌≡◌, ◌+◌}
use Rattle.cg_threads.specs.declared.callers.TheConstants.{RECEIVER, SENDER, TICKER, OPERATOR}
use Rattle.cg_threads.specs.declared.seats.Seats.{Seats}

-- Each is its worker's own.
abbrev pub AreWorkers : {N : Type 0} → Seats N → Type 0
AreWorkers s =
    (s.receiver.caller ≡ RECEIVER) × (s.sender.caller ≡ SENDER) × (s.ticker.caller ≡ TICKER)
    × (s.operator.caller ≡ OPERATOR)

-- None has counted anything.
abbrev pub AreUnused : {N : Type 0} → Seats N → Type 0
AreUnused s =
    (s.receiver.amount ≡ 0) × (s.sender.amount ≡ 0) × (s.ticker.amount ≡ 0) × (s.operator.amount ≡ 0)

-- the number of parts of the board that they have together
abbrev pub parts_of : {N : Type 0} → Seats N → ℕ
parts_of s = s.receiver.parts + s.sender.parts + s.ticker.parts + s.operator.parts

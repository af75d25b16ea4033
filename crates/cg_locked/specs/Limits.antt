-- The value of the limit of seats.
use Rattle.std.specs.Prelude.{◌≡◌}
use Rattle.cg_locked.specs.declared.limits.TheConstants.{SEAT_LIMIT}

abbrev pub SeatLimitValue : Type 0
SeatLimitValue = SEAT_LIMIT ≡ 16

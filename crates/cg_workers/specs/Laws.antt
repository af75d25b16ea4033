-- The value of the room that is made for the numbers of rounds.
use Rattle.std.specs.Prelude.{◌≡◌}
use Rattle.cg_workers.specs.declared.sending.TheConstants.{ROUNDS_AT_ONCE}

abbrev pub RoomIsThis : Type 0
RoomIsThis = ROUNDS_AT_ONCE ≡ 1000000

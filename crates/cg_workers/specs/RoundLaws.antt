-- The channel's room, as a number.
use Rattle.std.specs.Prelude.{◌≡◌}
use Rattle.cg_workers.specs.declared.making.TheConstants.{ROOM}

-- rounds that the channel has room for
abbrev pub RoomHasItsValue : Type 0
RoomHasItsValue = ROOM ≡ 16

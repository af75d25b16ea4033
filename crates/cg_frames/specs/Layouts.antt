-- Rules for the limits of a layout.
use Rattle.std.specs.Prelude.{◌≡◌, ◌<◌, ◌≤◌, ◌^◌, true}
use Rattle.cg_types.specs.declared.limits.TheConstants.{MEMBER_LIMIT, TEXT_LIMIT}
use Rattle.cg_frames.specs.declared.layout.Layout.{Layout}
use Rattle.cg_entry.specs.declared.spelled.TheConstants.{TOMBSTONE}
use Rattle.cg_frames.specs.Lengths.{greatest_length}

-- Counts and lengths fit into their bytes, with no text as long as a tombstone's length says, and each message that the
-- layout can spell into a frame.
pub record IsLayout (layout : Layout) : Type 0 where
  pub members : layout.members < 2 ^ 16
  pub text : layout.text < TOMBSTONE
  pub length : layout.length < 2 ^ 32
  pub room : greatest_length layout ≤ layout.length

-- Messages hold what the layout allows, so that each of its spellings can be read.
pub record IsRead (layout : Layout) : Type 0 where
  pub members : layout.members ≤ MEMBER_LIMIT
  pub text : layout.text ≤ TEXT_LIMIT
  pub length : layout.length < 2 ^ 32

-- The layout allows what messages hold, so that each of them can be written.
pub record IsWritten (layout : Layout) : Type 0 where
  pub members : MEMBER_LIMIT ≤ layout.members
  pub text : TEXT_LIMIT ≤ layout.text
  pub tombstones : layout.tombstones ≡ true

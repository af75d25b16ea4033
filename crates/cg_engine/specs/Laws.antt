-- The bounds of a message's reads, and the fault of a message of another kind, as numbers.
use Rattle.std.specs.Prelude.{◌≡◌, ◌+◌}
use Rattle.cg_types.specs.declared.fault.Cause.TheVariants.{Unexpected}
use Rattle.cg_types.specs.declared.fault.Fault.TheVariants.{BadFrame}
use Rattle.cg_frames.specs.declared.layout.TheConstants.{LAYOUTS}
use Rattle.cg_frames.specs.Choosing.{widest}
use Rattle.cg_engine.specs.declared.expected.TheConstants.{UNEXPECTED}
use Rattle.cg_engine.specs.declared.receiving.TheConstants.{PIECE_LIMIT, MOST_TURNS}

-- The bytes of one read; the reads of one message, ten more than the longest frame that is read has after its length;
-- the fault of a message of another kind.
pub record LimitsAreThese : Type 0 where
  pub piece : PIECE_LIMIT ≡ 4096
  pub turns : MOST_TURNS ≡ 40000010
  pub derived : MOST_TURNS ≡ (widest LAYOUTS).length + 10
  pub unexpected : UNEXPECTED ≡ BadFrame 5 Unexpected

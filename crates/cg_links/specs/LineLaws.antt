-- The value of the bound on the bytes of one read of a text.
use Rattle.std.specs.Prelude.{◌≡◌}
use Rattle.cg_links.specs.declared.lines.TheConstants.{PIECE_LIMIT}

abbrev pub PieceLimitIsThis : Type 0
PieceLimitIsThis = PIECE_LIMIT ≡ 4096

-- The value of the bound on reads.
use Rattle.std.specs.Prelude.{◌≡◌}
use Rattle.cg_links.specs.declared.transfer.TheConstants.{MOST_READS}

-- reads to a link's end
abbrev pub LimitsAreThese : Type 0
LimitsAreThese = MOST_READS ≡ 4294967295

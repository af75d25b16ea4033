use Rattle.std.proofs.Common.{◌≡◌, [], drop}
use Rattle.cg_settings_file.specs.Seeds.{put_in_order}
use Rattle.cg_settings_file.proofs.seeds.distinct.Given as goal

-- Inserting those left into those already inserted gives the same as inserting all.
abbrev pub invariant-loop-endpoint : goal.invariant-loop-endpoint
invariant-loop-endpoint l = put_in_order l.seeds.keys (drop l.endpoint-index l.endpoints) ≡ put_in_order [] l.endpoints

use Rattle.std.specs.Prelude.{None}
use Rattle.std.proofs.Common.{ap, ◌∙◌, map-id}
use Rattle.cg_types.specs.Rising.{rise_past}
use Rattle.cg_types.proofs.owned.endpoints_rise.Goals as goal

pub returns : goal.returns
returns c = c.owners_rise.ensures ∙ ap (rise_past None) (map-id c.args.endpoints.now)

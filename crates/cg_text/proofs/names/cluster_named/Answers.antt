use Rattle.std.proofs.Common.{refl, inr}
use Rattle.cg_types.specs.declared.limits.TheConstants.{PARTITIONER}
use Rattle.cg_text.proofs.ClusterLemmas.{not_named}
use Rattle.cg_text.proofs.names.cluster_named.Goals as goal

pub returns-in_default : goal.returns-in_default
returns-in_default c = inr (refl, not_named c.args.name.now PARTITIONER c.in_default.ensures.cases.0)

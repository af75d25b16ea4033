use Rattle.std.proofs.Common.{◌∙◌}
use Rattle.cg_tokens.proofs.OwnerLemmas.{halved}
use Rattle.cg_tokens.proofs.claims.is_one_of.Goals as goal

pub returns : goal.returns
returns c = c.is_ok.ensures.value ∙ halved c.args.owners.now c.args.endpoint c.requires c.binary_search.result c.binary_search.ensures.position

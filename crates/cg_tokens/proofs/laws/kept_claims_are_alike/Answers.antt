use Rattle.cg_tokens.proofs.RingLaws.{kept_claims_are_alike}
use Rattle.cg_tokens.proofs.laws.kept_claims_are_alike.Goals as goal

pub returns : goal.returns
returns c = kept_claims_are_alike

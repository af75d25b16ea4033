use Rattle.cg_tokens.proofs.RingLaws.{ring_stays}
use Rattle.cg_tokens.proofs.laws.ring_stays.Goals as goal

pub returns : goal.returns
returns c = ring_stays

use Rattle.std.proofs.Common.{None, ap, ◌∙◌}
use Rattle.cg_tokens.specs.Claims.{first_claims}
use Rattle.cg_tokens.proofs.ring.Listed.of_claims.Goals as goal

pub invariant_of-result : goal.invariant_of-result
invariant_of-result c = record { sorted = c.requires; heads = c.in_ok-positions.ensures ∙ ap (first_claims None) c.deref.ensures.value }

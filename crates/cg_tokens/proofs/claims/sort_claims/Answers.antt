use Rattle.std.proofs.Common.{rules}
use Rattle.std.proofs.lemmas.List.Sorted.{answers_always}
use Rattle.cg_tokens.proofs.claims.sort_claims.Goals as goal

pub returns-clause-sorted : goal.returns-clause-sorted
returns-clause-sorted c = c.sort_unstable_by_key.ensures.sorted (λ claim. (claim.token, record { 0 = claim.generation }, claim.endpoint)) (answers_always _ _ _ (λ f a r g called. search rules))

-- Rings, as contracts see them.
use Rattle.std.specs.Prelude.{ℕ, List, refl}
use Rattle.std.specs.Coded.{Coded, code_by, coded×, coded_ℕ, coded_list}
use Rattle.std.specs.FinMap as map
use Rattle.cg_tokens.specs.declared.claims.Claim.{Claim}
use Rattle.cg_tokens.specs.Ring.{Positions}

-- all claims in the order in which they are kept, and the endpoint that has each token
pub record RingValue : Type 0 where
  pub claims : List Claim
  pub positions : Positions

-- the codes that models of such values require
abbrev pub claim_code : Coded Claim
claim_code =
    code_by (ℕ × (ℕ × ℕ)) (coded× coded_ℕ (coded× coded_ℕ coded_ℕ)) (λ c. (c.token, (c.endpoint, c.generation)))
    (λ p. record { token = p.0; endpoint = p.1.0; generation = p.1.1 }) (λ _. refl)

abbrev pub ring_code : Coded RingValue
ring_code =
    code_by (List Claim × Positions) (coded× (coded_list claim_code) (map.code coded_ℕ coded_ℕ))
    (λ r. (r.claims, r.positions)) (λ p. record { claims = p.0; positions = p.1 }) (λ _. refl)

-- Values of messages, as contracts see them.
use Rattle.std.specs.Prelude.{ℕ, List, refl}
use Rattle.std.specs.Coded.{Coded, code_by, coded×, coded_ℕ, coded_list}
use Rattle.cg_entry.specs.Values.{DeltaValue, delta_code}
use Rattle.cg_types.specs.Text.{ClusterValue, cluster_code}
use Rattle.cg_messages.specs.declared.owner_delta.OwnerDelta.{OwnerDelta}
use Rattle.cg_messages.specs.declared.outcome.Outcome.{Outcome}
use Rattle.cg_entry.specs.declared.digest.Digest.{Digest}
use Rattle.cg_entry.specs.declared.took.Took.{Took}
use Rattle.cg_entry.specs.Took.{took_code}

-- the owner whose entry is requested, the generation, and the version above which it is requested
pub record RequestValue : Type 0 where
  pub endpoint : ℕ
  pub generation : ℕ
  pub version : ℕ

-- the sender's cluster and digests
pub record SynValue : Type 0 where
  pub cluster : ClusterValue
  pub digests : List Digest

-- the requests to the sender of a SYN, and the deltas for it
pub record AckValue : Type 0 where
  pub requests : List RequestValue
  pub deltas : List OwnerDelta

-- the codes that models of such values require
abbrev pub request_code : Coded RequestValue
request_code =
    code_by (ℕ × (ℕ × ℕ)) (coded× coded_ℕ (coded× coded_ℕ coded_ℕ))
    (λ r. (r.endpoint, (r.generation, r.version)))
    (λ p. record { endpoint = p.0; generation = p.1.0; version = p.1.1 }) (λ _. refl)

abbrev digest_code : Coded Digest
digest_code =
    code_by (ℕ × (ℕ × ℕ)) (coded× coded_ℕ (coded× coded_ℕ coded_ℕ))
    (λ d. (d.endpoint, (d.generation, d.newest)))
    (λ p. record { endpoint = p.0; generation = p.1.0; newest = p.1.1 }) (λ _. refl)

abbrev pub syn_code : Coded SynValue
syn_code =
    code_by (ClusterValue × List Digest) (coded× cluster_code (coded_list digest_code))
    (λ s. (s.cluster, s.digests))
    (λ p. record { cluster = p.0; digests = p.1 }) (λ _. refl)

abbrev pub owner_delta_code : Coded OwnerDelta
owner_delta_code =
    code_by (ℕ × DeltaValue) (coded× coded_ℕ delta_code)
    (λ d. (d.endpoint, d.delta))
    (λ p. record { endpoint = p.0; delta = p.1 }) (λ _. refl)

abbrev pub ack_code : Coded AckValue
ack_code =
    code_by (List RequestValue × List OwnerDelta) (coded× (coded_list request_code) (coded_list owner_delta_code))
    (λ a. (a.requests, a.deltas))
    (λ p. record { requests = p.0; deltas = p.1 }) (λ _. refl)

-- the deltas for the sender of an ACK
pub record Ack2Value : Type 0 where
  pub deltas : List OwnerDelta

abbrev pub ack2_code : Coded Ack2Value
ack2_code =
    code_by (List OwnerDelta) (coded_list owner_delta_code)
    (λ a. a.deltas)
    (λ ds. record { deltas = ds }) (λ _. refl)

abbrev pub outcome_code : Coded Outcome
outcome_code =
    code_by (ℕ × Took) (coded× coded_ℕ took_code) (λ o. (o.endpoint, o.took))
    (λ p. record { endpoint = p.0; took = p.1 }) (λ _. refl)

-- The contents of each message: numbers in their ranges, plain and short texts, and lists that rise and are few.
use Rattle.std.specs.List.{AllByRecursion}
use Rattle.cg_types.specs.Numbers.{IsEndpoint, IsGeneration, IsVersionHeld}
use Rattle.cg_types.specs.Text.{IsCluster}
use Rattle.cg_entry.specs.Contents.{IsDigest, IsDeltaOfEntry}
use Rattle.cg_messages.specs.declared.owner_delta.OwnerDelta.{OwnerDelta}
use Rattle.cg_messages.specs.Values.{RequestValue, SynValue, AckValue, Ack2Value}
use Rattle.cg_messages.specs.Members.{AreListed, endpoints_of_digests, endpoints_of_requests, endpoints_of_deltas}

pub record IsRequest (r : RequestValue) : Type 0 where
  pub endpoint : IsEndpoint r.endpoint
  pub generation : IsGeneration r.generation
  pub version : IsVersionHeld r.version

pub record IsOwnerDelta (d : OwnerDelta) : Type 0 where
  pub endpoint : IsEndpoint d.endpoint
  pub delta : IsDeltaOfEntry d.delta

pub record IsSyn (m : SynValue) : Type 0 where
  pub cluster : IsCluster m.cluster
  pub listed : AreListed (endpoints_of_digests m.digests)
  pub digests : AllByRecursion IsDigest m.digests

pub record IsAck (m : AckValue) : Type 0 where
  pub asked : AreListed (endpoints_of_requests m.requests)
  pub requests : AllByRecursion IsRequest m.requests
  pub listed : AreListed (endpoints_of_deltas m.deltas)
  pub deltas : AllByRecursion IsOwnerDelta m.deltas

pub record IsAck2 (m : Ack2Value) : Type 0 where
  pub listed : AreListed (endpoints_of_deltas m.deltas)
  pub deltas : AllByRecursion IsOwnerDelta m.deltas

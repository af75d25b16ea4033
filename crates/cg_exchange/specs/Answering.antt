-- The answers to messages, by the entries that the receiver holds.
use Rattle.std.specs.Prelude.{ℕ, Bool, ◌&&◌, ◌==◌, nat_lt, List, Option, Some, None, Result, Ok, Err, if◌then◌else◌}
use Rattle.std.specs.List.{filter_map}
use Rattle.std.specs.Str.{bytes_eq}
use Rattle.std.specs.Option.{option_map}
use Rattle.std.specs.FinMap as table
use Rattle.cg_types.specs.declared.fault.Fault.{Fault}
use Rattle.cg_types.specs.declared.fault.Fault.TheVariants.{OtherCluster}
use Rattle.cg_types.specs.Text.{ClusterValue}
use Rattle.cg_entry.specs.Values.{EntryValue, DeltaValue}
use Rattle.cg_entry.specs.Entry.{newest, delta_above}
use Rattle.cg_entry.specs.declared.digest.Digest.{Digest}
use Rattle.cg_table.specs.Table.{digests_of}
use Rattle.cg_table.specs.Values.{TableValue, Entries}
use Rattle.cg_messages.specs.declared.owner_delta.OwnerDelta.{OwnerDelta}
use Rattle.cg_messages.specs.Values.{RequestValue, SynValue, AckValue}
use Rattle.cg_messages.specs.Members.{about, digest_about}

-- the same name and the same partitioner
abbrev pub same_cluster : ClusterValue → ClusterValue → Bool
same_cluster c d = bytes_eq c.name d.name && (c.partitioner == d.partitioner)

-- the request to the sender of a digest, by the entry held of its endpoint
abbrev pub request_by : Digest → Option EntryValue → Option RequestValue
request_by d None = Some (record { endpoint = d.endpoint; generation = d.generation; version = 0 })
request_by d (Some e) =
    if nat_lt e.generation d.generation
    then Some (record { endpoint = d.endpoint; generation = d.generation; version = 0 })
    else if e.generation == d.generation && nat_lt (newest e) d.newest
    then Some (record { endpoint = d.endpoint; generation = d.generation; version = newest e })
    else None

-- the requests to the sender of these digests
abbrev pub requests_for : Entries → List Digest → List RequestValue
requests_for entries digests = filter_map (λ d. request_by d (table.get entries d.endpoint)) digests

-- the delta that is sent of an entry, by the digest that names its endpoint, if there is such a digest
abbrev pub delta_by : EntryValue → Option Digest → Option DeltaValue
delta_by e None = delta_above 0 e
delta_by e (Some d) =
    if nat_lt d.generation e.generation then delta_above 0 e
    else if e.generation == d.generation then delta_above d.newest e
    else None

-- the delta of an endpoint's entry, by the sender's digests
abbrev pub delta_for : List Digest → ℕ × EntryValue → Option OwnerDelta
delta_for digests held = option_map (about held.0) (delta_by held.1 (digest_about held.0 digests))

-- the deltas of all entries; one that no digest names is sent whole
abbrev pub deltas_for : Entries → List Digest → List OwnerDelta
deltas_for entries digests = filter_map (delta_for digests) (table.entries entries)

-- requests and deltas within one cluster, and no answer to another
abbrev pub answer_to_syn : TableValue → ClusterValue → SynValue → Result AckValue Fault
answer_to_syn t cluster syn =
    if same_cluster cluster syn.cluster
    then Ok (record { requests = requests_for t.entries syn.digests; deltas = deltas_for t.entries syn.digests })
    else Err OtherCluster

-- the digests of a table, with the cluster
abbrev pub syn_of : TableValue → ClusterValue → SynValue
syn_of t cluster = record { cluster = cluster; digests = digests_of t.entries }

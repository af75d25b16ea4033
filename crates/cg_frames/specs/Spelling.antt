-- The one spelling of each message in a layout.
use Rattle.std.specs.Prelude.{ℕ, List, [], ◌∷◌, ◌++◌, length}
use Rattle.std.specs.List.{flat_map}
use Rattle.cg_types.specs.Text.{ClusterValue}
use Rattle.cg_entry.specs.declared.digest.Digest.{Digest}
use Rattle.cg_messages.specs.declared.owner_delta.OwnerDelta.{OwnerDelta}
use Rattle.cg_messages.specs.declared.message.Message.{Message}
use Rattle.cg_messages.specs.declared.message.Message.TheVariants.{Syn, Ack, Ack2}
use Rattle.cg_messages.specs.declared.kind.Kind.{Kind}
use Rattle.cg_messages.specs.declared.kind.Kind.TheVariants as kinds
use Rattle.cg_messages.specs.Kind.{kind_of}
use Rattle.cg_messages.specs.Values.{RequestValue}
use Rattle.cg_frames.specs.declared.layout.Layout.{Layout}
pub use Rattle.cg_entry.specs.Section.{two_bytes, four_bytes, text, value, state, endpoint, delta_about}

abbrev pub digest : Digest → List ℕ
digest d = endpoint d.endpoint ++ four_bytes d.generation ++ four_bytes d.newest

abbrev pub request : RequestValue → List ℕ
request r = endpoint r.endpoint ++ four_bytes r.generation ++ four_bytes r.version

abbrev pub delta : OwnerDelta → List ℕ
delta d = delta_about d.endpoint d.delta

-- two bytes of count, and the members
abbrev pub members : {X : Type 0} → (X → List ℕ) → List X → List ℕ
members one xs = two_bytes (length xs) ++ flat_map one xs

abbrev pub cluster : ClusterValue → List ℕ
cluster c = length c.name ∷ (c.name ++ (c.partitioner ∷ []))

abbrev pub number_of_kind : Kind → ℕ
number_of_kind kinds.Syn = 1
number_of_kind kinds.Ack = 2
number_of_kind kinds.Ack2 = 3

abbrev pub kind : Message → ℕ
kind m = number_of_kind (kind_of m)

abbrev pub body : Message → List ℕ
body (Syn m) = cluster m.cluster ++ members digest m.digests
body (Ack m) = members request m.requests ++ members delta m.deltas
body (Ack2 m) = members delta m.deltas

-- the kind, and the body
abbrev pub message : Message → List ℕ
message m = kind m ∷ body m

abbrev pub inside : Layout → Message → List ℕ
inside layout m = layout.byte ∷ message m

-- the length of what follows, and then that
abbrev pub frame : Layout → Message → List ℕ
frame layout m = four_bytes (length (inside layout m)) ++ inside layout m

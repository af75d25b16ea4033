-- The rounds of a fleet: each node ticks, and does an exchange with each peer that its tick chooses.
use Rattle.std.specs.Prelude.{ℕ, zero, suc, ◌≡◌, ◌==◌, ◌&&◌, not, nat_lt, List, [], ◌∷◌, Option, Some, None, Result, Ok, Err, length, set, get_or, drop, slice_get, option_and_then, if◌then◌else◌}
use Rattle.std.specs.Int.{w16, w32, from_be_bytes, to_be_bytes}
use Rattle.cg_types.specs.declared.fault.Fault.{Fault}
use Rattle.cg_types.specs.Numbers.{address_of}
use Rattle.cg_messages.specs.declared.message.Message.{Message}
use Rattle.cg_messages.specs.declared.message.Message.TheVariants as message
use Rattle.cg_messages.specs.Values.{SynValue}
use Rattle.cg_core.specs.declared.event.Event.TheVariants as event
use Rattle.cg_core.specs.declared.reply.Reply.TheVariants as reply
use Rattle.cg_core.specs.Values.{NodeValue}
use Rattle.cg_core.specs.Step.{node_step, opening}
use Rattle.cg_fleet.specs.Relay.{Exchanged, added, relayed}
use Rattle.cg_fleet.specs.Starting.{Both}

-- all nodes by their places, and the bytes that each has sent
pub record FleetValue : Type 0 where
  pub nodes : List NodeValue
  pub sent : List ℕ

abbrev pub fleet_of : List NodeValue → List ℕ → FleetValue
fleet_of nodes sent = record { nodes = nodes; sent = sent }

-- the place of an endpoint: the last two bytes of its address
abbrev pub place_of : ℕ → ℕ
place_of endpoint = from_be_bytes w16 (drop 2 (to_be_bytes w32 (address_of endpoint)))

-- so many bytes more, at a place
abbrev pub with_bytes : ℕ → ℕ → List ℕ → List ℕ
with_bytes place bytes sent = set sent place (added (get_or sent place 0) bytes)

-- the fleet after an exchange of the nodes of two places
abbrev pub after_exchange : FleetValue → ℕ → ℕ → Result Exchanged Fault → Option FleetValue
after_exchange f opener answerer (Ok x) =
    Some (fleet_of (set (set f.nodes opener x.from) answerer x.to)
    (with_bytes answerer x.sent.other (with_bytes opener x.sent.first f.sent)))
after_exchange f opener answerer (Err fault) = None

-- the fleet after a node sent a message to another, which answered, and so on; so many of the messages arrive
abbrev pub exchanging : FleetValue → ℕ → Message → ℕ → ℕ → ℕ → Option FleetValue
exchanging f now m opener answerer arrive =
    option_and_then (λ a. option_and_then (λ b. after_exchange f opener answerer (relayed now arrive (Some m) a b))
    (slice_get f.nodes answerer)) (slice_get f.nodes opener)

-- A node did an exchange with one of its peers, if that is another node of the fleet.
pub record Reaches (now : ℕ) (m : Message) (place : ℕ) (peer : ℕ) (f g : FleetValue) : Type 0 where
  pub arrive : ℕ
  pub is :
      (if nat_lt (place_of peer) (length f.nodes) && not (place_of peer == place)
      then exchanging f now m place (place_of peer) arrive else Some f) ≡ Some g

-- A node did an exchange with each of its peers, one after the other.
abbrev pub ReachesAll : ℕ → Message → ℕ → List ℕ → FleetValue → FleetValue → Type 0
ReachesAll now m place [] f g = f ≡ g
ReachesAll now m place (peer ∷ peers) f g = Both (Reaches now m place peer) (ReachesAll now m place peers) f g

-- The node of a place ticked, and did an exchange with each peer that its tick chose. The exchange began with its SYN.
pub record HasRound (place : ℕ) (f g : FleetValue) : Type 0 where
  pub now : ℕ
  pub words : List ℕ
  pub before : NodeValue
  pub was : slice_get f.nodes place ≡ Some before
  pub after : NodeValue
  pub peers : List ℕ
  pub syn : SynValue
  pub tick : node_step before (event.Tick now words) ≡ Ok (after, reply.Round peers syn)
  pub reached : ReachesAll now (message.Syn syn) place peers (fleet_of (set f.nodes place after) f.sent) g

-- The same without the tick: peers are those that it would have chosen, and the SYN is that of the node as it is.
pub record HasQuietRound (place : ℕ) (f g : FleetValue) : Type 0 where
  pub now : ℕ
  pub words : List ℕ
  pub before : NodeValue
  pub was : slice_get f.nodes place ≡ Some before
  pub after : NodeValue
  pub peers : List ℕ
  pub syn : SynValue
  pub tick : node_step before (event.Tick now words) ≡ Ok (after, reply.Round peers syn)
  pub reached : ReachesAll now (message.Syn (opening before)) place peers f g

-- The nodes of so many places did this, one after the other.
abbrev pub EachDid : (ℕ → FleetValue → FleetValue → Type 0) → ℕ → FleetValue → FleetValue → Type 0
EachDid Does zero f g = f ≡ g
EachDid Does (suc place) f g = Both (EachDid Does place) (Does place) f g

-- Lemmas on the rounds of a fleet.
use Rattle.std.proofs.Common.{ℕ, ◌≡◌, ◌+◌, ◌<◌, Bool, true, false, List, [], ◌∷◌, Some, Ok, refl, sym, ◌∙◌, ap, subst, length, get_or, set, slice_get, option_and_then, if◌then◌else◌, ◌&&◌, not, nat_lt, ◌==◌, add-one}
use Rattle.std.proofs.lemmas.Option.{slice_get_read}
use Rattle.cg_messages.specs.declared.message.Message.{Message}
use Rattle.cg_messages.specs.declared.message.Message.TheVariants as message
use Rattle.cg_messages.specs.Values.{SynValue}
use Rattle.cg_core.specs.declared.event.Event.TheVariants as event
use Rattle.cg_core.specs.declared.reply.Reply.{Reply}
use Rattle.cg_core.specs.declared.reply.Reply.TheVariants as reply
use Rattle.cg_core.specs.Values.{NodeValue}
use Rattle.cg_core.specs.Step.{node_step, opening}
use Rattle.cg_fleet.specs.Relay.{Exchanged, relayed}
use Rattle.cg_fleet.specs.Starting.{Steps}
use Rattle.cg_fleet.specs.Moves.{FleetValue, EachDid, HasQuietRound, HasRound, Reaches, ReachesAll, after_exchange, exchanging, fleet_of, place_of, with_bytes}

-- the nodes of two places do an exchange
pub exchanging_is : (ns : List NodeValue) (sent : List ℕ) (now : ℕ) (m : Message) (opener answerer arrive : ℕ) (a b : NodeValue) (x : Exchanged)
    → opener < length ns → answerer < length ns → a ≡ get_or ns opener a → b ≡ get_or ns answerer b
    → relayed now arrive (Some m) a b ≡ Ok x
    → exchanging (fleet_of ns sent) now m opener answerer arrive
    ≡ Some (fleet_of (set (set ns opener x.from) answerer x.to)
    (with_bytes answerer x.sent.other (with_bytes opener x.sent.first sent)))
exchanging_is ns sent now m opener answerer arrive a b x within within_too is is_too led =
    ap (option_and_then (λ (n : NodeValue). option_and_then (λ (o : NodeValue). after_exchange (fleet_of ns sent) opener answerer (relayed now arrive (Some m) n o)) (slice_get ns answerer)))
    (slice_get_read ns (length ns) opener a refl within is)
    ∙ ap (option_and_then (λ (o : NodeValue). after_exchange (fleet_of ns sent) opener answerer (relayed now arrive (Some m) a o)))
    (slice_get_read ns (length ns) answerer b refl within_too is_too)
    ∙ ap (after_exchange (fleet_of ns sent) opener answerer) led

-- a peer that is another node is reached
pub reaches : (now : ℕ) (m : Message) (place peer arrive : ℕ) (f g : FleetValue)
    → nat_lt (place_of peer) (length f.nodes) && not (place_of peer == place) ≡ true
    → exchanging f now m place (place_of peer) arrive ≡ Some g → Reaches now m place peer f g
reaches now m place peer arrive f g another is = record {
  arrive = arrive;
  is = ap (λ (b : Bool). if b then exchanging f now m place (place_of peer) arrive else Some f) another ∙ is;
}

-- another peer is not
pub reaches_none : (now : ℕ) (m : Message) (place peer : ℕ) (f : FleetValue)
    → nat_lt (place_of peer) (length f.nodes) && not (place_of peer == place) ≡ false → Reaches now m place peer f f
reaches_none now m place peer f none = record {
  arrive = 0;
  is = ap (λ (b : Bool). if b then exchanging f now m place (place_of peer) 0 else Some f) none;
}

-- no peers are left
pub reaches_all_none : (now : ℕ) (m : Message) (place : ℕ) (peers : List ℕ) (f : FleetValue) → peers ≡ [] → ReachesAll now m place peers f f
reaches_all_none now m place peers f are = (let P : List ℕ → Type 0 = λ l. ReachesAll now m place l f f in subst P (sym are) refl)

pub reaches_all : (now : ℕ) (m : Message) (place : ℕ) (peers rest : List ℕ) (peer : ℕ) (f g h : FleetValue)
    → peers ≡ peer ∷ rest → Reaches now m place peer f g → ReachesAll now m place rest g h → ReachesAll now m place peers f h
reaches_all now m place peers rest peer f g h are one others =
    (let P : List ℕ → Type 0 = λ l. ReachesAll now m place l f h
    in subst P (sym are) (record { mid = g; first = one; second = others }))

-- the node of a place ticks, and reaches the peers of its reply
pub has_round : (place now : ℕ) (words : List ℕ) (ns ms : List NodeValue) (sent : List ℕ) (r : Reply) (peers : List ℕ) (syn : SynValue) (g : FleetValue)
    → Steps place (event.Tick now words) ns r ms → r ≡ reply.Round peers syn
    → ReachesAll now (message.Syn syn) place peers (fleet_of ms sent) g → HasRound place (fleet_of ns sent) g
has_round place now words ns ms sent r peers syn g s is led = record {
  now = now;
  words = words;
  before = s.before;
  was = s.was;
  after = s.after;
  peers = peers;
  syn = syn;
  tick = s.step ∙ ap (λ (x : Reply). Ok (s.after, x)) is;
  reached = (let P : List NodeValue → Type 0 = λ l. ReachesAll now (message.Syn syn) place peers (fleet_of l sent) g in subst P s.are led);
}

pub has_quiet_round : (place now : ℕ) (words : List ℕ) (ns : List NodeValue) (sent : List ℕ) (n m : NodeValue) (r : Reply) (peers : List ℕ) (syn sends : SynValue) (g : FleetValue)
    → place < length ns → n ≡ get_or ns place n → node_step n (event.Tick now words) ≡ Ok (m, r) → r ≡ reply.Round peers syn
    → sends ≡ opening n → ReachesAll now (message.Syn sends) place peers (fleet_of ns sent) g → HasQuietRound place (fleet_of ns sent) g
has_quiet_round place now words ns sent n m r peers syn sends g within there step is opens led = record {
  now = now;
  words = words;
  before = n;
  was = slice_get_read ns (length ns) place n refl within there;
  after = m;
  peers = peers;
  syn = syn;
  tick = step ∙ ap (λ (x : Reply). Ok (m, x)) is;
  reached = (let P : SynValue → Type 0 = λ x. ReachesAll now (message.Syn x) place peers (fleet_of ns sent) g in subst P opens led);
}

-- the next node does it, too
pub each_did : (Does : ℕ → FleetValue → FleetValue → Type 0) (place : ℕ) (f g h : FleetValue)
    → EachDid Does place f g → Does place g h → EachDid Does (place + 1) f h
each_did Does place f g h were is =
    (let P : ℕ → Type 0 = λ k. EachDid Does k f h
    in subst P (sym (add-one place)) (record { mid = g; first = were; second = is }))

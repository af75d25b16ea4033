-- A whole exchange between two nodes, with other actions between its messages: in worlds of any kind, and by places.
use Rattle.std.specs.Prelude.{ℕ, ◌≢◌, ⊤, List, [], ◌∷◌, ◌++◌, length}
use Rattle.cg_places.specs.PlaceWorld.{PlaceAction, Start, Beat, Set, Remove, Opening, Tick, Deliver, PlaceWorld, after_action, after_actions}

-- the opener, the answerer, the actions before each of the three messages is handed to its addressee, and the time of
-- each delivery
pub record ExchangeOf (Action Time : Type 0) : Type 0 where
  pub opener : ℕ
  pub answerer : ℕ
  pub before_syn : List Action
  pub syn_at : Time
  pub before_ack : List Action
  pub ack_at : Time
  pub before_ack2 : List Action
  pub ack2_at : Time

-- an exchange with nothing between its messages
abbrev pub prompt_exchange : {Action Time : Type 0} → ℕ → ℕ → Time → Time → Time → ExchangeOf Action Time
prompt_exchange opener answerer syn_at ack_at ack2_at =
    record {
      opener = opener;
      answerer = answerer;
      before_syn = [];
      syn_at = syn_at;
      before_ack = [];
      ack_at = ack_at;
      before_ack2 = [];
      ack2_at = ack2_at;
    }

-- A property of both nodes and of each list of actions between the messages.
pub record OfBothNodes {Action Time : Type 0} (P : ℕ → List Action → Type 0) (x : ExchangeOf Action Time)
    : Type 0 where
  pub opener : P x.opener x.before_syn × P x.opener x.before_ack × P x.opener x.before_ack2
  pub answerer : P x.answerer x.before_syn × P x.answerer x.before_ack × P x.answerer x.before_ack2

-- ---- worlds that its messages lead to

-- A kind of worlds, as an exchange needs it: the world after actions, the number of messages sent, and the actions that
-- send a SYN and that hand over the message of a number.
pub record WorldKind (World Action Time : Type 0) : Type 0 where
  pub after : World → Action → World
  pub after_all : World → List Action → World
  pub count : World → ℕ
  pub opening : (node : ℕ) → Action
  pub delivery : (number to : ℕ) → Time → Action

module _ {World Action Time : Type 0} (k : WorldKind World Action Time) where
  -- the opener has sent its SYN
  abbrev pub after_opening : World → ExchangeOf Action Time → World
  after_opening w x = k.after w (k.opening x.opener)

  -- the SYN is about to be handed to the answerer
  abbrev pub at_syn : World → ExchangeOf Action Time → World
  at_syn w x = k.after_all (after_opening w x) x.before_syn

  -- the message that was sent last is handed to a node, after a list of actions
  abbrev pub after_last_delivery : World → List Action → ℕ → Time → World
  after_last_delivery w between to now = k.after (k.after_all w between) (k.delivery (k.count w) to now)

  -- the answerer has sent its ACK
  abbrev pub after_syn : World → ExchangeOf Action Time → World
  after_syn w x = after_last_delivery (after_opening w x) x.before_syn x.answerer x.syn_at

  -- the opener has sent its ACK2
  abbrev pub after_ack : World → ExchangeOf Action Time → World
  after_ack w x = after_last_delivery (after_syn w x) x.before_ack x.opener x.ack_at

  -- the answerer has the ACK2
  abbrev pub after_exchange : World → ExchangeOf Action Time → World
  after_exchange w x = after_last_delivery (after_ack w x) x.before_ack2 x.answerer x.ack2_at

  -- the actions of an exchange that follow its opening, in their order
  abbrev pub following : World → ExchangeOf Action Time → List Action
  following w x =
      x.before_syn ++ (k.delivery (k.count (after_opening w x)) x.answerer x.syn_at
      ∷ (x.before_ack ++ (k.delivery (k.count (after_syn w x)) x.opener x.ack_at
      ∷ (x.before_ack2 ++ (k.delivery (k.count (after_ack w x)) x.answerer x.ack2_at ∷ [])))))

  -- all actions of an exchange, in their order
  abbrev pub actions_of : World → ExchangeOf Action Time → List Action
  actions_of w x = k.opening x.opener ∷ following w x

-- ---- by places

-- Deliveries by places have no time.
abbrev pub by_places : WorldKind PlaceWorld PlaceAction ⊤
by_places = record {
  after = after_action;
  after_all = after_actions;
  count = λ w. length w.sent;
  opening = Opening;
  delivery = λ number to now. Deliver number to;
}

abbrev pub PlaceExchange : Type 0
PlaceExchange = ExchangeOf PlaceAction ⊤

abbrev pub prompt_place_exchange : ℕ → ℕ → PlaceExchange
prompt_place_exchange opener answerer = prompt_exchange opener answerer tt tt tt

-- The action does not start the node.
abbrev pub IsNoStartOf : ℕ → PlaceAction → Type 0
IsNoStartOf node (Start other generation) = other ≢ node
IsNoStartOf node (Beat other) = ⊤
IsNoStartOf node (Set other key text) = ⊤
IsNoStartOf node (Remove other key) = ⊤
IsNoStartOf node (Opening other) = ⊤
IsNoStartOf node (Tick other) = ⊤
IsNoStartOf node (Deliver number to) = ⊤

-- None of the actions starts the node.
abbrev pub NoStartsOf : ℕ → List PlaceAction → Type 0
NoStartsOf node [] = ⊤
NoStartsOf node (action ∷ actions) = IsNoStartOf node action × NoStartsOf node actions

-- Neither node is started anew before the exchange is over.
abbrev pub NoStartsOfEither : PlaceExchange → Type 0
NoStartsOfEither x = OfBothNodes NoStartsOf x

-- A whole exchange between two nodes that run, with other actions between its messages, and the tables at its end.
use Rattle.std.specs.Prelude.{ℕ, ◌≡◌, ◌&&◌, false, IsOk, List, [], ◌∷◌, ◌++◌, length, Result, Ok, Err, map as map_list, slice_index_or, if◌then◌else◌}
use Rattle.std.specs.List.{list_any}
use Rattle.std.specs.FinMap as map
use Rattle.cg_types.specs.declared.fault.Fault.{Fault}
use Rattle.cg_types.specs.declared.fault.Fault.TheVariants.{NoSuchNode}
use Rattle.cg_table.specs.Values.{Entries}
use Rattle.cg_table.specs.Merge.{merge_of}
use Rattle.cg_core.specs.SettingsValues.{SettingsValue}
use Rattle.cg_core.specs.Values.{NodeValue}
use Rattle.cg_places.specs.Exchange.{ExchangeOf, WorldKind, OfBothNodes, PlaceExchange, prompt_exchange, at_syn, after_exchange, following, actions_of}
use Rattle.cg_world.specs.declared.action.Action.{Action}
use Rattle.cg_world.specs.declared.action.Action.TheVariants.{Local, Deliver}
use Rattle.cg_world.specs.declared.action.LocalEvent.TheVariants.{Beat, Opening, Tick}
use Rattle.cg_world.specs.World.{WorldValue, acting, act, run_from, run, plain_action, starts}
use Rattle.cg_world.specs.Terms.{Runs, AreEqual}

-- the worlds of nodes that run; a delivery has a time in milliseconds
abbrev pub by_nodes : WorldKind WorldValue Action ℕ
by_nodes = record {
  after = act;
  after_all = run_from;
  count = λ c. length c.sent;
  opening = λ node. Local node Opening;
  delivery = Deliver;
}

abbrev pub Exchange : Type 0
Exchange = ExchangeOf Action ℕ

-- An exchange is the list of its actions.
abbrev pub ExchangesAreLists : Type 0
ExchangesAreLists =
    (settings : SettingsValue) (actions : List Action) (x : Exchange)
    → run settings (actions ++ actions_of by_nodes (run settings actions) x)
    ≡ after_exchange by_nodes (run settings actions) x

-- An exchange whose SYN a tick sent is the exchange after a beat: the same actions follow, and the same is left.
abbrev pub TickedExchangesFollowBeats : Type 0
TickedExchangesFollowBeats =
    (settings : SettingsValue) (actions : List Action) (x : Exchange) (now : ℕ) (words : List ℕ)
    → IsOk (acting (run settings actions) (Local x.opener Beat))
    → run settings (actions ++ Local x.opener (Tick now words)
    ∷ following by_nodes (run settings (actions ++ Local x.opener Beat ∷ [])) x)
    ≡ after_exchange by_nodes (run settings (actions ++ Local x.opener Beat ∷ [])) x

-- the same exchange without times and random words
abbrev pub plain_exchange : Exchange → PlaceExchange
plain_exchange x = record {
  opener = x.opener;
  answerer = x.answerer;
  before_syn = map_list plain_action x.before_syn;
  syn_at = tt;
  before_ack = map_list plain_action x.before_ack;
  ack_at = tt;
  before_ack2 = map_list plain_action x.before_ack2;
  ack2_at = tt;
}

-- None of the actions starts the node.
abbrev pub NeverStarts : ℕ → List Action → Type 0
NeverStarts node actions = list_any (starts node) actions ≡ false

-- Nothing that is done between its messages starts one of the two nodes of an exchange.
abbrev pub StartsNeither : Exchange → Type 0
StartsNeither x = OfBothNodes NeverStarts x

-- ---- the end of an exchange

-- The entries are at or past the others: a merge with those changes nothing.
abbrev pub IsPast : Entries → Entries → Type 0
IsPast entries others = merge_of entries others ≡ entries

-- Both nodes end at or past the merge of what the opener held when it opened and the answerer when it answered.
pub record ReachesTheMerge (c : WorldValue) (x : Exchange) (opening : NodeValue) : Type 0 where
  -- the answerer when it answers
  pub answering : NodeValue
  pub answers : Runs (at_syn by_nodes c x) x.answerer answering
  -- both at the end
  pub opener : NodeValue
  pub opener_runs : Runs (after_exchange by_nodes c x) x.opener opener
  pub answerer : NodeValue
  pub answerer_runs : Runs (after_exchange by_nodes c x) x.answerer answerer
  pub opener_past : IsPast opener.table.entries (merge_of answering.table.entries opening.table.entries)
  pub answerer_past : IsPast answerer.table.entries (merge_of answering.table.entries opening.table.entries)

-- An exchange takes both of its nodes to the join, whatever is done between its messages except a start of the two.
abbrev pub ExchangesEndAtTheJoin : Type 0
ExchangesEndAtTheJoin =
    (settings : SettingsValue) (actions : List Action) (x : Exchange) (opening other : NodeValue)
    → Runs (run settings actions) x.opener opening → Runs (run settings actions) x.answerer other
    → StartsNeither x → ReachesTheMerge (run settings actions) x opening

-- Both nodes end with equal tables and rings, and each table is the merge of what the two held.
pub record EndsAtTheMerge (c : WorldValue) (x : Exchange) (opening answering : NodeValue) : Type 0 where
  -- both at the end
  pub opener : NodeValue
  pub opener_runs : Runs (after_exchange by_nodes c x) x.opener opener
  pub answerer : NodeValue
  pub answerer_runs : Runs (after_exchange by_nodes c x) x.answerer answerer
  pub is_merge : opener.table.entries ≡ merge_of answering.table.entries opening.table.entries
  pub equal : AreEqual opener.table.entries answerer.table.entries

-- With nothing between its messages, an exchange leaves both nodes with the merge of their tables.
abbrev pub UndisturbedExchangesMerge : Type 0
UndisturbedExchangesMerge =
    (settings : SettingsValue) (actions : List Action) (a b syn_at ack_at ack2_at : ℕ) (opening answering : NodeValue)
    → Runs (run settings actions) a opening → Runs (run settings actions) b answering
    → EndsAtTheMerge (run settings actions) (prompt_exchange a b syn_at ack_at ack2_at) opening answering

-- ---- as a call

-- an exchange whose messages are handed over at one time, each after one of three lists of actions
abbrev pub exchange_among : ℕ → ℕ → ℕ → List (List Action) → Exchange
exchange_among opener answerer now between = record {
  opener = opener;
  answerer = answerer;
  before_syn = slice_index_or between 0 [];
  syn_at = now;
  before_ack = slice_index_or between 1 [];
  ack_at = now;
  before_ack2 = slice_index_or between 2 [];
  ack2_at = now;
}

-- the world after an exchange, or the fault if one of the two nodes does not run
abbrev pub exchanging : WorldValue → Exchange → Result WorldValue Fault
exchanging c x =
    if map.contains_key c.nodes x.opener && map.contains_key c.nodes x.answerer then Ok (after_exchange by_nodes c x)
    else Err NoSuchNode

-- The result of an exchange of two nodes that run.
pub record JoinsBoth (c : WorldValue) (x : Exchange) : Type 0 where
  pub opening : NodeValue
  pub opens : Runs c x.opener opening
  -- both end at or past the merge of what the opener held when it opened and the answerer when it answered
  pub joined : ReachesTheMerge c x opening
  -- with nothing between its messages both end with the merge of what they held, and so with the same entries
  pub equal : (answering : NodeValue) → Runs c x.answerer answering
      → x.before_syn ≡ [] → x.before_ack ≡ [] → x.before_ack2 ≡ [] → EndsAtTheMerge c x opening answering

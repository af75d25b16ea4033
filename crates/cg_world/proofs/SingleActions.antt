-- Replies, changes and windows of one action.
use Rattle.std.proofs.Common.{◌≡◌, ◌≢◌, ℕ, List, [], ◌∷◌, refl, sym, ◌∙◌, ap, subst, Bool, true, false, Option, Some, None, Result, Ok, Err}
use Rattle.std.specs.Prelude.{IsOk, is_ok, is_some, cond, nat_lt}
use Rattle.std.specs.Option.{option_map_or}
use Rattle.std.specs.FinMap as map
use Rattle.cg_types.specs.declared.fault.Fault.{Fault}
use Rattle.cg_entry.specs.Entry.{removal_of}
use Rattle.cg_table.specs.Own.{own_entry}
use Rattle.cg_types.specs.declared.fault.Fault.TheVariants.{TableFull, NotRising}
use Rattle.cg_types.specs.declared.limits.TheConstants.{MEMBER_LIMIT}
use Rattle.cg_entry.specs.History.{at_place}
use Rattle.cg_table.specs.Values.{TableValue}
use Rattle.cg_messages.specs.declared.message.Message.{Message}
use Rattle.cg_messages.specs.declared.message.Message.TheVariants as message
use Rattle.cg_messages.specs.declared.outcome.Outcome.{Outcome}
use Rattle.cg_messages.specs.Values.{AckValue, Ack2Value}
use Rattle.cg_exchange.specs.Answering.{answer_to_syn}
use Rattle.cg_exchange.specs.Taking.{table_after, outcomes_of, held_after, deltas_granted, taking_ack, taking_ack2}
use Rattle.cg_core.specs.declared.event.Event.{Event}
use Rattle.cg_core.specs.declared.event.Event.TheVariants as event
use Rattle.cg_core.specs.declared.reply.Reply.{Reply}
use Rattle.cg_core.specs.declared.reply.Reply.TheVariants as reply
use Rattle.cg_core.specs.Values.{NodeValue}
use Rattle.cg_silence.specs.Windows.{Heard, arrivals}
use Rattle.cg_core.specs.Step.{Step, then, starting_node, next_of, beating, setting, removing, opening, round_peers, after_taking, node_step}
use Rattle.cg_world.specs.World.{LocalEvent, Beat, Set, Remove, Opening, Tick, Action, Start, Deliver, WorldValue, new_world, with_node, with_sent, message_of, after_step, generation_held, has_room, event_of, arrival_of, reply_of, reply_to, acting, or_unchanged, act, run_from, step_of, step_at, message_to}
use Rattle.cg_world.specs.Terms.{Runs}
use Rattle.cg_world.specs.SingleActions.{node_acted_on, SettingsStay, OneNodeChanges, RepliesAreOfSteps, outcomes_in, NodesHearByDeliveries}
use Rattle.cg_world.proofs.SpellingLemmas.{node_here, node_elsewhere}
use Rattle.cg_world.proofs.WorldLaws.{LeftBy, AsItWas, MadeAnew, left_by, nodes_spell_places, same_settings}

-- ---- settings

settings_from : (c : WorldValue) (actions : List Action) → (run_from c actions).settings ≡ c.settings
settings_from c [] = refl
settings_from c (action ∷ actions) = settings_from (act c action) actions ∙ same_settings c action

pub settings_stay : SettingsStay
settings_stay settings actions node n e = ((nodes_spell_places settings actions).each node n e).its_settings ∙ settings_from (new_world settings) actions

-- ---- other nodes

module _ (c : WorldValue) (node other : ℕ) (apart : other ≢ node) where
  sent_elsewhere : (n : NodeValue) (o : Option Message) → map.get (with_sent (with_node c node n) o).nodes other ≡ map.get c.nodes other
  sent_elsewhere n None = node_elsewhere c.nodes node n other apart
  sent_elsewhere n (Some m) = node_elsewhere c.nodes node n other apart

  elsewhere_left : (o : Option Message) (d : WorldValue) → LeftBy c node o d → map.get d.nodes other ≡ map.get c.nodes other
  elsewhere_left o d (AsItWas same none) = ap (λ (d : WorldValue). map.get d.nodes other) same
  elsewhere_left o d (MadeAnew n is) = ap (λ (d : WorldValue). map.get d.nodes other) is ∙ sent_elsewhere n o

pub one_node_changes : OneNodeChanges
one_node_changes c action other apart = elsewhere_left c (node_acted_on action) other apart (message_to c action) (act c action) (left_by c action)

-- ---- replies

stepped_replies : (c : WorldValue) (node : ℕ) (s : Step) → is_some (reply_of s) ≡ is_ok (after_step c node s)
stepped_replies c node (Ok x) = refl
stepped_replies c node (Err fault) = refl

-- the reply to a change of the own entry
told_by : (n : NodeValue) (answer : ℕ → Reply) (version : ℕ) (due : Result ℕ Fault) → due ≡ Ok version → reply_of (then due (λ v. (n, answer v))) ≡ Some (answer version)
told_by n answer version due is = ap (λ (due : Result ℕ Fault). reply_of (then due (λ v. (n, answer v)))) is

ack_tells : (n : NodeValue) (now : ℕ) (after : TableValue) (ack2 : Ack2Value) (outcomes : List Outcome) (r : Reply) (full : Bool)
    → reply_of (then {A = TableValue × Ack2Value × List Outcome} (cond full (Err TableFull) (Ok (after, ack2, outcomes))) (λ x. (after_taking n now x.0 x.2, reply.Both x.2 x.1))) ≡ Some r → outcomes_in r ≡ outcomes
ack_tells n now after ack2 outcomes r true e = absurd cc
ack_tells n now after ack2 outcomes r false e = let same : r ≡ reply.Both outcomes ack2 = cc in ap outcomes_in same

ack2_tells : (n : NodeValue) (now : ℕ) (after : TableValue) (outcomes : List Outcome) (r : Reply) (full : Bool)
    → reply_of (then {A = TableValue × List Outcome} (cond full (Err TableFull) (Ok (after, outcomes))) (λ x. (after_taking n now x.0 x.1, reply.Took x.1))) ≡ Some r → outcomes_in r ≡ outcomes
ack2_tells n now after outcomes r true e = absurd cc
ack2_tells n now after outcomes r false e = let same : r ≡ reply.Took outcomes = cc in ap outcomes_in same

-- the reply of a node that runs, to a message that was sent
reply_here : (c : WorldValue) (number to now : ℕ) (n : NodeValue) (m : Message) → Runs c to n → at_place c.sent number ≡ Some m → reply_of (node_step n (arrival_of now m)) ≡ reply_to c (Deliver number to now)
reply_here c number to now n m runs sent = sym (ap (λ o. reply_of (step_at c to now o)) sent ∙ ap (λ o. reply_of (step_of o (arrival_of now m))) runs)

pub replies_are_of_steps : RepliesAreOfSteps
replies_are_of_steps c = record {
  start = λ node generation. refl;
  local = λ node change. stepped_replies c node (step_of (map.get c.nodes node) (event_of change));
  delivery = λ number to now. stepped_replies c to (step_at c to now (at_place c.sent number));
  beat = λ node n version runs due. ap (λ o. reply_of (step_of o event.Beat)) runs ∙ told_by (beating n) reply.Done version (next_of n) due;
  set = λ node key text n version runs due. ap (λ o. reply_of (step_of o (event.Set key text))) runs ∙ told_by (setting key text n) reply.Done version (next_of n) due;
  remove = λ node key n version runs due. ap (λ o. reply_of (step_of o (event.Remove key))) runs ∙ told_by (removing key n) reply.Done version (removal_of key (own_entry n.table)) due;
  tick = λ node now words n version runs due. ap (λ o. reply_of (step_of o (event.Tick now words))) runs ∙ told_by (beating n) (λ v. reply.Round (round_peers (beating n) now words) (opening (beating n))) version (next_of n) due;
  ack = λ number to now n ack r runs sent e.
      let after : TableValue = table_after n.table ack.deltas in
      ack_tells n now after (record { deltas = deltas_granted after.entries ack.requests }) (outcomes_of n.table ack.deltas) r (nat_lt MEMBER_LIMIT (held_after n.table ack.deltas)) (reply_here c number to now n (message.Ack ack) runs sent ∙ e);
  ack2 = λ number to now n ack2 r runs sent e.
      ack2_tells n now (table_after n.table ack2.deltas) (outcomes_of n.table ack2.deltas) r (nat_lt MEMBER_LIMIT (held_after n.table ack2.deltas)) (reply_here c number to now n (message.Ack2 ack2) runs sent ∙ e);
}

-- ---- windows

-- the windows of a node after a step, or as they were
abbrev windows_left : NodeValue → Step → Heard
windows_left n (Ok x) = x.0.windows
windows_left n (Err fault) = n.windows

sent_here : (c : WorldValue) (node : ℕ) (n : NodeValue) (o : Option Message) → map.get (with_sent (with_node c node n) o).nodes node ≡ Some n
sent_here c node n None = node_here c.nodes node n
sent_here c node n (Some m) = node_here c.nodes node n

-- the same node has the same windows
same_windows : (o : Option NodeValue) (n m : NodeValue) → o ≡ Some n → o ≡ Some m → m.windows ≡ n.windows
same_windows o n m e r = let same : m ≡ n = cc in ap (λ (k : NodeValue). k.windows) same

stepped_windows : (c : WorldValue) (node : ℕ) (s : Step) (n m : NodeValue) → Runs c node n → Runs (or_unchanged c (after_step c node s)) node m → m.windows ≡ windows_left n s
stepped_windows c node (Ok x) n m e r = same_windows (map.get (with_sent (with_node c node x.0) (message_of x.1)).nodes node) x.0 m (sent_here c node x.0 (message_of x.1)) r
stepped_windows c node (Err fault) n m e r = same_windows (map.get c.nodes node) n m e r

handed_windows : (c : WorldValue) (node : ℕ) (e : Event) (n m : NodeValue) → Runs c node n → (o : Option NodeValue) → o ≡ Some n → Runs (or_unchanged c (after_step c node (step_of o e))) node m → m.windows ≡ windows_left n (node_step n e)
handed_windows c node e n m runs None is r = absurd cc
handed_windows c node e n m runs (Some k) is r =
    let same : k ≡ n = cc in
    stepped_windows c node (node_step n e) n m runs (subst (λ (k : NodeValue). Runs (or_unchanged c (after_step c node (node_step k e))) node m) same r)

-- a change of the own entry leaves them
changed_windows : (n after : NodeValue) (answer : ℕ → Reply) → after.windows ≡ n.windows → (due : Result ℕ Fault) → windows_left n (then due (λ v. (after, answer v))) ≡ n.windows
changed_windows n after answer e (Ok v) = e
changed_windows n after answer e (Err fault) = refl

local_windows : (n : NodeValue) (change : LocalEvent) → windows_left n (node_step n (event_of change)) ≡ n.windows
local_windows n Beat = changed_windows n (beating n) reply.Done refl (next_of n)
local_windows n (Set key text) = changed_windows n (setting key text n) reply.Done refl (next_of n)
local_windows n (Remove key) = changed_windows n (removing key n) reply.Done refl (removal_of key (own_entry n.table))
local_windows n Opening = refl
local_windows n (Tick now words) = changed_windows n (beating n) (λ v. reply.Round (round_peers (beating n) now words) (opening (beating n))) refl (next_of n)

-- The windows are those after the arrivals that the reply shows.
abbrev Hears : ℕ → NodeValue → Step → Type 0
Hears now n s = windows_left n s ≡ arrivals n.settings.silence now n.windows (option_map_or outcomes_in (reply_of s) [])

syn_hears : (now : ℕ) (n : NodeValue) (due : Result AckValue Fault) → Hears now n (then due (λ ack. (n, reply.Sent (message.Ack ack))))
syn_hears now n (Ok ack) = refl
syn_hears now n (Err fault) = refl

ack_hears : (now : ℕ) (n : NodeValue) (due : Result (TableValue × Ack2Value × List Outcome) Fault) → Hears now n (then due (λ x. (after_taking n now x.0 x.2, reply.Both x.2 x.1)))
ack_hears now n (Ok x) = refl
ack_hears now n (Err fault) = refl

ack2_hears : (now : ℕ) (n : NodeValue) (due : Result (TableValue × List Outcome) Fault) → Hears now n (then due (λ x. (after_taking n now x.0 x.1, reply.Took x.1)))
ack2_hears now n (Ok x) = refl
ack2_hears now n (Err fault) = refl

message_hears : (now : ℕ) (n : NodeValue) (m : Message) → Hears now n (node_step n (arrival_of now m))
message_hears now n (message.Syn syn) = syn_hears now n (answer_to_syn n.table n.settings.cluster syn)
message_hears now n (message.Ack ack) = ack_hears now n (taking_ack n.table ack)
message_hears now n (message.Ack2 ack2) = ack2_hears now n (taking_ack2 n.table ack2)

delivered_windows : (c : WorldValue) (to now : ℕ) (n m : NodeValue) → Runs c to n → (o : Option Message) → Runs (or_unchanged c (after_step c to (step_at c to now o))) to m
    → m.windows ≡ arrivals n.settings.silence now n.windows (option_map_or outcomes_in (reply_of (step_at c to now o)) [])
delivered_windows c to now n m e None r = same_windows (map.get c.nodes to) n m e r
delivered_windows c to now n m e (Some sent) r =
    handed_windows c to (arrival_of now sent) n m e (map.get c.nodes to) e r ∙ message_hears now n sent
    ∙ ap (λ o. arrivals n.settings.silence now n.windows (option_map_or outcomes_in (reply_of (step_of o (arrival_of now sent))) [])) (sym e)

-- a start that is done
started_windows : (c : WorldValue) (node generation : ℕ) (m : NodeValue) (may room : Bool) (left : Result WorldValue Fault) → left ≡ cond may (cond room (Ok (with_node c node (starting_node node generation c.settings))) (Err TableFull)) (Err NotRising)
    → IsOk left → Runs (or_unchanged c left) node m → m.windows ≡ map.empty
started_windows c node generation m true true left is ok r =
    let n : NodeValue = starting_node node generation c.settings in
    same_windows (map.get (with_node c node n).nodes node) n m (node_here c.nodes node n) (subst (λ (left : Result WorldValue Fault). Runs (or_unchanged c left) node m) is r)
started_windows c node generation m true false left is ok r = absurd cc
started_windows c node generation m false room left is ok r = absurd cc

pub nodes_hear_by_deliveries : NodesHearByDeliveries
nodes_hear_by_deliveries c = record {
  start = λ node generation m ok r. started_windows c node generation m (nat_lt (generation_held (map.get c.nodes node)) generation) (has_room c node) (acting c (Start node generation)) refl ok r;
  local = λ node change n m e r. handed_windows c node (event_of change) n m e (map.get c.nodes node) e r ∙ local_windows n change;
  delivery = λ number to now n m e r. delivered_windows c to now n m e (at_place c.sent number) r;
}

-- The laws of the nodes of a cluster.
use Rattle.std.proofs.Common.{◌≡◌, ◌⊎◌, inl, inr, ℕ, suc, ◌+◌, List, [], ◌∷◌, ◌++◌, length, refl, sym, ◌∙◌, ap, arith, append-nil, Bool, true, false, Option, Result, Ok, Err, Some, None}
use Rattle.std.specs.Prelude.{IsOk, is_some, cond, nat_lt, map as map_list}
use Rattle.std.specs.Option.{option_map, option_and_then, option_to_list}
use Rattle.std.specs.FinMap as map
use Rattle.cg_types.specs.Answer.{fault_of}
use Rattle.cg_types.specs.declared.fault.Fault.{Fault}
use Rattle.cg_types.specs.declared.fault.Fault.TheVariants.{TableFull, NotRising, NoSuchMessage, NoSuchNode}
use Rattle.cg_types.specs.Text.{ClusterValue}
use Rattle.cg_entry.specs.Values.{EntryValue}
use Rattle.cg_entry.specs.History.{at_place}
use Rattle.cg_entry.proofs.PlaceLemmas.{at_place_last}
use Rattle.cg_table.specs.Values.{Entries}
use Rattle.cg_tokens.specs.Ring.{ring}
use Rattle.cg_messages.specs.declared.message.Message.{Message}
use Rattle.cg_messages.specs.declared.message.Message.TheVariants as message
use Rattle.cg_places.specs.PlaceMessages.{PlaceMessage}
use Rattle.cg_core.specs.declared.event.Event.TheVariants as event
use Rattle.cg_core.specs.declared.reply.Reply.TheVariants as reply
use Rattle.cg_core.specs.Step.{Step, then, next_of, starting_node, beating, opening, round_peers}
use Rattle.cg_core.specs.SettingsValues.{SettingsValue}
use Rattle.cg_core.specs.Values.{NodeValue}
use Rattle.cg_places.specs.PlaceWorld.{PlaceWorld, PlaceAction, nobody, runs, after_action, after_actions}
use Rattle.cg_places.specs.Refusals.{deliver_refusal, refusal, unless_refused, done_from}
use Rattle.cg_places.specs.Spelling.{SpellsNode}
use Rattle.cg_world.specs.World.{Action, Start, Local, Opening, Deliver, WorldValue, with_node, with_sent, message_of, after_step, generation_held, has_room, event_of, reply_of, message_to, acting, or_unchanged, act, run_from, run, new_world, plain_action, place_world, step_of, step_at}
use Rattle.cg_world.specs.Terms.{Runs, AreEqual}
use Rattle.cg_world.specs.WorldLaws.{AllSent, ActionsOneByOne, MessagesAreNumbered, IsBeatAndOpening, TicksAreBeatsAndOpenings, NodesSpellPlaces, RefusalsAgree, DeliveriesFindRoom, DeliveriesAreDone, ReachedWorlds, TablesAreTheJoin, EqualSetsGiveEqualTables, EqualDigestsGiveEqualTables, MergesOfNodesAreTheJoin}
use Rattle.cg_world.specs.SingleActions.{node_acted_on}
use Rattle.cg_places.proofs.PlaceLaws.{world_is}
use Rattle.cg_places.proofs.WorldLemmas.{action_sound}
use Rattle.cg_places.proofs.OwnerLemmas.{action_knows}
use Rattle.cg_places.proofs.LimitLemmas.{action_limited}
use Rattle.cg_places.proofs.TableLaws.{tables_are_joined, equal_sources_equal_tables, equal_digests_equal_tables, merges_are_joined}
use Rattle.cg_world.proofs.SpellingLemmas.{Tied, Bounded, BothSent, both_at, node_here, node_itself, new_world_tied, nobody_bounded, entries_in}
use Rattle.cg_world.proofs.ActionLemmas.{AgreesBy, running, action_agrees}

-- ---- lists of actions

-- the actions that are done of these
abbrev pub done_by_places : PlaceWorld → List Action → List PlaceAction
done_by_places w actions = done_from w (map_list plain_action actions)

-- both are tied, and the places within bounds
pub record Joined (c : WorldValue) (w : PlaceWorld) : Type 0 where
  pub tied : Tied c w
  pub bounded : Bounded w

-- an action that is done
pub done_joined : (c : WorldValue) (w : PlaceWorld) (action : Action) (d : WorldValue) → Joined c w → AgreesBy (refusal w (plain_action action)) (after_action w (plain_action action)) (Ok d) → Joined d (after_action w (plain_action action))
done_joined c w action d j a =
    let sound = action_sound w (plain_action action) j.tied.sound in
    let knows = action_knows w (plain_action action) j.bounded.knows in
    record {
      tied = record { sound = sound; is_world = world_is (after_action w (plain_action action)) sound knows; is = a.1 };
      bounded = record { knows = knows; limits = action_limited w (plain_action action) a.0 j.bounded.limits };
    }

-- one action, and those after it
next_joined : (c : WorldValue) (w : PlaceWorld) (j : Joined c w) (action : Action) (actions : List Action) → ((d : WorldValue) (v : PlaceWorld) → Joined d v → Joined (run_from d actions) (after_actions v (done_by_places v actions)))
    → (left : Result WorldValue Fault) → AgreesBy (refusal w (plain_action action)) (after_action w (plain_action action)) left
    → Joined (run_from (or_unchanged c left) actions) (after_actions w (unless_refused (refusal w (plain_action action)) (plain_action action) (done_by_places (after_action w (plain_action action)) actions) (done_by_places w actions)))
next_joined c w j action actions rest (Ok d) a = rw a.0 (rest d (after_action w (plain_action action)) (done_joined c w action d j a))
next_joined c w j action actions rest (Err fault) a = rw a (rest c w j)

pub joined_from : (c : WorldValue) (w : PlaceWorld) (actions : List Action) → Joined c w → Joined (run_from c actions) (after_actions w (done_by_places w actions))
joined_from c w [] j = j
joined_from c w (action ∷ actions) j = next_joined c w j action actions (λ d v k. joined_from d v actions k) (acting c action) (action_agrees c w j.tied j.bounded action)

pub joined : (settings : SettingsValue) (actions : List Action) → Joined (run settings actions) (place_world actions)
joined settings actions = joined_from (new_world settings) nobody actions (record { tied = new_world_tied settings; bounded = nobody_bounded })

-- ---- nodes and messages of joined worlds

as_many : (cluster : ClusterValue) (histories : ℕ → List EntryValue) (ms : List Message) (more : List PlaceMessage) → AllSent cluster histories ms more → length ms ≡ length more
as_many cluster histories [] [] a = refl
as_many cluster histories [] (said ∷ more) a = absurd a
as_many cluster histories (m ∷ ms) [] a = absurd a
as_many cluster histories (m ∷ ms) (said ∷ more) a = omega (arith, as_many cluster histories ms more a.1)

pub same_number_sent : {c : WorldValue} {w : PlaceWorld} → Joined c w → length c.sent ≡ length w.sent
same_number_sent {c} {w} j = as_many c.settings.cluster w.histories c.sent w.sent j.tied.is.messages

found : (o : Option NodeValue) → is_some o ≡ true → (n : NodeValue) × (o ≡ Some n)
found None e = absurd cc
found (Some n) e = (n, refl)

-- a node that runs by places
pub running_node : (c : WorldValue) (w : PlaceWorld) → Joined c w → (node : ℕ) → runs w node ≡ true → (n : NodeValue) × Runs c node n
running_node c w j node e = found (map.get c.nodes node) (running c w j.tied node ∙ e)

-- ---- the laws

pub run_on : (c : WorldValue) (actions : List Action) (action : Action) → run_from c (actions ++ action ∷ []) ≡ act (run_from c actions) action
run_on c [] action = refl
run_on c (first ∷ actions) action = run_on (act c first) actions action

pub actions_one_by_one : ActionsOneByOne
actions_one_by_one settings actions action = run_on (new_world settings) actions action

-- the messages sent after a step
sent_by : (c : WorldValue) (node : ℕ) (n : NodeValue) (o : Option Message) → (with_sent (with_node c node n) o).sent ≡ c.sent ++ option_to_list o
sent_by c node n None = sym (append-nil c.sent)
sent_by c node n (Some m) = refl

-- The world that an action leaves: unchanged, and then nothing is sent, or with its node made anew and its message
-- sent.
pub data LeftBy (c : WorldValue) (node : ℕ) (sent : Option Message) (d : WorldValue) : Type 0 where
  AsItWas : d ≡ c → sent ≡ None → LeftBy c node sent d
  MadeAnew : (n : NodeValue) → d ≡ with_sent (with_node c node n) sent → LeftBy c node sent d

stepped_leaves : (c : WorldValue) (node : ℕ) (s : Step) → LeftBy c node (option_and_then message_of (reply_of s)) (or_unchanged c (after_step c node s))
stepped_leaves c node (Ok x) = MadeAnew x.0 refl
stepped_leaves c node (Err fault) = AsItWas refl refl

started_leaves : (c : WorldValue) (node generation : ℕ) (may room : Bool)
    → LeftBy c node None (or_unchanged c (cond may (cond room (Ok (with_node c node (starting_node node generation c.settings))) (Err TableFull)) (Err NotRising)))
started_leaves c node generation true true = MadeAnew (starting_node node generation c.settings) refl
started_leaves c node generation true false = AsItWas refl refl
started_leaves c node generation false room = AsItWas refl refl

pub left_by : (c : WorldValue) (action : Action) → LeftBy c (node_acted_on action) (message_to c action) (act c action)
left_by c (Start node generation) = started_leaves c node generation (nat_lt (generation_held (map.get c.nodes node)) generation) (has_room c node)
left_by c (Local node change) = stepped_leaves c node (step_of (map.get c.nodes node) (event_of change))
left_by c (Deliver number to now) = stepped_leaves c to (step_at c to now (at_place c.sent number))

sent_left : (c : WorldValue) (node : ℕ) (o : Option Message) (d : WorldValue) → LeftBy c node o d → d.sent ≡ c.sent ++ option_to_list o
sent_left c node o d (AsItWas same none) = ap (λ (d : WorldValue). d.sent) same ∙ sym (append-nil c.sent) ∙ ap (λ (o : Option Message). c.sent ++ option_to_list o) (sym none)
sent_left c node o d (MadeAnew n is) = ap (λ (d : WorldValue). d.sent) is ∙ sent_by c node n o

all_sent : (c : WorldValue) (action : Action) → (act c action).sent ≡ c.sent ++ option_to_list (message_to c action)
all_sent c action = sent_left c (node_acted_on action) (message_to c action) (act c action) (left_by c action)

-- the message that is added is at the number after the last one
last_number : (ms : List Message) (o : Option Message) → option_and_then (at_place (ms ++ option_to_list o)) (option_map (λ m. length ms + 1) o) ≡ o
last_number ms None = refl
last_number ms (Some m) = let last : length ms + 1 ≡ suc (length ms) = omega arith in rw last (at_place_last ms m)

pub messages_are_numbered : MessagesAreNumbered
messages_are_numbered c action = record {
  sent = all_sent c action;
  numbered = rw (all_sent c action) (last_number c.sent (message_to c action));
}

-- ---- ticks

-- after a beat the opening is done, and sends what the tick does
opened_after : (c : WorldValue) (node : ℕ) (n : NodeValue) → acting (with_node c node n) (Local node Opening) ≡ Ok (with_sent (with_node c node n) (Some (message.Syn (opening n))))
opened_after c node n =
    let here : map.get (with_node c node n).nodes node ≡ Some n = node_here c.nodes node n in
    rw here (ap (λ (d : WorldValue). Ok (with_sent d (Some (message.Syn (opening n))))) (node_itself (with_node c node n) node n here))

ticked_by : (c : WorldValue) (node now : ℕ) (words : List ℕ) (o : Option NodeValue) → IsBeatAndOpening node (after_step c node (step_of o event.Beat)) (after_step c node (step_of o (event.Tick now words)))
ticked_by c node now words None = record { refused = refl; done = λ d e. absurd cc }
ticked_by c node now words (Some n) = due_by (next_of n)
  where
    due_by : (due : Result ℕ Fault) → IsBeatAndOpening node (after_step c node (then due (λ v. (beating n, reply.Done v))))
        (after_step c node (then due (λ v. (beating n, reply.Round (round_peers (beating n) now words) (opening (beating n))))))
    due_by (Ok v) = record { refused = refl; done = λ d e. let same : with_node c node (beating n) ≡ d = cc in sym (opened_after c node (beating n)) ∙ ap (λ (d : WorldValue). acting d (Local node Opening)) same }
    due_by (Err fault) = record { refused = refl; done = λ d e. absurd cc }

pub ticks_are_beats_and_openings : TicksAreBeatsAndOpenings
ticks_are_beats_and_openings c node now words = ticked_by c node now words (map.get c.nodes node)

pub nodes_spell_places : NodesSpellPlaces
nodes_spell_places settings actions = (joined settings actions).tied.is

same_refusal : (due : Option Fault) (v : PlaceWorld) (left : Result WorldValue Fault) → AgreesBy due v left → fault_of left ≡ due
same_refusal due v (Ok d) a = sym a.0
same_refusal due v (Err fault) a = sym a

pub refusals_agree : RefusalsAgree
refusals_agree settings actions action =
    let j : Joined (run settings actions) (place_world actions) = joined settings actions in
    same_refusal (refusal (place_world actions) (plain_action action)) (after_action (place_world actions) (plain_action action)) (acting (run settings actions) action) (action_agrees (run settings actions) (place_world actions) j.tied j.bounded action)

runs_or_not : (b : Bool) (fault : Fault) → cond b None (Some NoSuchNode) ≡ Some fault → fault ≡ NoSuchNode
runs_or_not true fault e = absurd cc
runs_or_not false fault e = cc

refused_by : (w : PlaceWorld) (to : ℕ) (o : Option PlaceMessage) (fault : Fault) → deliver_refusal w to o ≡ Some fault → (fault ≡ NoSuchMessage) ⊎ (fault ≡ NoSuchNode)
refused_by w to None fault e = inl cc
refused_by w to (Some message) fault e = inr (runs_or_not (runs w to) fault e)

pub deliveries_find_room : DeliveriesFindRoom
deliveries_find_room settings actions number to now fault e =
    refused_by (place_world actions) to (at_place (place_world actions).sent number) fault (sym (refusals_agree settings actions (Deliver number to now)) ∙ ap fault_of e)

-- an action that is not refused is done
done_by : (left : Result WorldValue Fault) → fault_of left ≡ None → IsOk left
done_by (Ok d) e = refl
done_by (Err fault) e = absurd cc

-- a message was sent by places if one was sent
sent_refusal : (cluster : ClusterValue) (w : PlaceWorld) (to : ℕ) (o : Option Message) (said : Option PlaceMessage) → BothSent cluster w.histories o said → is_some o ≡ true → runs w to ≡ true → deliver_refusal w to said ≡ None
sent_refusal cluster w to None said both some e = absurd cc
sent_refusal cluster w to (Some m) None both some e = absurd both
sent_refusal cluster w to (Some m) (Some said) both some e = rw e refl

pub deliveries_are_done : DeliveriesAreDone
deliveries_are_done settings actions number to now some there =
    let c : WorldValue = run settings actions in
    let w : PlaceWorld = place_world actions in
    let j : Joined c w = joined settings actions in
    done_by (acting c (Deliver number to now)) (refusals_agree settings actions (Deliver number to now)
    ∙ sent_refusal c.settings.cluster w to (at_place c.sent number) (at_place w.sent number) (both_at c.settings.cluster w.histories c.sent w.sent j.tied.is.messages number) some (sym (running c w j.tied to) ∙ there))

-- ---- worlds that are reached

sent_settings : (c : WorldValue) (node : ℕ) (n : NodeValue) (o : Option Message) → (with_sent (with_node c node n) o).settings ≡ c.settings
sent_settings c node n None = refl
sent_settings c node n (Some m) = refl

settings_left : (c : WorldValue) (node : ℕ) (o : Option Message) (d : WorldValue) → LeftBy c node o d → d.settings ≡ c.settings
settings_left c node o d (AsItWas same none) = ap (λ (d : WorldValue). d.settings) same
settings_left c node o d (MadeAnew n is) = ap (λ (d : WorldValue). d.settings) is ∙ sent_settings c node n o

pub same_settings : (c : WorldValue) (action : Action) → (act c action).settings ≡ c.settings
same_settings c action = settings_left c (node_acted_on action) (message_to c action) (act c action) (left_by c action)

pub reached_worlds : ReachedWorlds
reached_worlds = record {
  begin = λ settings. record { actions = []; is = refl };
  go_on = λ c action r. record {
    actions = r.actions ++ action ∷ [];
    is = ap (λ (d : WorldValue). act d action) r.is ∙ sym (actions_one_by_one c.settings r.actions action) ∙ ap (λ settings. run settings (r.actions ++ action ∷ [])) (sym (same_settings c action));
  };
}

-- a node's table spells its places
pub spelled : (settings : SettingsValue) (actions : List Action) (node : ℕ) (n : NodeValue) → Runs (run settings actions) node n → SpellsNode (place_world actions) node n.table.entries
spelled settings actions node n e = (nodes_spell_places settings actions).tables.spelled node n.table.entries (ap (option_map entries_in) e)

pub tables_are_the_join : TablesAreTheJoin
tables_are_the_join settings actions node n e = tables_are_joined (done_by_places nobody actions) node n.table.entries (spelled settings actions node n e)

are_equal : (one other : Entries) → (one ≡ other) × (ring one ≡ ring other) → AreEqual one other
are_equal one other e = record { entries = e.0; rings = e.1 }

pub equal_sets_give_equal_tables : EqualSetsGiveEqualTables
equal_sets_give_equal_tables settings actions a b one other ra rb same =
    are_equal one.table.entries other.table.entries
    (equal_sources_equal_tables (done_by_places nobody actions) a b one.table.entries other.table.entries (spelled settings actions a one ra) (spelled settings actions b other rb) same)

pub equal_digests_give_equal_tables : EqualDigestsGiveEqualTables
equal_digests_give_equal_tables settings actions a b one other ra rb same =
    are_equal one.table.entries other.table.entries
    (equal_digests_equal_tables (done_by_places nobody actions) a b one.table.entries other.table.entries (spelled settings actions a one ra) (spelled settings actions b other rb) same)

pub merges_of_nodes_are_the_join : MergesOfNodesAreTheJoin
merges_of_nodes_are_the_join settings actions a b c one two three ra rb rc =
    merges_are_joined (done_by_places nobody actions) a b c one.table.entries two.table.entries three.table.entries (spelled settings actions a one ra) (spelled settings actions b two rb) (spelled settings actions c three rc)

-- The spans that a node took are those that the outcomes in its replies report.
use Rattle.std.proofs.Common.{◌≡◌, ◌≢◌, ◌==◌, ℕ, Bool, false, length, nat_lt, List, [], ◌∷◌, ◌++◌, refl, sym, ◌∙◌, ap, subst, true, Option, Some, None, Result, Ok, Err}
use Rattle.std.specs.Prelude.{cond, IsOk}
use Rattle.std.specs.Option.{option_map}
use Rattle.std.specs.FinMap as map
use Rattle.cg_types.specs.Answer.{fault_of}
use Rattle.cg_types.specs.declared.fault.Fault.{Fault}
use Rattle.cg_types.specs.declared.fault.Fault.TheVariants.{TableFull, NotRising}
use Rattle.cg_types.specs.declared.limits.TheConstants.{MEMBER_LIMIT}
use Rattle.cg_types.specs.Rising.{Rises}
use Rattle.cg_entry.specs.Values.{EntryValue}
use Rattle.cg_entry.specs.Entry.{entry_after_beat, with_state}
use Rattle.cg_entry.specs.History.{at_place}
use Rattle.cg_entry.specs.Place.{Span}
use Rattle.cg_table.specs.Values.{TableValue}
use Rattle.cg_messages.specs.declared.message.Message.{Message}
use Rattle.cg_messages.specs.declared.message.Message.TheVariants as kinds
use Rattle.cg_messages.specs.declared.outcome.Outcome.{Outcome}
use Rattle.cg_messages.specs.Values.{SynValue, AckValue, Ack2Value}
use Rattle.cg_messages.specs.Members.{endpoints_of_deltas, endpoints_of_outcomes}
use Rattle.cg_exchange.specs.Taking.{table_after, outcomes_of, deltas_granted}
use Rattle.cg_places.specs.Places.{Ask, took_for}
use Rattle.cg_places.specs.PlaceMessages.{PlaceMessage, Syn, Ack, Ack2}
use Rattle.cg_places.specs.MessageSpelling.{SpellsSpans, outcome_about}
use Rattle.cg_places.specs.MessageLaws.{IsMoved}
use Rattle.cg_exchange.proofs.TakingLemmas.{outcomes_about, outcomes_rise}
use Rattle.cg_core.specs.declared.event.Event.TheVariants as event
use Rattle.cg_core.specs.declared.reply.Reply.{Reply}
use Rattle.cg_core.specs.declared.reply.Reply.TheVariants as reply
use Rattle.cg_core.specs.Step.{then, node_step}
use Rattle.cg_core.specs.SettingsValues.{SettingsValue}
use Rattle.cg_core.specs.Values.{NodeValue}
use Rattle.cg_exchange.specs.Answering.{answer_to_syn}
use Rattle.cg_places.specs.PlaceWorld.{PlaceWorld, nobody, runs, with_start, with_entry, with_message, with_spans, taken_with, may_start, last_entry, after_change, removable, after_receipt, after_delivery, after_action, after_actions}
use Rattle.cg_places.specs.PlaceWorld as places
use Rattle.cg_places.specs.Refusals.{start_refusal, refusal, unless_refused}
use Rattle.cg_world.specs.World.{LocalEvent, Beat, Set, Remove, Opening, Tick, Action, Start, Local, Deliver, WorldValue, arrival_of, reply_of, step_of, step_at, reply_to, acting, run, plain_action, place_world}
use Rattle.cg_places.specs.Step.{IsSent}
use Rattle.cg_world.specs.SingleActions.{outcomes_in}
use Rattle.cg_world.specs.Terms.{deltas_in}
use Rattle.cg_world.specs.Taken.{spans_in, with_outcome, taker, AreCounted, OutcomesTellWhatIsTaken}
use Rattle.cg_places.proofs.PutLemmas.{put_at_here, put_at_other}
use Rattle.cg_world.proofs.SpellingLemmas.{Tied, Bounded, BothSent, both_at}
use Rattle.cg_world.proofs.ActionLemmas.{runs_here, at_node, ack_fits, ack_moves, ack2_fits, ack2_moves}
use Rattle.cg_world.proofs.WorldLaws.{done_by_places, Joined, joined, refusals_agree}

-- ---- one message

-- the outcome of a span about an owner, at the places of a node
abbrev pub outcome_at : PlaceWorld → ℕ → ℕ → Option Span → Option Outcome
outcome_at w node owner o = option_map (λ span. record { endpoint = owner; took = took_for (owner == node) (w.places node owner) span }) o

counted_so : (w : PlaceWorld) (node owner : ℕ) (o : Option Span) → taken_with (owner == node) (w.places node owner) (w.taken node owner) o ≡ with_outcome (w.taken node owner) (outcome_at w node owner o) o
counted_so w node owner None = refl
counted_so w node owner (Some span) = refl

pub spans_counted : (w : PlaceWorld) (node : ℕ) (spans : ℕ → Option Span) (outcomes : List Outcome) → ((owner : ℕ) → outcome_about owner outcomes ≡ outcome_at w node owner (spans owner))
    → (owner : ℕ) → (with_spans w node spans).taken node owner ≡ with_outcome (w.taken node owner) (outcome_about owner outcomes) (spans owner)
unfolding with_spans
spans_counted w node spans outcomes each owner =
    ap (λ (row : ℕ → List Span). row owner) (put_at_here w.taken node (λ owner. taken_with (owner == node) (w.places node owner) (w.taken node owner) (spans owner)))
    ∙ rw (each owner) (counted_so w node owner (spans owner))

pub message_takes_nothing : (w : PlaceWorld) (said : PlaceMessage) (node owner : ℕ) → (with_message w said).taken node owner ≡ w.taken node owner
unfolding with_message
message_takes_nothing w said node owner = refl

-- the changes by a message that is taken
record AreCountedBy (w v : PlaceWorld) (node : ℕ) (m : Message) (said : PlaceMessage) (outcomes : List Outcome) : Type 0 where
  spelled : SpellsSpans w.histories (deltas_in m) (spans_in said)
  in_order : endpoints_of_outcomes outcomes ≡ endpoints_of_deltas (deltas_in m)
  rise : Rises (endpoints_of_outcomes outcomes)
  each : (owner : ℕ) → outcome_about owner outcomes ≡ outcome_at w node owner (spans_in said owner)
  taken : (owner : ℕ) → v.taken node owner ≡ with_outcome (w.taken node owner) (outcome_about owner outcomes) (spans_in said owner)

module _ (c : WorldValue) (w : PlaceWorld) (t : Tied c w) (b : Bounded w) (node : ℕ) (n : NodeValue) (e : map.get c.nodes node ≡ Some n) where
  each_here : (spans : ℕ → Option Span) (after : TableValue) (outcomes : List Outcome) → IsMoved w.histories n.table (w.places node) spans after outcomes
      → (owner : ℕ) → outcome_about owner outcomes ≡ outcome_at w node owner (spans owner)
  each_here spans after outcomes moved owner =
      subst (λ (k : ℕ). outcome_about owner outcomes ≡ option_map (λ span. record { endpoint = owner; took = took_for (owner == k) (w.places node owner) span }) (spans owner)) (at_node c w t node n e).its_endpoint
      (moved.outcomes_about owner)

  -- the outcomes of an expected reply
  counted_as : (v : PlaceWorld) (m : Message) (said : PlaceMessage) (due : Reply) (left : Option Reply) → left ≡ Some due → AreCountedBy w v node m said (outcomes_in due) → (answer : Reply) → left ≡ Some answer
      → AreCountedBy w v node m said (outcomes_in answer)
  counted_as v m said due left is counts answer e = let same : due ≡ answer = cc in subst (λ r. AreCountedBy w v node m said (outcomes_in r)) same counts

  ack_counted : (now : ℕ) (ack : AckValue) (asks : ℕ → Option Ask) (spans : ℕ → Option Span) → IsSent c.settings.cluster w.histories (kinds.Ack ack) (Ack asks spans) → (answer : Reply)
      → reply_of (node_step n (event.Ack now ack)) ≡ Some answer → AreCountedBy w (after_receipt w node (Ack asks spans)) node (kinds.Ack ack) (Ack asks spans) (outcomes_in answer)
  ack_counted now ack asks spans s =
      let outcomes : List Outcome = outcomes_of n.table ack.deltas in
      let each : (owner : ℕ) → outcome_about owner outcomes ≡ outcome_at w node owner (spans owner) = each_here spans (table_after n.table ack.deltas) outcomes (ack_moves c w t b node n e ack asks spans s).moved in
      counted_as (after_receipt w node (Ack asks spans)) (kinds.Ack ack) (Ack asks spans) (reply.Both outcomes (record { deltas = deltas_granted (table_after n.table ack.deltas).entries ack.requests }))
      (reply_of (node_step n (event.Ack now ack))) (rw (ack_fits c w t b node n e ack asks spans s) refl)
      (record {
        spelled = record { at = s.says.spells.deltas.at };
        in_order = outcomes_about n.table ack.deltas;
        rise = outcomes_rise n.table ack.deltas s.says.spells.deltas_rise;
        each = each;
        taken = λ owner. message_takes_nothing (with_spans w node spans) _ node owner ∙ spans_counted w node spans outcomes each owner;
      })

  ack2_counted : (now : ℕ) (ack2 : Ack2Value) (spans : ℕ → Option Span) → IsSent c.settings.cluster w.histories (kinds.Ack2 ack2) (Ack2 spans) → (answer : Reply)
      → reply_of (node_step n (event.Ack2 now ack2)) ≡ Some answer → AreCountedBy w (after_receipt w node (Ack2 spans)) node (kinds.Ack2 ack2) (Ack2 spans) (outcomes_in answer)
  ack2_counted now ack2 spans s =
      let outcomes : List Outcome = outcomes_of n.table ack2.deltas in
      let each : (owner : ℕ) → outcome_about owner outcomes ≡ outcome_at w node owner (spans owner) = each_here spans (table_after n.table ack2.deltas) outcomes (ack2_moves c w t b node n e ack2 spans s) in
      counted_as (after_receipt w node (Ack2 spans)) (kinds.Ack2 ack2) (Ack2 spans) (reply.Took outcomes) (reply_of (node_step n (event.Ack2 now ack2))) (rw (ack2_fits c w t b node n e ack2 spans s) refl)
      (record {
        spelled = record { at = s.says.spells.deltas.at };
        in_order = outcomes_about n.table ack2.deltas;
        rise = outcomes_rise n.table ack2.deltas s.says.spells.rise;
        each = each;
        taken = λ owner. spans_counted w node spans outcomes each owner;
      })

  -- a SYN has no deltas
  syn_counted : (syn : SynValue) (theirs : ℕ → ℕ) (due : Result AckValue Fault) (answer : Reply) → reply_of (then due (λ ack. (n, reply.Sent (kinds.Ack ack)))) ≡ Some answer
      → AreCountedBy w (after_receipt w node (Syn theirs)) node (kinds.Syn syn) (Syn theirs) (outcomes_in answer)
  syn_counted syn theirs (Ok ack) answer is =
      counted_as (after_receipt w node (Syn theirs)) (kinds.Syn syn) (Syn theirs) (reply.Sent (kinds.Ack ack)) _ refl
      (record { spelled = record { at = λ owner. refl }; in_order = refl; rise = refl; each = λ owner. refl; taken = λ owner. message_takes_nothing w _ node owner }) answer is
  syn_counted syn theirs (Err fault) answer is = absurd cc

  message_counted : (now : ℕ) (m : Message) (said : PlaceMessage) → IsSent c.settings.cluster w.histories m said → (answer : Reply)
      → reply_of (node_step n (arrival_of now m)) ≡ Some answer → AreCountedBy w (after_receipt w node said) node m said (outcomes_in answer)
  message_counted now (kinds.Syn syn) (Syn theirs) s answer is = syn_counted syn theirs (answer_to_syn n.table n.settings.cluster syn) answer is
  message_counted now (kinds.Ack ack) (Ack asks spans) s answer is = ack_counted now ack asks spans s answer is
  message_counted now (kinds.Ack2 ack2) (Ack2 spans) s answer is = ack2_counted now ack2 spans s answer is
  message_counted now (kinds.Syn syn) (Ack asks spans) s answer is = absurd s.says.spells
  message_counted now (kinds.Syn syn) (Ack2 spans) s answer is = absurd s.says.spells
  message_counted now (kinds.Ack ack) (Syn places) s answer is = absurd s.says.spells
  message_counted now (kinds.Ack ack) (Ack2 spans) s answer is = absurd s.says.spells
  message_counted now (kinds.Ack2 ack2) (Syn places) s answer is = absurd s.says.spells
  message_counted now (kinds.Ack2 ack2) (Ack asks spans) s answer is = absurd s.says.spells

-- ---- one more action

-- more actions are done, or not, after all others
pub all_more : (w : PlaceWorld) (actions more : List Action) → after_actions w (done_by_places w (actions ++ more)) ≡ after_actions (after_actions w (done_by_places w actions)) (done_by_places (after_actions w (done_by_places w actions)) more)
all_more w [] more = refl
all_more w (first ∷ actions) more = go (refusal w (plain_action first)) (λ v. all_more v actions more)
  where
    go : (due : Option Fault) → ((v : PlaceWorld) → after_actions v (done_by_places v (actions ++ more)) ≡ after_actions (after_actions v (done_by_places v actions)) (done_by_places (after_actions v (done_by_places v actions)) more))
        → after_actions w (unless_refused due (plain_action first) (done_by_places (after_action w (plain_action first)) (actions ++ more)) (done_by_places w (actions ++ more)))
        ≡ after_actions (after_actions w (unless_refused due (plain_action first) (done_by_places (after_action w (plain_action first)) actions) (done_by_places w actions)))
        (done_by_places (after_actions w (unless_refused due (plain_action first) (done_by_places (after_action w (plain_action first)) actions) (done_by_places w actions))) more)
    go None rest = rest (after_action w (plain_action first))
    go (Some fault) rest = rest w

one_more : (w : PlaceWorld) (actions : List Action) (action : Action)
    → after_actions w (done_by_places w (actions ++ action ∷ [])) ≡ after_actions (after_actions w (done_by_places w actions)) (done_by_places (after_actions w (done_by_places w actions)) (action ∷ []))
one_more w actions action = all_more w actions (action ∷ [])

-- ---- nodes that an action leaves unchanged

changed_takes_nothing : (w : PlaceWorld) (node : ℕ) (change : EntryValue → EntryValue) (o : Option EntryValue) → (after_change w node change o).taken ≡ w.taken
unfolding with_entry
changed_takes_nothing w node change None = refl
changed_takes_nothing w node change (Some entry) = refl

opened_takes_nothing : (w : PlaceWorld) (node : ℕ) (there : Bool) → (cond there (with_message w (Syn (w.places node))) w).taken ≡ w.taken
unfolding with_message
opened_takes_nothing w node true = refl
opened_takes_nothing w node false = refl

pub local_takes_nothing : (w : PlaceWorld) (node : ℕ) (change : LocalEvent) → (after_action w (plain_action (Local node change))).taken ≡ w.taken
unfolding after_action
local_takes_nothing w node Beat = changed_takes_nothing w node entry_after_beat (last_entry (w.histories node))
local_takes_nothing w node (Set key text) = changed_takes_nothing w node (with_state key (Some text)) (last_entry (w.histories node))
local_takes_nothing w node (Remove key) = changed_takes_nothing w node (with_state key None) (removable key (last_entry (w.histories node)))
local_takes_nothing w node Opening = opened_takes_nothing w node (runs w node)
local_takes_nothing w node (Tick now words) =
    let v : PlaceWorld = after_change w node entry_after_beat (last_entry (w.histories node)) in
    opened_takes_nothing v node (runs v node) ∙ changed_takes_nothing w node entry_after_beat (last_entry (w.histories node))

pub start_forgets : (w : PlaceWorld) (node generation owner : ℕ) → (with_start w node generation).taken node owner ≡ []
unfolding with_start
start_forgets w node generation owner = ap (λ (row : ℕ → List Span). row owner) (put_at_here w.taken node (λ owner. []))

pub start_leaves : (w : PlaceWorld) (node generation other : ℕ) (may : Bool) → other ≢ node → (cond may (with_start w node generation) w).taken other ≡ w.taken other
unfolding with_start
start_leaves w node generation other true apart = put_at_other w.taken node (λ owner. []) other apart
start_leaves w node generation other false apart = refl

spans_leave : (w : PlaceWorld) (node : ℕ) (spans : ℕ → Option Span) (other : ℕ) → other ≢ node → (with_spans w node spans).taken other ≡ w.taken other
unfolding with_spans
spans_leave w node spans other apart = put_at_other w.taken node (λ owner. taken_with (owner == node) (w.places node owner) (w.taken node owner) (spans owner)) other apart

received_leaves : (w : PlaceWorld) (node : ℕ) (said : PlaceMessage) (other : ℕ) → other ≢ node → (after_receipt w node said).taken other ≡ w.taken other
unfolding with_message
received_leaves w node (Syn theirs) other apart = refl
received_leaves w node (Ack asks spans) other apart = spans_leave w node spans other apart
received_leaves w node (Ack2 spans) other apart = spans_leave w node spans other apart

delivered_leaves : (w : PlaceWorld) (node : ℕ) (said : Option PlaceMessage) (there : Bool) → runs w node ≡ there → (other : ℕ) → other ≢ node → (after_delivery w node said).taken other ≡ w.taken other
delivered_leaves w node None there is other apart = refl
delivered_leaves w node (Some said) true is other apart = rw is (received_leaves w node said other apart)
delivered_leaves w node (Some said) false is other apart = rw is refl

pub action_leaves : (w : PlaceWorld) (action : Action) (other : ℕ) → taker action ≢ Some other → (after_action w (plain_action action)).taken other ≡ w.taken other
unfolding after_action
action_leaves w (Start node generation) other apart = start_leaves w node generation other (may_start w node generation) (λ e. apart (ap Some (sym e)))
action_leaves w (Local node change) other apart = ap (λ (taken : ℕ → ℕ → List Span). taken other) (local_takes_nothing w node change)
action_leaves w (Deliver number to now) other apart = delivered_leaves w to (at_place w.sent number) (runs w to) refl other (λ e. apart (ap Some (sym e)))

-- ---- the law

module _ (settings : SettingsValue) (actions : List Action) (number to now : ℕ) (answer : Reply) where
  abbrev c : WorldValue
  c = run settings actions

  abbrev w : PlaceWorld
  w = place_world actions

  j : Joined c w
  j = joined settings actions

  -- the world by places after the delivery
  world_after : (said : PlaceMessage) → at_place w.sent number ≡ Some said → runs w to ≡ true → place_world (actions ++ Deliver number to now ∷ []) ≡ after_receipt w to said
  unfolding after_action
  world_after said is there = one_more nobody actions (Deliver number to now) ∙ rw is (rw there (rw is (rw there refl)))

  delivery_counted : (o : Option Message) (p : Option PlaceMessage) → at_place c.sent number ≡ o → at_place w.sent number ≡ p → BothSent c.settings.cluster w.histories o p
      → (held : Option NodeValue) → map.get c.nodes to ≡ held → reply_of (step_at c to now o) ≡ Some answer → AreCounted c w (place_world (actions ++ Deliver number to now ∷ [])) number to (outcomes_in answer)
  delivery_counted None p om pm both held e is = absurd cc
  delivery_counted (Some m) None om pm both held e is = absurd both
  delivery_counted (Some m) (Some said) om pm both None e is = absurd (let none = e in cc)
  delivery_counted (Some m) (Some said) om pm both (Some n) e is =
      let replied : reply_of (node_step n (arrival_of now m)) ≡ Some answer = ap (λ held. reply_of (step_of held (arrival_of now m))) (sym e) ∙ is in
      let counts : AreCountedBy w (after_receipt w to said) to m said (outcomes_in answer) = message_counted c w j.tied j.bounded to n e now m said both answer replied in
      let after : place_world (actions ++ Deliver number to now ∷ []) ≡ after_receipt w to said = world_after said pm (runs_here c w j.tied to n e) in
      record {
        message = m;
        is_message = om;
        said = said;
        is_said = pm;
        spelled = counts.spelled;
        in_order = counts.in_order;
        rise = counts.rise;
        each = counts.each;
        taken = λ owner. ap (λ (v : PlaceWorld). v.taken to owner) after ∙ counts.taken owner;
      }

-- an action that is done is not refused
pub no_fault : (left : Result WorldValue Fault) → IsOk left → fault_of left ≡ None
no_fault (Ok d) ok = refl
no_fault (Err fault) ok = absurd cc

-- a start that is not refused has a generation that rises
pub started_by : (w : PlaceWorld) (node generation : ℕ) (may : Bool) → may_start w node generation ≡ may → start_refusal w node generation ≡ None → may ≡ true
started_by w node generation true is free = refl
started_by w node generation false is free = let some : Some NotRising ≡ None = subst (λ b. cond b (cond (runs w node) None (cond (nat_lt (length w.owners) MEMBER_LIMIT) None (Some TableFull))) (Some NotRising) ≡ None) is free in absurd cc

module _ (settings : SettingsValue) (actions : List Action) where
  abbrev d : WorldValue
  d = run settings actions

  abbrev v : PlaceWorld
  v = place_world actions

  delivery_told : (number to now : ℕ) (answer : Reply) → reply_to d (Deliver number to now) ≡ Some answer → AreCounted d v (place_world (actions ++ Deliver number to now ∷ [])) number to (outcomes_in answer)
  delivery_told number to now answer is =
      delivery_counted settings actions number to now answer (at_place d.sent number) (at_place v.sent number) refl refl
      (both_at d.settings.cluster v.histories d.sent v.sent (joined settings actions).tied.is.messages number) (map.get d.nodes to) refl is

  -- the places after a refused action, and after one that is not
  after_refusal : (action : Action) (fault : Fault) → refusal v (plain_action action) ≡ Some fault → place_world (actions ++ action ∷ []) ≡ v
  after_refusal action fault due = one_more nobody actions action ∙ rw due refl

  pub after_done : (action : Action) → refusal v (plain_action action) ≡ None → place_world (actions ++ action ∷ []) ≡ after_action v (plain_action action)
  after_done action free = one_more nobody actions action ∙ rw free refl

  start_told : (node generation owner : ℕ) → IsOk (acting d (Start node generation)) → (place_world (actions ++ Start node generation ∷ [])).taken node owner ≡ []
  unfolding after_action
  start_told node generation owner ok =
      let free : refusal v (places.Start node generation) ≡ None = sym (refusals_agree settings actions (Start node generation)) ∙ no_fault (acting d (Start node generation)) ok in
      let may : may_start v node generation ≡ true = started_by v node generation (may_start v node generation) refl free in
      ap (λ (w : PlaceWorld). w.taken node owner) (after_done (Start node generation) free) ∙ rw may (start_forgets v node generation owner)

  others_told : (action : Action) (node owner : ℕ) → taker action ≢ Some node → (place_world (actions ++ action ∷ [])).taken node owner ≡ v.taken node owner
  others_told action node owner apart = go (refusal v (plain_action action)) refl
    where
      go : (due : Option Fault) → refusal v (plain_action action) ≡ due → (place_world (actions ++ action ∷ [])).taken node owner ≡ v.taken node owner
      go None free = ap (λ (w : PlaceWorld). w.taken node owner) (after_done action free) ∙ ap (λ (row : ℕ → List Span). row owner) (action_leaves v action node apart)
      go (Some fault) due = ap (λ (w : PlaceWorld). w.taken node owner) (after_refusal action fault due)

pub outcomes_tell_what_is_taken : OutcomesTellWhatIsTaken
outcomes_tell_what_is_taken settings actions = record {
  deliveries = delivery_told settings actions;
  starts = start_told settings actions;
  others = others_told settings actions;
  refused = λ action fault e. after_refusal settings actions action fault (sym (refusals_agree settings actions action) ∙ ap fault_of e);
}

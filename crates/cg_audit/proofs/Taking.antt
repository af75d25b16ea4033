-- The deltas that a step of a node takes, by marks.
use Rattle.std.proofs.Common.{arith, ◌≡◌, ◌≢◌, ℕ, List, [], ◌∷◌, ◌++◌, refl, sym, ◌∙◌, ap, subst, Option, Some, None, true}
use Rattle.std.specs.Prelude.{◌==◌, ◌↔◌, IsTrue, ◌<◌, ◌≤◌, length}
use Rattle.std.specs.FinMap as map
use Rattle.std.specs.Option.{option_map, option_and_then}
use Rattle.cg_entry.specs.Values.{EntryValue}
use Rattle.cg_entry.specs.History.{IsHistory, at_place}
use Rattle.cg_entry.specs.Place.{Span, IsSpan}
use Rattle.cg_entry.specs.Spelling.{delta_of}
use Rattle.cg_entry.specs.declared.took.Took.{Took}
use Rattle.cg_entry.specs.declared.took.Took.TheVariants as took
use Rattle.cg_messages.specs.declared.message.Message.{Message}
use Rattle.cg_messages.specs.declared.message.Message.TheVariants as kinds
use Rattle.cg_messages.specs.declared.outcome.Outcome.{Outcome}
use Rattle.cg_messages.specs.declared.owner_delta.OwnerDelta.{OwnerDelta}
use Rattle.cg_messages.specs.Members.{about}
use Rattle.cg_places.specs.Places.{took_for}
use Rattle.cg_places.specs.PlaceMessages.{PlaceMessage, Syn, Ack, Ack2, AreSpans}
use Rattle.cg_places.specs.MessageSpelling.{SpellsSpans, delta_about, outcome_about}
use Rattle.cg_places.specs.MessageLaws.{Says}
use Rattle.cg_core.specs.declared.event.Event.{Event}
use Rattle.cg_core.specs.declared.event.Event.TheVariants as event
use Rattle.cg_core.specs.declared.reply.Reply.{Reply}
use Rattle.cg_core.specs.Replies.{outcomes_in}
use Rattle.cg_core.specs.Values.{NodeValue}
use Rattle.cg_places.specs.PlaceWorld.{PlaceWorld, with_spans, after_receipt, after_action}
use Rattle.cg_places.specs.Laws.{Continues}
use Rattle.cg_places.proofs.PutLemmas.{same_number}
use Rattle.cg_places.proofs.WorldLemmas.{IsSound}
use Rattle.cg_places.proofs.ExchangeLemmas.{receives}
use Rattle.cg_places.specs.Step.{handed_message, action_at, spans_in, span_handed, IsPlaced, SaysSent, IsSentBefore, IsStepAt}
use Rattle.cg_world.specs.declared.action.Action.{Action}
use Rattle.cg_world.specs.declared.action.Action.TheVariants.{Local, Deliver}
use Rattle.cg_world.specs.declared.action.LocalEvent.TheVariants.{Beat, Set, Remove, Opening, Tick}
use Rattle.cg_world.specs.World.{plain_action}
use Rattle.cg_world.specs.Terms.{deltas_in, is_gap, Mark, mark_led_to, with_delta, LiesPast}
use Rattle.cg_world.specs.Taken.{with_outcome, taker}
use Rattle.cg_world.proofs.MarkLemmas.{mark_at, IsDeltaTo, span_delta}
use Rattle.cg_world.proofs.GapLaws.{spans_are, lies_past, gap_by_place}
use Rattle.cg_world.proofs.TakenLaws.{outcome_at, spans_counted, message_takes_nothing, local_takes_nothing, action_leaves}
use Rattle.cg_world.proofs.HeadlineLaws.{Marked, marked_still, marked_more}
use Rattle.cg_audit.specs.RunHeadline.{delta_handed}

-- ---- deltas that other nodes took

-- the action of a world for an event
abbrev world_action : ℕ → ℕ → Event → Action
world_action node number event.Beat = Local node Beat
world_action node number (event.Set key text) = Local node (Set key text)
world_action node number (event.Tick now words) = Local node (Tick now words)
world_action node number (event.Remove key) = Local node (Remove key)
world_action node number event.Opening = Local node Opening
world_action node number (event.Syn syn) = Deliver number node 0
world_action node number (event.Ack now ack) = Deliver number node now
world_action node number (event.Ack2 now ack2) = Deliver number node now

is_plain : (node number : ℕ) (e : Event) → plain_action (world_action node number e) ≡ action_at node number e
is_plain node number event.Beat = refl
is_plain node number (event.Set key text) = refl
is_plain node number (event.Tick now words) = refl
is_plain node number (event.Remove key) = refl
is_plain node number event.Opening = refl
is_plain node number (event.Syn syn) = refl
is_plain node number (event.Ack now ack) = refl
is_plain node number (event.Ack2 now ack2) = refl

not_taker : (node number : ℕ) (e : Event) (other : ℕ) → other ≢ node → taker (world_action node number e) ≢ Some other
not_taker node number event.Beat other apart = λ is. cc
not_taker node number (event.Set key text) other apart = λ is. cc
not_taker node number (event.Tick now words) other apart = λ is. cc
not_taker node number (event.Remove key) other apart = λ is. cc
not_taker node number event.Opening other apart = λ is. cc
not_taker node number (event.Syn syn) other apart = λ is. apart (let same : node ≡ other = cc in sym same)
not_taker node number (event.Ack now ack) other apart = λ is. apart (let same : node ≡ other = cc in sym same)
not_taker node number (event.Ack2 now ack2) other apart = λ is. apart (let same : node ≡ other = cc in sym same)

pub others_take_nothing : (w : PlaceWorld) (node number : ℕ) (e : Event) (other : ℕ) → other ≢ node → (after_action w (action_at node number e)).taken other ≡ w.taken other
others_take_nothing w node number e other apart =
    subst (λ action. (after_action w action).taken other ≡ w.taken other) (is_plain node number e)
    (action_leaves w (world_action node number e) other (not_taker node number e other apart))

-- ---- deltas that the node took

no_delta : (marks : List Mark) (o : Option Outcome) → with_delta marks o None ≡ marks
no_delta marks None = refl
no_delta marks (Some outcome) = refl

no_span : (spans : List Span) (o : Option Outcome) → with_outcome spans o None ≡ spans
no_span spans None = refl
no_span spans (Some outcome) = refl

-- the deltas of a message spell its spans
deltas_spell : (histories : ℕ → List EntryValue) (m : Message) (said : PlaceMessage) → Says histories m said → SpellsSpans histories (deltas_in m) (spans_in said)
deltas_spell histories (kinds.Syn syn) (Syn theirs) s = record { at = λ owner. refl }
deltas_spell histories (kinds.Ack ack) (Ack asks spans) s = record { at = s.spells.deltas.at }
deltas_spell histories (kinds.Ack2 ack2) (Ack2 spans) s = record { at = s.spells.deltas.at }
deltas_spell histories (kinds.Syn syn) (Ack asks spans) s = absurd s.spells
deltas_spell histories (kinds.Syn syn) (Ack2 spans) s = absurd s.spells
deltas_spell histories (kinds.Ack ack) (Syn theirs) s = absurd s.spells
deltas_spell histories (kinds.Ack ack) (Ack2 spans) s = absurd s.spells
deltas_spell histories (kinds.Ack2 ack2) (Syn theirs) s = absurd s.spells
deltas_spell histories (kinds.Ack2 ack2) (Ack asks spans) s = absurd s.spells

-- a receipt takes the spans of its message
receipt_takes : (w : PlaceWorld) (node : ℕ) (said : PlaceMessage) (outcomes : List Outcome) → ((owner : ℕ) → outcome_about owner outcomes ≡ outcome_at w node owner (spans_in said owner))
    → (owner : ℕ) → (after_receipt w node said).taken node owner ≡ with_outcome (w.taken node owner) (outcome_about owner outcomes) (spans_in said owner)
receipt_takes w node (Syn theirs) outcomes each owner = message_takes_nothing w _ node owner ∙ sym (no_span (w.taken node owner) (outcome_about owner outcomes))
receipt_takes w node (Ack asks spans) outcomes each owner = message_takes_nothing (with_spans w node spans) _ node owner ∙ spans_counted w node spans outcomes each owner
receipt_takes w node (Ack2 spans) outcomes each owner = spans_counted w node spans outcomes each owner

module _ (w v : PlaceWorld) (node owner : ℕ) (marks : List Mark) (on : Continues (w.histories owner) (v.histories owner)) (history : IsHistory (w.histories owner)) (m : Marked w node owner marks) where
  -- one delta, by its outcome
  taken_marked : (span : Span) (told : Took) (d : OwnerDelta) → IsSpan (w.histories owner) span → mark_led_to d.delta ≡ mark_at (w.histories owner) span.to
      → v.taken node owner ≡ with_outcome (w.taken node owner) (Some (record { endpoint = owner; took = told })) (Some span)
      → Marked v node owner (with_delta marks (Some (record { endpoint = owner; took = told })) (Some d))
  taken_marked span took.Gap d is leads e = marked_still w v node owner marks on e m
  taken_marked span took.Taken d is leads e = subst (λ mark. Marked v node owner (marks ++ mark ∷ [])) (sym leads) (marked_more w v node owner marks span on e is m)
  taken_marked span took.Old d is leads e = subst (λ mark. Marked v node owner (marks ++ mark ∷ [])) (sym leads) (marked_more w v node owner marks span on e is m)
  taken_marked span took.Own d is leads e = subst (λ mark. Marked v node owner (marks ++ mark ∷ [])) (sym leads) (marked_more w v node owner marks span on e is m)

  delta_marked : (o : Option Span) → ((span : Span) → o ≡ Some span → IsSpan (w.histories owner) span) → (outcome : Option Outcome) → outcome ≡ outcome_at w node owner o
      → (d : Option OwnerDelta) → d ≡ option_map (about owner) (option_and_then (delta_of (w.histories owner)) o)
      → v.taken node owner ≡ with_outcome (w.taken node owner) outcome o → Marked v node owner (with_delta marks outcome d)
  delta_marked None are outcome eo d ed e = rw eo (marked_still w v node owner marks on (e ∙ ap (λ outcome. with_outcome (w.taken node owner) outcome None) eo) m)
  delta_marked (Some span) are outcome eo d ed e =
      let is : IsSpan (w.histories owner) span = are span refl in
      let to : IsDeltaTo (w.histories owner) span = span_delta (w.histories owner) history span is in
      let some : d ≡ Some (about owner to.delta) = ed ∙ ap (option_map (about owner)) to.is in
      rw (eo, some) (taken_marked span (took_for (owner == node) (w.places node owner) span) (about owner to.delta) is to.leads (e ∙ ap (λ outcome. with_outcome (w.taken node owner) outcome (Some span)) eo))

-- if the node took nothing
quiet_marked : (w v : PlaceWorld) (node owner : ℕ) (marks : List Mark) (o : Option Outcome) → Continues (w.histories owner) (v.histories owner) → v.taken ≡ w.taken → Marked w node owner marks → Marked v node owner (with_delta marks o None)
quiet_marked w v node owner marks o on same m =
    subst (λ (ms : List Mark). Marked v node owner ms) (sym (no_delta marks o)) (marked_still w v node owner marks on (ap (λ (t : ℕ → ℕ → List Span). t node owner) same) m)

module _ (w : PlaceWorld) (sound : IsSound w) (node number : ℕ) (n : NodeValue) (p : IsPlaced w node n) (owner : ℕ) (marks : List Mark) (m : Marked w node owner marks) where
  delivered_marked : (x : NodeValue × Reply) (message : Message) → SaysSent w number message
      → (told : (owner : ℕ) → outcome_about owner (outcomes_in x.1) ≡ outcome_at w node owner (option_and_then (λ said. spans_in said owner) (at_place w.sent number)))
      → (v : PlaceWorld) → ((said : PlaceMessage) → at_place w.sent number ≡ Some said → v ≡ after_receipt w node said) → Continues (w.histories owner) (v.histories owner)
      → Marked v node owner (with_delta marks (outcome_about owner (outcomes_in x.1)) (delta_about owner (deltas_in message)))
  delivered_marked x message s told v is on =
      let said : PlaceMessage = s.said in
      let each : (owner : ℕ) → outcome_about owner (outcomes_in x.1) ≡ outcome_at w node owner (spans_in said owner)
      = λ owner. told owner ∙ ap (λ (o : Option PlaceMessage). outcome_at w node owner (option_and_then (λ said. spans_in said owner) o)) s.is_said in
      let are : AreSpans w.histories (spans_in said) = spans_are w.histories said s.says.stands in
      let spelled : SpellsSpans w.histories (deltas_in message) (spans_in said) = deltas_spell w.histories message said s.says in
      let takes : v.taken node owner ≡ with_outcome (w.taken node owner) (outcome_about owner (outcomes_in x.1)) (spans_in said owner)
      = ap (λ (u : PlaceWorld). u.taken node owner) (is said s.is_said) ∙ receipt_takes w node said (outcomes_in x.1) each owner in
      delta_marked w v node owner marks on (sound.histories owner) m (spans_in said owner) (are owner) (outcome_about owner (outcomes_in x.1)) (each owner) (delta_about owner (deltas_in message)) (spelled.at owner) takes

  pub step_marked : (e : Event) (x : NodeValue × Reply) → IsSentBefore w number (handed_message e)
      → IsStepAt w (after_action w (action_at node number e)) (span_handed w (action_at node number e)) node n x
      → Marked (after_action w (action_at node number e)) node owner (with_delta marks (outcome_about owner (outcomes_in x.1)) (delta_handed owner e))
  step_marked event.Beat x s st = quiet_marked w (after_action w (action_at node number event.Beat)) node owner marks _ (st.changed.histories owner) (local_takes_nothing w node Beat) m
  step_marked (event.Set key text) x s st = quiet_marked w (after_action w (action_at node number (event.Set key text))) node owner marks _ (st.changed.histories owner) (local_takes_nothing w node (Set key text)) m
  step_marked (event.Tick now words) x s st = quiet_marked w (after_action w (action_at node number (event.Tick now words))) node owner marks _ (st.changed.histories owner) (local_takes_nothing w node (Tick now words)) m
  step_marked (event.Remove key) x s st = quiet_marked w (after_action w (action_at node number (event.Remove key))) node owner marks _ (st.changed.histories owner) (local_takes_nothing w node (Remove key)) m
  step_marked event.Opening x s st = quiet_marked w (after_action w (action_at node number event.Opening)) node owner marks _ (st.changed.histories owner) (local_takes_nothing w node Opening) m
  step_marked (event.Syn syn) x s st = delivered_marked x (kinds.Syn syn) s st.told (after_action w (action_at node number (event.Syn syn))) (λ said is. receives w number node said p.runs_here is) (st.changed.histories owner)
  step_marked (event.Ack now ack) x s st = delivered_marked x (kinds.Ack ack) s st.told (after_action w (action_at node number (event.Ack now ack))) (λ said is. receives w number node said p.runs_here is) (st.changed.histories owner)
  step_marked (event.Ack2 now ack2) x s st = delivered_marked x (kinds.Ack2 ack2) s st.told (after_action w (action_at node number (event.Ack2 now ack2))) (λ said is. receives w number node said p.runs_here is) (st.changed.histories owner)

-- ---- deltas that are left out

module _ (w : PlaceWorld) (sound : IsSound w) (node number : ℕ) (n : NodeValue) (p : IsPlaced w node n) (owner : ℕ) (outcome : Outcome) (d : OwnerDelta) where
  own_stands : (span : Span) → IsSpan (w.histories owner) span → (owner == node) ≡ true → span.from ≤ w.places node owner
  own_stands span s same =
      let is : owner ≡ node = same_number owner node same in
      let newest_place : w.places node owner ≡ length (w.histories owner) = subst (λ (k : ℕ). w.places node k ≡ length (w.histories k)) (sym is) (sound.own node) in
      omega (arith, newest_place, s.rises, s.stands)

  span_told : (o : Option Span) → ((span : Span) → o ≡ Some span → IsSpan (w.histories owner) span) → outcome_at w node owner o ≡ Some outcome
      → option_map (about owner) (option_and_then (delta_of (w.histories owner)) o) ≡ Some d → IsTrue (is_gap outcome.took) ↔ LiesPast d.delta (map.get n.table.entries owner)
  span_told None are eo ed = absurd cc
  span_told (Some span) are eo ed =
      let h : List EntryValue = w.histories owner in
      let place : ℕ = w.places node owner in
      let s : IsSpan h span = are span refl in
      let to : IsDeltaTo h span = span_delta h (sound.histories owner) span s in
      let some : Some (about owner to.delta) ≡ Some d = sym (ap (option_map (about owner)) to.is) ∙ ed in
      let told : record { endpoint = owner; took = took_for (owner == node) place span } ≡ outcome = cc in
      let sent : about owner to.delta ≡ d = cc in
      let gap : IsTrue (is_gap (took_for (owner == node) place span)) ↔ place < span.from = gap_by_place (owner == node) place span s.rises (own_stands span s) in
      let lies : place < span.from ↔ LiesPast to.delta (at_place h place) = lies_past h (sound.histories owner) span s to.delta to.generation to.above place (sound.stands node owner) in
      subst (λ (x : Outcome). IsTrue (is_gap x.took) ↔ LiesPast d.delta (map.get n.table.entries owner)) told
      (subst (λ (x : OwnerDelta). IsTrue (is_gap (took_for (owner == node) place span)) ↔ LiesPast x.delta (map.get n.table.entries owner)) sent
      (subst (λ (o : Option EntryValue). IsTrue (is_gap (took_for (owner == node) place span)) ↔ LiesPast to.delta o) (sym (p.spells.at owner))
      (λ g. lies.0 (gap.0 g), λ l. gap.1 (lies.1 l))))

  message_told : (x : NodeValue × Reply) (message : Message) → SaysSent w number message
      → outcome_about owner (outcomes_in x.1) ≡ outcome_at w node owner (option_and_then (λ said. spans_in said owner) (at_place w.sent number))
      → outcome_about owner (outcomes_in x.1) ≡ Some outcome → delta_about owner (deltas_in message) ≡ Some d → IsTrue (is_gap outcome.took) ↔ LiesPast d.delta (map.get n.table.entries owner)
  message_told x message s told eo ed =
      let said : PlaceMessage = s.said in
      let each : outcome_about owner (outcomes_in x.1) ≡ outcome_at w node owner (spans_in said owner)
      = told ∙ ap (λ (o : Option PlaceMessage). outcome_at w node owner (option_and_then (λ said. spans_in said owner) o)) s.is_said in
      let are : AreSpans w.histories (spans_in said) = spans_are w.histories said s.says.stands in
      let spelled : SpellsSpans w.histories (deltas_in message) (spans_in said) = deltas_spell w.histories message said s.says in
      span_told (spans_in said owner) (are owner) (sym each ∙ eo) (sym (spelled.at owner) ∙ ed)

  pub step_told : (e : Event) (x : NodeValue × Reply) → IsSentBefore w number (handed_message e)
      → IsStepAt w (after_action w (action_at node number e)) (span_handed w (action_at node number e)) node n x
      → outcome_about owner (outcomes_in x.1) ≡ Some outcome → delta_handed owner e ≡ Some d → IsTrue (is_gap outcome.took) ↔ LiesPast d.delta (map.get n.table.entries owner)
  step_told event.Beat x s st eo ed = absurd cc
  step_told (event.Set key text) x s st eo ed = absurd cc
  step_told (event.Tick now words) x s st eo ed = absurd cc
  step_told (event.Remove key) x s st eo ed = absurd cc
  step_told event.Opening x s st eo ed = absurd cc
  step_told (event.Syn syn) x s st eo ed = message_told x (kinds.Syn syn) s (st.told owner) eo ed
  step_told (event.Ack now ack) x s st eo ed = message_told x (kinds.Ack ack) s (st.told owner) eo ed
  step_told (event.Ack2 now ack2) x s st eo ed = message_told x (kinds.Ack2 ack2) s (st.told owner) eo ed

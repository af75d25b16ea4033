-- Each step of a node is the step by places.
use Rattle.std.proofs.Common.{◌≡◌, ℕ, List, [], length, refl, sym, ◌∙◌, ap, subst, arith, true, false, Bool, Option, Some, None, Result, Ok, Err}
use Rattle.std.specs.Prelude.{◌==◌, unwrap_or}
use Rattle.std.specs.Option.{option_map, option_and_then}
use Rattle.std.specs.FinMap as map
use Rattle.std.proofs.lemmas.Bool.Decides.{nat_tests}
use Rattle.cg_types.specs.declared.fault.Fault.{Fault}
use Rattle.cg_entry.specs.Values.{EntryValue}
use Rattle.cg_entry.specs.Entry.{starting_entry, entry_after_beat, with_state, removal_of}
use Rattle.cg_entry.specs.History.{at_place}
use Rattle.cg_entry.specs.Place.{Span}
use Rattle.cg_entry.proofs.PlaceLemmas.{at_place_none}
use Rattle.cg_table.specs.Values.{TableValue}
use Rattle.cg_table.specs.Own.{own_entry, with_own}
use Rattle.cg_table.specs.Spelling.{SpellsPlaces}
use Rattle.cg_messages.specs.declared.message.Message.{Message}
use Rattle.cg_messages.specs.declared.message.Message.TheVariants as message
use Rattle.cg_messages.specs.declared.outcome.Outcome.{Outcome}
use Rattle.cg_messages.specs.Values.{SynValue, AckValue, Ack2Value}
use Rattle.cg_exchange.specs.Answering.{same_cluster}
use Rattle.cg_exchange.specs.Taking.{taking_ack, taking_ack2}
use Rattle.cg_places.specs.Places.{Ask, took_for}
use Rattle.cg_places.specs.PlaceMessages.{PlaceMessage, Syn, Ack, Ack2, answer_at, places_after, grants_at}
use Rattle.cg_places.specs.MessageSpelling.{outcome_about}
use Rattle.cg_places.specs.MessageLaws.{Says, IsMoved, AckMoves, IsAnswered}
use Rattle.cg_places.proofs.MessageLaws.{syn_says_places, syn_is_answered, ack_is_taken, ack2_is_taken}
use Rattle.cg_core.specs.declared.event.Event.TheVariants as event
use Rattle.cg_core.specs.declared.reply.Reply.{Reply}
use Rattle.cg_core.specs.declared.reply.Reply.TheVariants as reply
use Rattle.cg_core.specs.Values.{NodeValue}
use Rattle.cg_core.specs.Replies.{outcomes_in}
use Rattle.cg_core.specs.Step.{then, with_table, next_of, beating, setting, removing, opening, round_peers, after_taking, arrival_of, node_step}
use Rattle.cg_core.proofs.StepLemmas.{removal_given}
use Rattle.cg_places.specs.PlaceWorld.{PlaceWorld, Deliver, runs, with_entry, with_message, with_spans, last_entry, after_change, removable, after_opening, after_receipt, after_delivery, after_action}
use Rattle.cg_places.specs.Laws.{IsWorld}
use Rattle.cg_places.specs.Spelling.{IsChangedAt}
use Rattle.cg_places.proofs.PutLemmas.{put_at_here}
use Rattle.cg_places.proofs.FollowLemmas.{running_here, entry_changes, message_changes, spans_change}
use Rattle.cg_places.specs.Step.{message_of, IsPlaced, SaysSent, IsSent, spans_in, span_handed, IsStepAt, StepsAreByPlaces}

-- the empty handover: no span about any owner
abbrev no_spans : ℕ → Option Span
no_spans owner = None

-- a history with no entry at its end is empty
none_at_end : (h : List EntryValue) → at_place h (length h) ≡ None → length h ≡ 0
none_at_end h e = at_place_none h (length h) (omega arith) e

-- a property of the outcome of a step holds if it holds for each expected value
done_then : {A : Type 0} (due : Result A Fault) (go : A → NodeValue × Reply) (x : NodeValue × Reply) (P : NodeValue × Reply → Type 0) → ((a : A) → due ≡ Ok a → P (go a)) → then due go ≡ Ok x → P x
done_then (Ok a) go x P so e = let same : go a ≡ x = cc in subst P same (so a refl)
done_then (Err fault) go x P so e = absurd cc

module _ (w : PlaceWorld) (is : IsWorld w) (node : ℕ) (n : NodeValue) (p : IsPlaced w node n) where
  -- ---- the own entry

  own_by : own_entry n.table ≡ unwrap_or (last_entry (w.histories node)) (starting_entry 0)
  own_by = ap (λ k. unwrap_or (map.get n.table.entries k) (starting_entry 0)) p.own
      ∙ ap (λ o. unwrap_or o (starting_entry 0)) (p.spells.at node ∙ ap (at_place (w.histories node)) (is.own node))

  pub own_held : last_entry (w.histories node) ≡ Some (own_entry n.table)
  own_held = go (last_entry (w.histories node)) refl
    where
      go : (o : Option EntryValue) → last_entry (w.histories node) ≡ o → last_entry (w.histories node) ≡ Some (own_entry n.table)
      go None none = absurd (let z = none_at_end (w.histories node) none in let r = p.runs_here in grind (arith, nat_tests))
      go (Some x) some = some ∙ ap Some (sym (own_by ∙ ap (λ o. unwrap_or o (starting_entry 0)) some))

  -- the node with another own entry, after that entry by places
  entry_at : (y : EntryValue) → IsChangedAt w (with_entry w node y) node (with_own y n.table).entries
  entry_at y = subst (λ k. IsChangedAt w (with_entry w node y) node (map.insert n.table.entries k y)) (sym p.own) (entry_changes w node y n.table.entries p.spells)

  entry_step : (y : EntryValue) (answer : Reply) → message_of answer ≡ None → outcomes_in answer ≡ [] → IsStepAt w (with_entry w node y) no_spans node n (with_table (with_own y n.table) n, answer)
  unfolding with_entry
  entry_step y answer silent quiet = record { settings = refl; own = refl; changed = entry_at y; sends = rw silent refl; told = λ owner. ap (outcome_about owner) quiet; owners = refl }

  beat_step : (x : NodeValue × Reply) → node_step n event.Beat ≡ Ok x → IsStepAt w (after_change w node entry_after_beat (last_entry (w.histories node))) no_spans node n x
  beat_step x e = rw own_held (done_then (next_of n) (λ v. (beating n, reply.Done v)) x (IsStepAt w (with_entry w node (entry_after_beat (own_entry n.table))) no_spans node n)
      (λ v due. entry_step (entry_after_beat (own_entry n.table)) (reply.Done v) refl refl) e)

  set_step : (key : ℕ) (text : List ℕ) (x : NodeValue × Reply) → node_step n (event.Set key text) ≡ Ok x → IsStepAt w (after_change w node (with_state key (Some text)) (last_entry (w.histories node))) no_spans node n x
  set_step key text x e = rw own_held (done_then (next_of n) (λ v. (setting key text n, reply.Done v)) x (IsStepAt w (with_entry w node (with_state key (Some text) (own_entry n.table))) no_spans node n)
      (λ v due. entry_step (with_state key (Some text) (own_entry n.table)) (reply.Done v) refl refl) e)

  remove_step : (key : ℕ) (x : NodeValue × Reply) → node_step n (event.Remove key) ≡ Ok x → IsStepAt w (after_change w node (with_state key None) (removable key (last_entry (w.histories node)))) no_spans node n x
  remove_step key x e = rw own_held (done_then (removal_of key (own_entry n.table)) (λ v. (removing key n, reply.Done v)) x (IsStepAt w (after_change w node (with_state key None) (removable key (Some (own_entry n.table)))) no_spans node n)
      (λ v due. rw ((removal_given key (own_entry n.table) v due).0) (entry_step (with_state key None (own_entry n.table)) (reply.Done v) refl refl)) e)

  -- ---- messages

  -- a step that sends a message and changes nothing
  message_step : (m : Message) (said : PlaceMessage) → IsSent n.settings.cluster w.histories m said → IsStepAt w (with_message w said) no_spans node n (n, reply.Sent m)
  unfolding with_message
  message_step m said s = record {
    settings = refl;
    own = refl;
    changed = message_changes w node said n.table.entries p.runs_here p.spells;
    sends = record { said = said; added = refl; is_sent = s };
    told = λ owner. refl;
    owners = refl;
  }

  syn_sent : IsSent n.settings.cluster w.histories (message.Syn (opening n)) (Syn (w.places node))
  syn_sent = record { says = syn_says_places w.histories n.table n.settings.cluster (w.places node) p.spells; names = refl }

  opening_step : (x : NodeValue × Reply) → node_step n event.Opening ≡ Ok x → IsStepAt w (after_opening w node) no_spans node n x
  opening_step x e =
      let same : (n, reply.Sent (message.Syn (opening n))) ≡ x = cc in
      rw p.runs_here (subst (IsStepAt w (with_message w (Syn (w.places node))) no_spans node n) same (message_step (message.Syn (opening n)) (Syn (w.places node)) syn_sent))

  syn_step : (number : ℕ) (syn : SynValue) (theirs : ℕ → ℕ) → Says w.histories (message.Syn syn) (Syn theirs) → (x : NodeValue × Reply) → node_step n (event.Syn syn) ≡ Ok x → IsStepAt w (after_receipt w node (Syn theirs)) no_spans node n x
  syn_step number syn theirs says x e = go (same_cluster n.settings.cluster syn.cluster) refl
    where
      go : (b : Bool) → same_cluster n.settings.cluster syn.cluster ≡ b → IsStepAt w (after_receipt w node (Syn theirs)) no_spans node n x
      go true same =
          let a : IsAnswered w.histories n.table n.settings.cluster syn (w.places node) theirs =
          syn_is_answered w.histories is.histories n.table n.settings.cluster syn (w.places node) theirs p.spells says same in
          let due : then {A = AckValue} (Ok a.ack) (λ ack. (n, reply.Sent (message.Ack ack))) ≡ Ok x = subst (λ (due : Result AckValue Fault). then due (λ ack. (n, reply.Sent (message.Ack ack))) ≡ Ok x) a.answer e in
          let gives : (n, reply.Sent (message.Ack a.ack)) ≡ x = cc in
          subst (IsStepAt w (after_receipt w node (Syn theirs)) no_spans node n) gives (message_step (message.Ack a.ack) (answer_at w.histories (w.places node) theirs) (record { says = a.says; names = tt }))
      go false same = absurd (let none = rw same at e in cc)

  -- ---- deltas

  module _ (spans : ℕ → Option Span) (now : ℕ) (after : TableValue) (outcomes : List Outcome) (moved : IsMoved w.histories n.table (w.places node) spans after outcomes) where
    spans_at : IsChangedAt w (with_spans w node spans) node after.entries
    spans_at = spans_change w node spans after.entries p.runs_here
        (subst (λ k. SpellsPlaces w.histories after.entries (places_after k (w.places node) spans)) p.own moved.places)

    told_here : (owner : ℕ) → outcome_about owner outcomes ≡ option_map (λ span. record { endpoint = owner; took = took_for (owner == node) (w.places node owner) span }) (spans owner)
    told_here owner =
        subst (λ (k : ℕ). outcome_about owner outcomes ≡ option_map (λ span. record { endpoint = owner; took = took_for (owner == k) (w.places node owner) span }) (spans owner)) p.own (moved.outcomes_about owner)

    took_step : IsStepAt w (with_spans w node spans) spans node n (after_taking n now after outcomes, reply.Took outcomes)
    unfolding with_spans
    took_step = record { settings = refl; own = moved.own; changed = spans_at; sends = refl; told = told_here; owners = refl }

    both_step : (asks : ℕ → Option Ask) (ack2 : Ack2Value) → Says w.histories (message.Ack2 ack2) (Ack2 (grants_at w.histories (places_after n.table.own (w.places node) spans) asks))
        → IsStepAt w (after_receipt w node (Ack asks spans)) spans node n (after_taking n now after outcomes, reply.Both outcomes ack2)
    unfolding with_spans with_message
    both_step asks ack2 says = record {
      settings = refl;
      own = moved.own;
      changed = record { histories = spans_at.histories; running = spans_at.running; here = spans_at.here; elsewhere = spans_at.elsewhere };
      sends = record {
        said = Ack2 (grants_at w.histories ((with_spans w node spans).places node) asks);
        added = refl;
        is_sent = record {
          says = subst (λ (row : ℕ → ℕ). Says w.histories (message.Ack2 ack2) (Ack2 (grants_at w.histories row asks))) (sym (put_at_here w.places node (λ owner. places_after node (w.places node) spans owner)))
              (subst (λ k. Says w.histories (message.Ack2 ack2) (Ack2 (grants_at w.histories (places_after k (w.places node) spans) asks))) p.own says);
          names = tt;
        };
      };
      told = told_here;
      owners = refl;
    }

  ack_step : (now : ℕ) (ack : AckValue) (asks : ℕ → Option Ask) (spans : ℕ → Option Span) → Says w.histories (message.Ack ack) (Ack asks spans) → (x : NodeValue × Reply)
      → node_step n (event.Ack now ack) ≡ Ok x → IsStepAt w (after_receipt w node (Ack asks spans)) spans node n x
  ack_step now ack asks spans says x e = done_then (taking_ack n.table ack) (λ t. (after_taking n now t.0 t.2, reply.Both t.2 t.1)) x (IsStepAt w (after_receipt w node (Ack asks spans)) spans node n)
      (λ t due. let moves : AckMoves w.histories n.table (w.places node) asks spans t.0 t.1 t.2 =
      ack_is_taken w.histories is.histories n.table ack (w.places node) asks spans p.spells says t.0 t.1 t.2 due in
      both_step spans now t.0 t.2 moves.moved asks t.1 moves.says) e

  ack2_step : (now : ℕ) (ack2 : Ack2Value) (spans : ℕ → Option Span) → Says w.histories (message.Ack2 ack2) (Ack2 spans) → (x : NodeValue × Reply)
      → node_step n (event.Ack2 now ack2) ≡ Ok x → IsStepAt w (after_receipt w node (Ack2 spans)) spans node n x
  ack2_step now ack2 spans says x e = done_then (taking_ack2 n.table ack2) (λ t. (after_taking n now t.0 t.1, reply.Took t.1)) x (IsStepAt w (after_receipt w node (Ack2 spans)) spans node n)
      (λ t due. took_step spans now t.0 t.1 (ack2_is_taken w.histories is.histories n.table ack2 (w.places node) spans p.spells says t.0 t.1 due)) e

  -- a message that is handed over
  handed_step : (now : ℕ) (m : Message) (said : PlaceMessage) → Says w.histories m said → (x : NodeValue × Reply) → node_step n (arrival_of now m) ≡ Ok x → IsStepAt w (after_receipt w node said) (spans_in said) node n x
  handed_step now (message.Syn syn) (Syn theirs) says x e = syn_step now syn theirs says x e
  handed_step now (message.Ack ack) (Ack asks spans) says x e = ack_step now ack asks spans says x e
  handed_step now (message.Ack2 ack2) (Ack2 spans) says x e = ack2_step now ack2 spans says x e
  handed_step now (message.Syn syn) (Ack asks spans) says x e = absurd says.spells
  handed_step now (message.Syn syn) (Ack2 spans) says x e = absurd says.spells
  handed_step now (message.Ack ack) (Syn places) says x e = absurd says.spells
  handed_step now (message.Ack ack) (Ack2 spans) says x e = absurd says.spells
  handed_step now (message.Ack2 ack2) (Syn places) says x e = absurd says.spells
  handed_step now (message.Ack2 ack2) (Ack asks spans) says x e = absurd says.spells

  delivered_step : (number now : ℕ) (m : Message) → SaysSent w number m → (x : NodeValue × Reply) → node_step n (arrival_of now m) ≡ Ok x → IsStepAt w (after_delivery w node (at_place w.sent number)) (span_handed w (Deliver number node)) node n x
  delivered_step number now m s x e =
      subst (λ (o : Option PlaceMessage). IsStepAt w (after_delivery w node o) (λ owner. option_and_then (λ said. spans_in said owner) o) node n x) (sym s.is_said)
      (rw p.runs_here (handed_step now m s.said s.says x e))

-- ---- a tick

module _ (w : PlaceWorld) (is : IsWorld w) (node : ℕ) (n : NodeValue) (p : IsPlaced w node n) where
  abbrev v : PlaceWorld
  v = with_entry w node (entry_after_beat (own_entry n.table))

  beaten_at : IsChangedAt w v node (beating n).table.entries
  beaten_at = entry_at w is node n p (entry_after_beat (own_entry n.table))

  v_runs : runs v node ≡ true
  v_runs = running_here w v node (beating n).table.entries beaten_at

  tick_at : (answer : Reply) → message_of answer ≡ Some (message.Syn (opening (beating n))) → outcomes_in answer ≡ [] → IsStepAt w (with_message v (Syn (v.places node))) no_spans node n (beating n, answer)
  unfolding with_message with_entry
  tick_at answer sends quiet = record {
    settings = refl;
    own = refl;
    changed = record { histories = beaten_at.histories; running = beaten_at.running; here = beaten_at.here; elsewhere = beaten_at.elsewhere };
    sends = rw sends (record {
      said = Syn (v.places node);
      added = refl;
      is_sent = record { says = syn_says_places v.histories (beating n).table n.settings.cluster (v.places node) beaten_at.here; names = refl };
    });
    told = λ owner. ap (outcome_about owner) quiet;
    owners = refl;
  }

  tick_step : (now : ℕ) (words : List ℕ) (x : NodeValue × Reply) → node_step n (event.Tick now words) ≡ Ok x → IsStepAt w (after_opening (after_change w node entry_after_beat (last_entry (w.histories node))) node) no_spans node n x
  tick_step now words x e = rw (own_held w is node n p) (rw v_runs (done_then (next_of n) (λ version. (beating n, reply.Round (round_peers (beating n) now words) (opening (beating n)))) x
      (IsStepAt w (with_message v (Syn (v.places node))) no_spans node n) (λ version due. tick_at (reply.Round (round_peers (beating n) now words) (opening (beating n))) refl refl) e))

-- ---- the law

pub steps_are_by_places : StepsAreByPlaces
unfolding after_action
steps_are_by_places w node number n event.Beat x is p s e = beat_step w is node n p x e
steps_are_by_places w node number n (event.Set key text) x is p s e = set_step w is node n p key text x e
steps_are_by_places w node number n (event.Remove key) x is p s e = remove_step w is node n p key x e
steps_are_by_places w node number n event.Opening x is p s e = opening_step w is node n p x e
steps_are_by_places w node number n (event.Tick now words) x is p s e = tick_step w is node n p now words x e
steps_are_by_places w node number n (event.Syn syn) x is p s e = delivered_step w is node n p number 0 (message.Syn syn) s x e
steps_are_by_places w node number n (event.Ack now ack) x is p s e = delivered_step w is node n p number now (message.Ack ack) s x e
steps_are_by_places w node number n (event.Ack2 now ack2) x is p s e = delivered_step w is node n p number now (message.Ack2 ack2) s x e

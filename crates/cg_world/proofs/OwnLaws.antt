-- Own entries after each action.
use Rattle.std.proofs.Common.{◌≡◌, ℕ, List, [], ◌∷◌, ◌++◌, refl, sym, ◌∙◌, ap, subst, Bool, true, false, Option, Some, None}
use Rattle.std.specs.Prelude.{◌==◌, cond, IsOk}
use Rattle.std.specs.Option.{option_map}
use Rattle.cg_entry.specs.Values.{EntryValue}
use Rattle.cg_types.specs.declared.fault.Fault.TheVariants.{NoSuchKey}
use Rattle.cg_entry.specs.Entry.{starting_entry, entry_after_beat, with_state, has_text}
use Rattle.cg_entry.specs.History.{at_place}
use Rattle.cg_places.specs.PlaceMessages.{PlaceMessage, Syn, Ack, Ack2}
use Rattle.cg_core.specs.SettingsValues.{SettingsValue}
use Rattle.cg_places.specs.PlaceWorld.{PlaceWorld, runs, grown, with_start, with_entry, with_message, with_spans, may_start, last_entry, after_change, removable, after_opening, after_receipt, after_delivery, after_action}
use Rattle.cg_places.specs.Refusals.{change_refusal, removal_refusal, refusal}
use Rattle.cg_places.proofs.PutLemmas.{same_number, test_same, test_other, put_at-each}
use Rattle.cg_places.proofs.ExchangeLemmas.{sent_last}
use Rattle.cg_world.specs.World.{Action, Start, Local, Deliver, Beat, Set, Remove, Opening, Tick, WorldValue, acting, act, run, plain_action, place_world}
use Rattle.cg_world.specs.Terms.{own_at, after_local, own_after}
use Rattle.cg_world.proofs.ActionLemmas.{own_last}
use Rattle.cg_world.proofs.WorldLaws.{Joined, joined, actions_one_by_one, refusals_agree}
use Rattle.cg_world.proofs.TakenLaws.{no_fault, started_by, after_done}

-- the last entries of histories, of which one has one more entry
grown_last : (histories : ℕ → List EntryValue) (other : ℕ) (y : EntryValue) (node : ℕ) → last_entry (grown histories other y node) ≡ cond (other == node) (Some y) (last_entry (histories node))
grown_last histories other y = put_at-each (λ node h. last_entry h ≡ cond (other == node) (Some y) (last_entry (histories node))) histories other (histories other ++ y ∷ [])
    (rw (test_same other) (sent_last (histories other) y)) (λ node apart. rw (test_other other node (λ e. apart (sym e))) refl)

started_last : (w : PlaceWorld) (other generation node : ℕ) → last_entry ((with_start w other generation).histories node) ≡ cond (other == node) (Some (starting_entry generation)) (last_entry (w.histories node))
unfolding with_start
started_last w other generation node = grown_last w.histories other (starting_entry generation) node

entry_last : (w : PlaceWorld) (other : ℕ) (y : EntryValue) (node : ℕ) → last_entry ((with_entry w other y).histories node) ≡ cond (other == node) (Some y) (last_entry (w.histories node))
unfolding with_entry
entry_last w other y node = grown_last w.histories other y node

-- a change of an own entry
changed_last : (w : PlaceWorld) (other : ℕ) (change : EntryValue → EntryValue) (o : Option EntryValue) → last_entry (w.histories other) ≡ o → (node : ℕ)
    → last_entry ((after_change w other change o).histories node) ≡ cond (other == node) (option_map change (last_entry (w.histories node))) (last_entry (w.histories node))
changed_last w other change None is node = go (other == node) refl
  where
    go : (b : Bool) → (other == node) ≡ b → last_entry (w.histories node) ≡ cond b (option_map change (last_entry (w.histories node))) (last_entry (w.histories node))
    go true same = subst (λ k. last_entry (w.histories k) ≡ option_map change (last_entry (w.histories k))) (same_number other node same) (is ∙ ap (option_map change) (sym is))
    go false apart = refl
changed_last w other change (Some x) is node = entry_last w other (change x) node ∙ go (other == node) refl
  where
    go : (b : Bool) → (other == node) ≡ b → cond b (Some (change x)) (last_entry (w.histories node)) ≡ cond b (option_map change (last_entry (w.histories node))) (last_entry (w.histories node))
    go true same = subst (λ k. Some (change x) ≡ option_map change (last_entry (w.histories k))) (same_number other node same) (ap (option_map change) (sym is))
    go false apart = refl

-- a removal that is not refused changes an own entry as any other change
removal_done : (key : ℕ) (o : Option EntryValue) → removal_refusal key o ≡ None → removable key o ≡ o
removal_done key None free = refl
removal_done key (Some x) free = go (has_text key x) refl free
  where
    go : (b : Bool) → has_text key x ≡ b → cond b (change_refusal (Some x)) (Some NoSuchKey) ≡ None → cond b (Some x) None ≡ Some x
    go true stands f = refl
    go false stands f = absurd cc

removed_last : (w : PlaceWorld) (other key : ℕ) → removal_refusal key (last_entry (w.histories other)) ≡ None → (node : ℕ)
    → last_entry ((after_change w other (with_state key None) (removable key (last_entry (w.histories other)))).histories node) ≡ cond (other == node) (option_map (with_state key None) (last_entry (w.histories node))) (last_entry (w.histories node))
removed_last w other key free node = changed_last w other (with_state key None) (removable key (last_entry (w.histories other))) (sym (removal_done key (last_entry (w.histories other)) free)) node

-- an opening and a delivery leave all histories
opened_same : (w : PlaceWorld) (node : ℕ) (there : Bool) → (cond there (with_message w (Syn (w.places node))) w).histories ≡ w.histories
unfolding with_message
opened_same w node true = refl
opened_same w node false = refl

received_same : (w : PlaceWorld) (node : ℕ) (said : PlaceMessage) → (after_receipt w node said).histories ≡ w.histories
unfolding with_message with_spans
received_same w node (Syn theirs) = refl
received_same w node (Ack asks spans) = refl
received_same w node (Ack2 spans) = refl

delivered_same : (w : PlaceWorld) (node : ℕ) (said : Option PlaceMessage) → (after_delivery w node said).histories ≡ w.histories
delivered_same w node None = refl
delivered_same w node (Some said) = go (runs w node)
  where
    go : (there : Bool) → (cond there (after_receipt w node said) w).histories ≡ w.histories
    go true = received_same w node said
    go false = refl

same_last : (w v : PlaceWorld) → v.histories ≡ w.histories → (node : ℕ) → last_entry (v.histories node) ≡ last_entry (w.histories node)
same_last w v same node = ap (λ (histories : ℕ → List EntryValue). last_entry (histories node)) same

left_as_it_is : (here : Bool) (o : Option EntryValue) → o ≡ cond here (option_map (after_local Opening) o) o
left_as_it_is true None = refl
left_as_it_is true (Some entry) = refl
left_as_it_is false o = refl

-- ---- each action that is done, by places

action_last : (w : PlaceWorld) (action : Action) → refusal w (plain_action action) ≡ None → (node : ℕ) → last_entry ((after_action w (plain_action action)).histories node) ≡ own_after action node (last_entry (w.histories node))
unfolding after_action
action_last w (Start other generation) free node =
    let may : may_start w other generation ≡ true = started_by w other generation (may_start w other generation) refl free in
    rw may (started_last w other generation node)
action_last w (Local other Beat) free node = changed_last w other entry_after_beat (last_entry (w.histories other)) refl node
action_last w (Local other (Set key text)) free node = changed_last w other (with_state key (Some text)) (last_entry (w.histories other)) refl node
action_last w (Local other (Remove key)) free node = removed_last w other key free node
action_last w (Local other Opening) free node =
    same_last w (after_opening w other) (opened_same w other (runs w other)) node ∙ left_as_it_is (other == node) (last_entry (w.histories node))
action_last w (Local other (Tick now words)) free node =
    let v : PlaceWorld = after_change w other entry_after_beat (last_entry (w.histories other)) in
    same_last v (after_opening v other) (opened_same v other (runs v other)) node ∙ changed_last w other entry_after_beat (last_entry (w.histories other)) refl node
action_last w (Deliver number to now) free node = same_last w (after_delivery w to (at_place w.sent number)) (delivered_same w to (at_place w.sent number)) node

-- ---- and of the nodes that run

pub own_goes_on : (settings : SettingsValue) (earlier : List Action) (action : Action) → IsOk (acting (run settings earlier) action) → (node : ℕ)
    → own_at (act (run settings earlier) action) node ≡ own_after action node (own_at (run settings earlier) node)
own_goes_on settings earlier action done node =
    let c : WorldValue = run settings earlier in
    let w : PlaceWorld = place_world earlier in
    let before : Joined c w = joined settings earlier in
    let after : Joined (run settings (earlier ++ action ∷ [])) (place_world (earlier ++ action ∷ [])) = joined settings (earlier ++ action ∷ []) in
    let free : refusal w (plain_action action) ≡ None = sym (refusals_agree settings earlier action) ∙ no_fault (acting c action) done in
    ap (λ (d : WorldValue). own_at d node) (sym (actions_one_by_one settings earlier action))
    ∙ own_last (run settings (earlier ++ action ∷ [])) (place_world (earlier ++ action ∷ [])) after.tied node
    ∙ ap (λ (v : PlaceWorld). last_entry (v.histories node)) (after_done settings earlier action free)
    ∙ action_last w action free node
    ∙ ap (own_after action node) (sym (own_last c w before.tied node))

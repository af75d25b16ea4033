-- Properties of each world that actions lead to.
use Rattle.std.proofs.Common.{◌≡◌, ◌≢◌, ℕ, zero, suc, ◌+◌, ◌≤◌, inl, inr, List, [], ◌∷◌, ◌++◌, length, refl, sym, ◌∙◌, ap, subst, arith, Bool, true, false, Option, Some, None, max}
use Rattle.std.specs.Prelude.{◌==◌, cond, if◌then◌else◌}
use Rattle.std.proofs.lemmas.Bool.Decides.{nat_tests}
use Rattle.cg_entry.specs.Values.{EntryValue}
use Rattle.cg_entry.specs.Entry.{starting_entry, entry_after_beat, with_state}
use Rattle.cg_entry.specs.History.{IsHistory, Follows, Beats, Sets, Removes, at_place}
use Rattle.cg_entry.specs.Place.{Span, IsSpan}
use Rattle.cg_places.specs.Places.{Ask, span_asked}
use Rattle.cg_places.specs.PlaceMessages.{PlaceMessage, Syn, Ack, Ack2, grants_at, IsPlaceMessage, AreAsks, AreSpans}
use Rattle.cg_places.proofs.PlaceRules.{rules_stand}
use Rattle.std.specs.Option.{option_and_then}
use Rattle.cg_places.proofs.KeptLemmas.{removable_is}
use Rattle.cg_places.specs.PlaceWorld.{PlaceWorld, PlaceAction, Start, Beat, Set, Remove, Opening, Tick, Deliver, grown, nobody, runs, with_start, with_entry, with_message, with_spans, may_start, last_entry, after_change, removable, after_opening, after_answer, after_receipt, after_delivery, after_action, after_actions, world_after}
use Rattle.cg_places.specs.Join.{furthest, targets, sources}
use Rattle.cg_places.proofs.PutLemmas.{put_at-each, put_at_here, put_at_other, at_place_push, test_same, test_other, same_number}
use Rattle.cg_places.proofs.GrowthLemmas.{AllContinue, grown_continue, grown_length, history_follows, history_starts, message_stays}
use Rattle.cg_places.proofs.StepLemmas.{place_with_own, place_with_below, place_with_joins}

-- the newest place of a node's own entry, as a place of this owner
abbrev own_place : PlaceWorld → ℕ → ℕ → ℕ
own_place w node owner = if owner == node then length (w.histories node) else 0

-- properties of each world that actions lead to
pub record IsSound (w : PlaceWorld) : Type 0 where
  pub histories : (owner : ℕ) → IsHistory (w.histories owner)
  pub stands : (node owner : ℕ) → w.places node owner ≤ length (w.histories owner)
  pub own : (node : ℕ) → w.places node node ≡ length (w.histories node)
  pub joined : (node owner : ℕ) → w.places node owner ≡ max (own_place w node owner) (furthest (targets (w.taken node owner)))
  pub messages : (number : ℕ) (message : PlaceMessage) → at_place w.sent number ≡ Some message → IsPlaceMessage w.histories message

own_place_here : (w : PlaceWorld) (n : ℕ) → own_place w n n ≡ length (w.histories n)
own_place_here w n = rw (test_same n) refl

own_place_other : (w : PlaceWorld) (node owner : ℕ) → owner ≢ node → own_place w node owner ≡ 0
own_place_other w node owner apart = rw (test_other owner node apart) refl

-- the own place of a node whose history is the same
own_place_kept : (w v : PlaceWorld) (node owner : ℕ) → v.histories node ≡ w.histories node → own_place v node owner ≡ own_place w node owner
own_place_kept w v node owner e = rw e refl

no_place : (number : ℕ) (message : PlaceMessage) → at_place [] number ≡ Some message → IsPlaceMessage (λ owner. []) message
no_place zero message e = cc
no_place (suc k) message e = cc

no_history : IsHistory []
no_history = record { begins = λ x e. cc; goes_on = λ p x y ex ey. cc }

pub nobody_sound : IsSound nobody
unfolding nobody
nobody_sound = record {
  histories = λ owner. no_history;
  stands = λ node owner. omega arith;
  own = λ node. refl;
  joined = λ node owner. grind (arith, nat_tests);
  messages = no_place;
}

-- ---- one more message

pub message_sound : (w : PlaceWorld) (message : PlaceMessage) → IsSound w → IsPlaceMessage w.histories message → IsSound (with_message w message)
unfolding with_message
message_sound w message s is = record {
  histories = s.histories;
  stands = s.stands;
  own = s.own;
  joined = s.joined;
  messages = λ k m e. elim (at_place_push w.sent message k m e) [ inl old ↦ s.messages k m old | inr new ↦ subst (IsPlaceMessage w.histories) (sym new) is ];
}

-- ---- a new entry

module _ (w : PlaceWorld) (node : ℕ) (entry : EntryValue) (s : IsSound w) (is : IsHistory (w.histories node ++ entry ∷ [])) where
  entry_histories : (owner : ℕ) → IsHistory ((with_entry w node entry).histories owner)
  unfolding with_entry
  entry_histories = put_at-each (λ owner h. IsHistory h) w.histories node _ is (λ owner apart. s.histories owner)

  entry_stands : (m owner : ℕ) → (with_entry w node entry).places m owner ≤ length ((with_entry w node entry).histories owner)
  unfolding with_entry
  entry_stands =
      let new : ℕ → List EntryValue = grown w.histories node entry in
      let c : AllContinue w.histories new = grown_continue w.histories node entry in
      let size : length (new node) ≡ length (w.histories node) + 1 = grown_length w.histories node entry in
      put_at-each (λ m row. (owner : ℕ) → row owner ≤ length (new owner)) w.places node _
      (put_at-each (λ owner p. p ≤ length (new owner)) (w.places node) node _ (omega (arith, size)) (λ owner apart. omega (arith, s.stands node owner, (c owner).longer)))
      (λ m apart owner. omega (arith, s.stands m owner, (c owner).longer))

  entry_own : (m : ℕ) → (with_entry w node entry).places m m ≡ length ((with_entry w node entry).histories m)
  unfolding with_entry
  entry_own =
      let new : ℕ → List EntryValue = grown w.histories node entry in
      put_at-each (λ m row. row m ≡ length (new m)) w.places node _
      (put_at_here (w.places node) node _ ∙ sym (grown_length w.histories node entry))
      (λ m apart. s.own m ∙ ap length (sym (put_at_other w.histories node _ m apart)))

  entry_joined : (m owner : ℕ) → (with_entry w node entry).places m owner ≡ max (own_place (with_entry w node entry) m owner) (furthest (targets (w.taken m owner)))
  unfolding with_entry
  entry_joined =
      let v : PlaceWorld = with_entry w node entry in
      let size : length (v.histories node) ≡ length (w.histories node) + 1 = grown_length w.histories node entry in
      put_at-each (λ m row. (owner : ℕ) → row owner ≡ max (own_place v m owner) (furthest (targets (w.taken m owner)))) w.places node _
      (put_at-each (λ owner p. p ≡ max (own_place v node owner) (furthest (targets (w.taken node owner)))) (w.places node) node _
      (omega (arith, own_place_here v node, size, s.joined node node, own_place_here w node, s.own node))
      (λ owner apart. omega (arith, own_place_other v node owner apart, s.joined node owner, own_place_other w node owner apart)))
      (λ m apart owner. s.joined m owner ∙ ap (λ a. max a (furthest (targets (w.taken m owner)))) (sym (own_place_kept w v m owner (put_at_other w.histories node _ m apart))))

  pub entry_sound : IsSound (with_entry w node entry)
  unfolding with_entry
  entry_sound = record {
    histories = entry_histories;
    stands = entry_stands;
    own = entry_own;
    joined = entry_joined;
    messages = λ k m e. message_stays w.histories _ (grown_continue w.histories node entry) m (s.messages k m e);
  }

-- ---- a start

module _ (w : PlaceWorld) (node generation : ℕ) (s : IsSound w) (is : IsHistory (w.histories node ++ starting_entry generation ∷ [])) where
  start_histories : (owner : ℕ) → IsHistory ((with_start w node generation).histories owner)
  unfolding with_start
  start_histories = put_at-each (λ owner h. IsHistory h) w.histories node _ is (λ owner apart. s.histories owner)

  start_stands : (m owner : ℕ) → (with_start w node generation).places m owner ≤ length ((with_start w node generation).histories owner)
  unfolding with_start
  start_stands =
      let new : ℕ → List EntryValue = grown w.histories node (starting_entry generation) in
      let c : AllContinue w.histories new = grown_continue w.histories node (starting_entry generation) in
      let size : length (new node) ≡ length (w.histories node) + 1 = grown_length w.histories node (starting_entry generation) in
      put_at-each (λ m row. (owner : ℕ) → row owner ≤ length (new owner)) w.places node _
      (put_at-each (λ owner p. p ≤ length (new owner)) (λ owner. 0) node _ (omega (arith, size)) (λ owner apart. omega arith))
      (λ m apart owner. omega (arith, s.stands m owner, (c owner).longer))

  start_own : (m : ℕ) → (with_start w node generation).places m m ≡ length ((with_start w node generation).histories m)
  unfolding with_start
  start_own =
      let new : ℕ → List EntryValue = grown w.histories node (starting_entry generation) in
      put_at-each (λ m row. row m ≡ length (new m)) w.places node _
      (put_at_here (λ owner. 0) node _ ∙ sym (grown_length w.histories node (starting_entry generation)))
      (λ m apart. s.own m ∙ ap length (sym (put_at_other w.histories node _ m apart)))

  start_joined : (m owner : ℕ) → (with_start w node generation).places m owner ≡ max (own_place (with_start w node generation) m owner) (furthest (targets ((with_start w node generation).taken m owner)))
  unfolding with_start
  start_joined =
      let v : PlaceWorld = with_start w node generation in
      let size : length (v.histories node) ≡ length (w.histories node) + 1 = grown_length w.histories node (starting_entry generation) in
      put_at-each (λ m row. (owner : ℕ) → row owner ≡ max (own_place v m owner) (furthest (targets (v.taken m owner)))) w.places node _
      (put_at-each (λ owner p. p ≡ max (own_place v node owner) (furthest (targets (v.taken node owner)))) (λ owner. 0) node _
      (rw (put_at_here w.taken node (λ owner. [])) (omega (arith, own_place_here v node, size)))
      (λ owner apart. rw (put_at_here w.taken node (λ owner. [])) (omega (arith, own_place_other v node owner apart))))
      (λ m apart owner. s.joined m owner
      ∙ ap (λ a. max a (furthest (targets (w.taken m owner)))) (sym (own_place_kept w v m owner (put_at_other w.histories node _ m apart)))
      ∙ ap (λ (t : ℕ → List Span). max (own_place v m owner) (furthest (targets (t owner)))) (sym (put_at_other w.taken node (λ owner. []) m apart)))

  pub start_sound : IsSound (with_start w node generation)
  unfolding with_start
  start_sound = record {
    histories = start_histories;
    stands = start_stands;
    own = start_own;
    joined = start_joined;
    messages = λ k m e. message_stays w.histories _ (grown_continue w.histories node (starting_entry generation)) m (s.messages k m e);
  }

-- ---- spans that are taken

module _ (w : PlaceWorld) (node : ℕ) (spans : ℕ → Option Span) (s : IsSound w) (are : AreSpans w.histories spans) where
  pub spans_stand : (m owner : ℕ) → (with_spans w node spans).places m owner ≤ length (w.histories owner)
  unfolding with_spans
  spans_stand = put_at-each (λ m row. (owner : ℕ) → row owner ≤ length (w.histories owner)) w.places node _
      (λ owner. place_with_below (owner == node) (w.places node owner) (length (w.histories owner)) (spans owner) (s.stands node owner) (λ span e. (are owner span e).stands))
      (λ m apart owner. s.stands m owner)

  spans_own : (m : ℕ) → (with_spans w node spans).places m m ≡ length (w.histories m)
  unfolding with_spans
  spans_own = put_at-each (λ m row. row m ≡ length (w.histories m)) w.places node _
      (rw (test_same node) (place_with_own (w.places node node) (spans node) ∙ s.own node))
      (λ m apart. s.own m)

  own_fits : (owner : ℕ) (span : Span) → (owner == node) ≡ true → spans owner ≡ Some span → span.to ≤ w.places node owner
  own_fits owner span same e =
      let is : owner ≡ node = same_number owner node same in
      let at_end : w.places node owner ≡ length (w.histories owner) = subst (λ n. w.places n owner ≡ length (w.histories owner)) is (s.own owner) in
      omega (arith, (are owner span e).stands, at_end)

  spans_joined : (m owner : ℕ) → (with_spans w node spans).places m owner ≡ max (own_place w m owner) (furthest (targets ((with_spans w node spans).taken m owner)))
  unfolding with_spans
  spans_joined =
      let taken : ℕ → ℕ → List Span = (with_spans w node spans).taken in
      put_at-each (λ m row. (owner : ℕ) → row owner ≡ max (own_place w m owner) (furthest (targets (taken m owner)))) w.places node _
      (λ owner. rw (put_at_here w.taken node _) (place_with_joins (owner == node) (own_place w node owner) (w.places node owner) (w.taken node owner) (spans owner) (own_fits owner) (s.joined node owner)))
      (λ m apart owner. s.joined m owner ∙ ap (λ (t : ℕ → List Span). max (own_place w m owner) (furthest (targets (t owner)))) (sym (put_at_other w.taken node _ m apart)))

  pub spans_sound : IsSound (with_spans w node spans)
  unfolding with_spans
  spans_sound = record {
    histories = s.histories;
    stands = spans_stand;
    own = spans_own;
    joined = spans_joined;
    messages = s.messages;
  }

-- ---- an action

pub changed_sound : (w : PlaceWorld) (node : ℕ) (change : EntryValue → EntryValue) → ((x : EntryValue) → Follows x (change x)) → IsSound w → (o : Option EntryValue) → last_entry (w.histories node) ≡ o → IsSound (after_change w node change o)
changed_sound w node change follows s None e = s
changed_sound w node change follows s (Some x) e = entry_sound w node (change x) s (history_follows (w.histories node) x (change x) (s.histories node) e (follows x))

removed_sound : (w : PlaceWorld) (node key : ℕ) → IsSound w → (o : Option EntryValue) → removable key (last_entry (w.histories node)) ≡ o → IsSound (after_change w node (with_state key None) o)
removed_sound w node key s None e = s
removed_sound w node key s (Some x) e =
    let is = removable_is key (last_entry (w.histories node)) x e in
    entry_sound w node (with_state key None x) s (history_follows (w.histories node) x (with_state key None x) (s.histories node) is.0 (Removes key is.1 refl))

opened_sound : (w : PlaceWorld) (node : ℕ) → IsSound w → IsSound (after_opening w node)
opened_sound w node s = go (runs w node)
  where
    go : (b : Bool) → IsSound (cond b (with_message w (Syn (w.places node))) w)
    go true = message_sound w (Syn (w.places node)) s (λ owner. s.stands node owner)
    go false = s

-- the spans sent for asks are spans of the histories
granted_are : (w : PlaceWorld) (node : ℕ) (asks : ℕ → Option Ask) → IsSound w → AreAsks w.histories asks → AreSpans w.histories (λ owner. grants_at w.histories (w.places node) asks owner)
granted_are w node asks s are owner = go (asks owner) refl
  where
    go : (o : Option Ask) → asks owner ≡ o → (span : Span) → option_and_then (span_asked (w.histories owner) (w.places node owner)) o ≡ Some span → IsSpan (w.histories owner) span
    go None is span e = cc
    go (Some ask) is span e = (rules_stand (w.histories owner) (w.places node owner) (s.stands node owner)).granted ask (are owner ask is) span e

answered_sound : (w : PlaceWorld) (node : ℕ) (asks : ℕ → Option Ask) → IsSound w → AreAsks w.histories asks → IsSound (after_answer w node asks)
answered_sound w node asks s are = message_sound w _ s (granted_are w node asks s are)

spans_asks : (w : PlaceWorld) (node : ℕ) (spans : ℕ → Option Span) (asks : ℕ → Option Ask) → AreAsks w.histories asks → AreAsks (with_spans w node spans).histories asks
unfolding with_spans
spans_asks w node spans asks are = are

received_sound : (w : PlaceWorld) (node : ℕ) (message : PlaceMessage) → IsSound w → IsPlaceMessage w.histories message → IsSound (after_receipt w node message)
received_sound w node (Syn theirs) s is = message_sound w _ s (
  λ owner ask e. (rules_stand (w.histories owner) (w.places node owner) (s.stands node owner)).asks (theirs owner) ask e,
  λ owner span e. (rules_stand (w.histories owner) (w.places node owner) (s.stands node owner)).spans (theirs owner) span e,
)
received_sound w node (Ack asks spans) s is = answered_sound (with_spans w node spans) node asks (spans_sound w node spans s is.1) (spans_asks w node spans asks is.0)
received_sound w node (Ack2 spans) s is = spans_sound w node spans s is

delivered_sound : (w : PlaceWorld) (node : ℕ) (o : Option PlaceMessage) → IsSound w → ((message : PlaceMessage) → o ≡ Some message → IsPlaceMessage w.histories message) → IsSound (after_delivery w node o)
delivered_sound w node None s is = s
delivered_sound w node (Some message) s is = go (runs w node)
  where
    go : (b : Bool) → IsSound (cond b (after_receipt w node message) w)
    go true = received_sound w node message s (is message refl)
    go false = s

pub action_sound : (w : PlaceWorld) (action : PlaceAction) → IsSound w → IsSound (after_action w action)
unfolding after_action
action_sound w (Start node generation) s = go (may_start w node generation) refl
  where
    go : (b : Bool) → may_start w node generation ≡ b → IsSound (cond b (with_start w node generation) w)
    go true e = start_sound w node generation s (history_starts (w.histories node) generation (s.histories node) (grind (arith, nat_tests)))
    go false e = s
action_sound w (Beat node) s = changed_sound w node entry_after_beat (λ x. Beats refl) s _ refl
action_sound w (Set node key text) s = changed_sound w node (with_state key (Some text)) (λ x. Sets key text refl) s _ refl
action_sound w (Remove node key) s = removed_sound w node key s _ refl
action_sound w (Opening node) s = opened_sound w node s
action_sound w (Tick node) s = opened_sound _ node (changed_sound w node entry_after_beat (λ x. Beats refl) s _ refl)
action_sound w (Deliver number to) s = delivered_sound w to (at_place w.sent number) s (λ message e. s.messages number message e)

pub actions_from_sound : (w : PlaceWorld) (actions : List PlaceAction) → IsSound w → IsSound (after_actions w actions)
actions_from_sound w [] s = s
actions_from_sound w (action ∷ actions) s = actions_from_sound (after_action w action) actions (action_sound w action s)

pub actions_sound : (actions : List PlaceAction) → IsSound (world_after actions)
actions_sound actions = actions_from_sound nobody actions nobody_sound

-- ---- the join

-- a node's places are the furthest of what it has and took
pub places_join : (w : PlaceWorld) → IsSound w → (node owner : ℕ) → w.places node owner ≡ furthest (sources w node owner)
places_join w s node owner = go (owner == node) (s.joined node owner)
  where
    go : (b : Bool) → w.places node owner ≡ max (cond b (length (w.histories node)) 0) (furthest (targets (w.taken node owner)))
        → w.places node owner ≡ furthest (cond b (length (w.histories node) ∷ targets (w.taken node owner)) (targets (w.taken node owner)))
    go true e = e
    go false e = omega (arith, e)

-- An exchange takes both of its nodes to the join.
use Rattle.std.proofs.Common.{◌≡◌, ℕ, ◌≤◌, List, [], ◌∷◌, ◌++◌, length, refl, ap, subst, arith, true, Option, Some, None, add-one}
use Rattle.std.specs.Prelude.{◌==◌}
use Rattle.cg_entry.specs.History.{at_place}
use Rattle.cg_entry.specs.Place.{Span}
use Rattle.cg_entry.proofs.PlaceLemmas.{at_place_last}
use Rattle.cg_places.specs.Places.{Ask, span_for, ask_for}
use Rattle.cg_places.specs.PlaceMessages.{PlaceMessage, Syn, Ack, Ack2, places_after, grants_at, AreSpans}
use Rattle.cg_places.specs.PlaceWorld.{PlaceWorld, Opening, Deliver, runs, with_message, with_spans, after_receipt, after_action}
use Rattle.cg_places.specs.Exchange.{PlaceExchange, by_places, after_opening, at_syn, after_syn, after_ack, after_exchange, NoStartsOf, NoStartsOfEither}
use Rattle.cg_places.specs.Refusals.{refusal}
use Rattle.cg_places.specs.Laws.{exchange_join, BothRun, ReachesTheJoin}
use Rattle.cg_places.proofs.Stages.{syn_delivery, at_ack, ack_delivery, at_ack2, ack2_delivery}
use Rattle.cg_places.proofs.PutLemmas.{length_push, put_at_here, same_number}
use Rattle.cg_places.proofs.StepLemmas.{place_with_rises}
use Rattle.cg_places.proofs.WorldLemmas.{IsSound, action_sound, actions_from_sound, spans_stand}
use Rattle.cg_places.proofs.PlaceCases.{opener_reaches, answerer_reaches}
use Rattle.cg_places.proofs.OnwardLemmas.{Keeps, keeps_on, action_keeps, actions_from_keeps, still_runs, HoldsOn, holds_further, action_holds, actions_from_holds}

-- ---- the contents of the messages of an exchange

pub sent_last : {A : Type 0} (xs : List A) (y : A) → at_place (xs ++ y ∷ []) (length (xs ++ y ∷ [])) ≡ Some y
sent_last xs y = rw (length_push xs y, add-one) (at_place_last xs y)

opening_sends : (w : PlaceWorld) (opener : ℕ) → runs w opener ≡ true → at_place (after_action w (Opening opener)).sent (length (after_action w (Opening opener)).sent) ≡ Some (Syn (w.places opener))
unfolding after_action with_message
opening_sends w opener e = rw e (sent_last w.sent (Syn (w.places opener)))

-- a message that was sent is received
pub receives : (w : PlaceWorld) (number node : ℕ) (message : PlaceMessage) → runs w node ≡ true → at_place w.sent number ≡ Some message → after_action w (Deliver number node) ≡ after_receipt w node message
unfolding after_action
receives w number node message e there = rw there (rw e refl)

abbrev pub asks_of : PlaceWorld → ℕ → (ℕ → ℕ) → ℕ → Option Ask
asks_of w node theirs owner = ask_for (w.histories owner) (w.places node owner) (theirs owner)

abbrev pub spans_of : PlaceWorld → ℕ → (ℕ → ℕ) → ℕ → Option Span
spans_of w node theirs owner = span_for (w.histories owner) (w.places node owner) (theirs owner)

reply_sends : (w : PlaceWorld) (number node : ℕ) (theirs : ℕ → ℕ) → runs w node ≡ true → at_place w.sent number ≡ Some (Syn theirs)
    → at_place (after_action w (Deliver number node)).sent (length (after_action w (Deliver number node)).sent) ≡ Some (Ack (asks_of w node theirs) (spans_of w node theirs))
unfolding with_message
reply_sends w number node theirs e there = rw (receives w number node (Syn theirs) e there) (sent_last w.sent (Ack (asks_of w node theirs) (spans_of w node theirs)))

-- the places of a node that took the spans of a message
pub held_after : (w : PlaceWorld) (node : ℕ) (spans : ℕ → Option Span) (owner : ℕ) → (with_spans w node spans).places node owner ≡ places_after node (w.places node) spans owner
unfolding with_spans
held_after w node spans owner = ap (λ (row : ℕ → ℕ). row owner) (put_at_here w.places node (λ owner. places_after node (w.places node) spans owner))

close_places : (w : PlaceWorld) (number node : ℕ) (asks : ℕ → Option Ask) (spans : ℕ → Option Span) → runs w node ≡ true → at_place w.sent number ≡ Some (Ack asks spans)
    → (owner : ℕ) → (after_action w (Deliver number node)).places node owner ≡ places_after node (w.places node) spans owner
unfolding with_message
close_places w number node asks spans e there owner = rw (receives w number node (Ack asks spans) e there) (held_after w node spans owner)

abbrev pub spans_back : PlaceWorld → ℕ → (ℕ → Option Ask) → (ℕ → Option Span) → ℕ → Option Span
spans_back w node asks spans owner = grants_at w.histories ((with_spans w node spans).places node) asks owner

close_sends : (w : PlaceWorld) (number node : ℕ) (asks : ℕ → Option Ask) (spans : ℕ → Option Span) → runs w node ≡ true → at_place w.sent number ≡ Some (Ack asks spans)
    → at_place (after_action w (Deliver number node)).sent (length (after_action w (Deliver number node)).sent) ≡ Some (Ack2 (spans_back w node asks spans))
unfolding with_message with_spans
close_sends w number node asks spans e there = rw (receives w number node (Ack asks spans) e there) (sent_last w.sent (Ack2 (spans_back w node asks spans)))

end_places : (w : PlaceWorld) (number node : ℕ) (spans : ℕ → Option Span) → runs w node ≡ true → at_place w.sent number ≡ Some (Ack2 spans)
    → (owner : ℕ) → (after_action w (Deliver number node)).places node owner ≡ places_after node (w.places node) spans owner
end_places w number node spans e there owner = rw (receives w number node (Ack2 spans) e there) (held_after w node spans owner)

-- ---- the exchange

module _ (w : PlaceWorld) (x : PlaceExchange) (s : IsSound w) (both : BothRun w x) (neither : NoStartsOfEither x) where
  after_opening_sound : IsSound (after_opening by_places w x)
  after_opening_sound = action_sound w (Opening x.opener) s

  at_syn_sound : IsSound (at_syn by_places w x)
  at_syn_sound = actions_from_sound (after_opening by_places w x) x.before_syn after_opening_sound

  after_syn_sound : IsSound (after_syn by_places w x)
  after_syn_sound = action_sound (at_syn by_places w x) (syn_delivery by_places w x) at_syn_sound

  at_ack_sound : IsSound (at_ack by_places w x)
  at_ack_sound = actions_from_sound (after_syn by_places w x) x.before_ack after_syn_sound

  after_ack_sound : IsSound (after_ack by_places w x)
  after_ack_sound = action_sound (at_ack by_places w x) (ack_delivery by_places w x) at_ack_sound

  at_ack2_sound : IsSound (at_ack2 by_places w x)
  at_ack2_sound = actions_from_sound (after_ack by_places w x) x.before_ack2 after_ack_sound

  pub to_at_syn : Keeps w (at_syn by_places w x)
  to_at_syn = keeps_on (action_keeps w (Opening x.opener)) (actions_from_keeps (after_opening by_places w x) x.before_syn)

  pub to_at_ack : Keeps (at_syn by_places w x) (at_ack by_places w x)
  to_at_ack = keeps_on (action_keeps (at_syn by_places w x) (syn_delivery by_places w x)) (actions_from_keeps (after_syn by_places w x) x.before_ack)

  pub to_at_ack2 : Keeps (at_ack by_places w x) (at_ack2 by_places w x)
  to_at_ack2 = keeps_on (action_keeps (at_ack by_places w x) (ack_delivery by_places w x)) (actions_from_keeps (after_ack by_places w x) x.before_ack2)

  holds_to_at_syn : (n : ℕ) → NoStartsOf n x.before_syn → HoldsOn n w (at_syn by_places w x)
  holds_to_at_syn n never = holds_further n w (after_opening by_places w x) (at_syn by_places w x) (action_holds n w (Opening x.opener) s tt) (actions_from_holds n (after_opening by_places w x) x.before_syn after_opening_sound never)

  holds_to_at_ack : (n : ℕ) → NoStartsOf n x.before_ack → HoldsOn n (at_syn by_places w x) (at_ack by_places w x)
  holds_to_at_ack n never =
      holds_further n (at_syn by_places w x) (after_syn by_places w x) (at_ack by_places w x) (action_holds n (at_syn by_places w x) (syn_delivery by_places w x) at_syn_sound tt) (actions_from_holds n (after_syn by_places w x) x.before_ack after_syn_sound never)

  holds_to_at_ack2 : (n : ℕ) → NoStartsOf n x.before_ack2 → HoldsOn n (at_ack by_places w x) (at_ack2 by_places w x)
  holds_to_at_ack2 n never =
      holds_further n (at_ack by_places w x) (after_ack by_places w x) (at_ack2 by_places w x) (action_holds n (at_ack by_places w x) (ack_delivery by_places w x) at_ack_sound tt) (actions_from_holds n (after_ack by_places w x) x.before_ack2 after_ack_sound never)

  pub syn_stands : at_place (at_syn by_places w x).sent (length (after_opening by_places w x).sent) ≡ Some (Syn (w.places x.opener))
  syn_stands = (actions_from_keeps (after_opening by_places w x) x.before_syn).sent _ _ (opening_sends w x.opener both.opener)

  abbrev pub asks : ℕ → Option Ask
  asks = asks_of (at_syn by_places w x) x.answerer (w.places x.opener)

  abbrev pub spans : ℕ → Option Span
  spans = spans_of (at_syn by_places w x) x.answerer (w.places x.opener)

  pub answerer_runs : runs (at_syn by_places w x) x.answerer ≡ true
  answerer_runs = still_runs to_at_syn x.answerer both.answerer

  pub ack_stands : at_place (at_ack by_places w x).sent (length (after_syn by_places w x).sent) ≡ Some (Ack asks spans)
  ack_stands = (actions_from_keeps (after_syn by_places w x) x.before_ack).sent _ _ (reply_sends (at_syn by_places w x) (length (after_opening by_places w x).sent) x.answerer (w.places x.opener) answerer_runs syn_stands)

  pub opener_runs : runs (at_ack by_places w x) x.opener ≡ true
  opener_runs = still_runs (keeps_on to_at_syn to_at_ack) x.opener both.opener

  abbrev pub back : ℕ → Option Span
  back = spans_back (at_ack by_places w x) x.opener asks spans

  pub ack2_stands : at_place (at_ack2 by_places w x).sent (length (after_ack by_places w x).sent) ≡ Some (Ack2 back)
  ack2_stands = (actions_from_keeps (after_ack by_places w x) x.before_ack2).sent _ _ (close_sends (at_ack by_places w x) (length (after_syn by_places w x).sent) x.opener asks spans opener_runs ack_stands)

  pub answerer_runs_on : runs (at_ack2 by_places w x) x.answerer ≡ true
  answerer_runs_on = still_runs (keeps_on to_at_ack to_at_ack2) x.answerer answerer_runs

  -- the place of a node that is the owner
  full : (v : PlaceWorld) → IsSound v → (node owner : ℕ) → (owner == node) ≡ true → v.places node owner ≡ length (v.histories owner)
  full v sound node owner e = subst (λ n. v.places n owner ≡ length (v.histories owner)) (same_number owner node e) (sound.own owner)

  opener_end : (owner : ℕ) → exchange_join w x owner ≤ (after_exchange by_places w x).places x.opener owner
  opener_end owner =
      let before : w.places x.opener owner ≤ (at_ack by_places w x).places x.opener owner =
      omega (arith, holds_to_at_syn x.opener neither.opener.0 owner, holds_to_at_ack x.opener neither.opener.1 owner) in
      let after : (after_ack by_places w x).places x.opener owner ≤ (after_exchange by_places w x).places x.opener owner =
      omega (arith, actions_from_holds x.opener (after_ack by_places w x) x.before_ack2 after_ack_sound neither.opener.2 owner, action_holds x.opener (at_ack2 by_places w x) (ack2_delivery by_places w x) at_ack2_sound tt owner) in
      let at_end : (owner == x.opener) ≡ true → (at_syn by_places w x).places x.answerer owner ≤ (at_ack by_places w x).places x.opener owner =
      λ e. omega (arith, full (at_ack by_places w x) at_ack_sound x.opener owner e, at_syn_sound.stands x.answerer owner, (to_at_ack.histories owner).longer) in
      let reached : exchange_join w x owner ≤ places_after x.opener ((at_ack by_places w x).places x.opener) spans owner =
      opener_reaches ((at_syn by_places w x).histories owner) (owner == x.opener) ((at_syn by_places w x).places x.answerer owner) (w.places x.opener owner) ((at_ack by_places w x).places x.opener owner) before at_end in
      omega (arith, reached, close_places (at_ack by_places w x) (length (after_syn by_places w x).sent) x.opener asks spans opener_runs ack_stands owner, after)

  -- the places that the opener holds when it answers the asks
  reached_stands : (owner : ℕ) → (with_spans (at_ack by_places w x) x.opener spans).places x.opener owner ≤ length ((at_ack by_places w x).histories owner)
  reached_stands owner =
      let are : AreSpans (at_ack by_places w x).histories spans = (at_ack_sound.messages (length (after_syn by_places w x).sent) (Ack asks spans) ack_stands).1 in
      spans_stand (at_ack by_places w x) x.opener spans at_ack_sound are x.opener owner

  answerer_end : (owner : ℕ) → exchange_join w x owner ≤ (after_exchange by_places w x).places x.answerer owner
  answerer_end owner =
      let now : ℕ = (with_spans (at_ack by_places w x) x.opener spans).places x.opener owner in
      let on : (at_syn by_places w x).places x.answerer owner ≤ (at_ack2 by_places w x).places x.answerer owner =
      omega (arith, holds_to_at_ack x.answerer neither.answerer.1 owner, holds_to_at_ack2 x.answerer neither.answerer.2 owner) in
      let theirs : w.places x.opener owner ≤ now =
      omega (arith, held_after (at_ack by_places w x) x.opener spans owner, place_with_rises (owner == x.opener) ((at_ack by_places w x).places x.opener owner) (spans owner), holds_to_at_syn x.opener neither.opener.0 owner, holds_to_at_ack x.opener neither.opener.1 owner) in
      let at_end : (owner == x.answerer) ≡ true → now ≤ (at_ack2 by_places w x).places x.answerer owner =
      λ e. omega (arith, full (at_ack2 by_places w x) at_ack2_sound x.answerer owner e, reached_stands owner, (to_at_ack2.histories owner).longer) in
      let within : w.places x.opener owner ≤ length ((at_syn by_places w x).histories owner) = omega (arith, s.stands x.opener owner, (to_at_syn.histories owner).longer) in
      let taken : exchange_join w x owner ≤ places_after x.answerer ((at_ack2 by_places w x).places x.answerer) back owner =
      answerer_reaches ((at_syn by_places w x).histories owner) ((at_ack by_places w x).histories owner) (owner == x.answerer) ((at_syn by_places w x).places x.answerer owner) (w.places x.opener owner) now ((at_ack2 by_places w x).places x.answerer owner)
      (at_ack_sound.histories owner) (to_at_ack.histories owner) within (reached_stands owner) theirs on at_end in
      omega (arith, taken, end_places (at_ack2 by_places w x) (length (after_ack by_places w x).sent) x.answerer back answerer_runs_on ack2_stands owner)

  pub exchange_reaches : ReachesTheJoin w x
  exchange_reaches = record { opener = opener_end; answerer = answerer_end }

  -- ---- none of its own steps is refused

  delivery_is_due : (v : PlaceWorld) (number node : ℕ) (message : PlaceMessage) → runs v node ≡ true → at_place v.sent number ≡ Some message → refusal v (Deliver number node) ≡ None
  delivery_is_due v number node message running there = rw there (rw running refl)

  pub opening_is_due : refusal w (Opening x.opener) ≡ None
  opening_is_due = rw both.opener refl

  pub syn_is_due : refusal (at_syn by_places w x) (syn_delivery by_places w x) ≡ None
  syn_is_due = delivery_is_due (at_syn by_places w x) _ x.answerer _ answerer_runs syn_stands

  pub ack_is_due : refusal (at_ack by_places w x) (ack_delivery by_places w x) ≡ None
  ack_is_due = delivery_is_due (at_ack by_places w x) _ x.opener _ opener_runs ack_stands

  pub ack2_is_due : refusal (at_ack2 by_places w x) (ack2_delivery by_places w x) ≡ None
  ack2_is_due = delivery_is_due (at_ack2 by_places w x) _ x.answerer _ answerer_runs_on ack2_stands

-- An exchange with nothing between its messages takes its nodes no further than the join.
use Rattle.std.proofs.Common.{◌≡◌, ℕ, ◌≤◌, length, refl, ◌∙◌, ap, arith, true, Option, Some, max}
use Rattle.std.specs.Prelude.{◌==◌}
use Rattle.cg_entry.specs.History.{at_place}
use Rattle.cg_entry.specs.Place.{Span}
use Rattle.cg_places.specs.Places.{Ask}
use Rattle.cg_places.specs.PlaceMessages.{PlaceMessage, Syn, Ack, Ack2}
use Rattle.cg_places.specs.PlaceWorld.{PlaceWorld, Opening, Deliver, runs, with_message, with_spans, after_action}
use Rattle.cg_places.specs.Exchange.{PlaceExchange, prompt_place_exchange, by_places, after_opening, after_syn, after_ack, after_exchange, NoStartsOfEither}
use Rattle.cg_places.specs.Laws.{BothRun, EndsAtTheJoin}
use Rattle.cg_places.proofs.PutLemmas.{put_at-each}
use Rattle.cg_places.proofs.StepLemmas.{place_with_below}
use Rattle.cg_places.proofs.WorldLemmas.{IsSound}
use Rattle.cg_places.proofs.PlaceCases.{span_for_to, grants_to}
use Rattle.cg_places.proofs.ExchangeLemmas.{receives, asks_of, spans_of, spans_back, syn_stands, ack_stands, ack2_stands, answerer_runs, opener_runs, answerer_runs_on, exchange_reaches}

-- ---- actions that keep places below a bound

spans_below : (w : PlaceWorld) (node : ℕ) (spans : ℕ → Option Span) (owner bound : ℕ) → ((span : Span) → spans owner ≡ Some span → span.to ≤ bound)
    → (m : ℕ) → w.places m owner ≤ bound → w.places node owner ≤ bound → (with_spans w node spans).places m owner ≤ bound
unfolding with_spans
spans_below w node spans owner bound to m l k = put_at-each (λ m row. w.places m owner ≤ bound → row owner ≤ bound) w.places node _
    (λ l. place_with_below (owner == node) (w.places node owner) bound (spans owner) k to) (λ m apart l. l) m l

message_places : (w : PlaceWorld) (message : PlaceMessage) → (with_message w message).places ≡ w.places
unfolding with_message
message_places w message = refl

opening_places : (w : PlaceWorld) (opener : ℕ) → runs w opener ≡ true → (after_action w (Opening opener)).places ≡ w.places
unfolding after_action
opening_places w opener e = rw e (message_places w (Syn (w.places opener)))

reply_places : (w : PlaceWorld) (number node : ℕ) (theirs : ℕ → ℕ) → runs w node ≡ true → at_place w.sent number ≡ Some (Syn theirs) → (after_action w (Deliver number node)).places ≡ w.places
reply_places w number node theirs e there = rw (receives w number node (Syn theirs) e there) (message_places w _)

close_below : (w : PlaceWorld) (number node : ℕ) (asks : ℕ → Option Ask) (spans : ℕ → Option Span) → runs w node ≡ true → at_place w.sent number ≡ Some (Ack asks spans)
    → (owner bound : ℕ) → ((span : Span) → spans owner ≡ Some span → span.to ≤ bound) → (m : ℕ) → w.places m owner ≤ bound → w.places node owner ≤ bound → (after_action w (Deliver number node)).places m owner ≤ bound
unfolding with_message
close_below w number node asks spans e there owner bound to m l k = rw (receives w number node (Ack asks spans) e there) (spans_below w node spans owner bound to m l k)

end_below : (w : PlaceWorld) (number node : ℕ) (spans : ℕ → Option Span) → runs w node ≡ true → at_place w.sent number ≡ Some (Ack2 spans)
    → (owner bound : ℕ) → ((span : Span) → spans owner ≡ Some span → span.to ≤ bound) → (m : ℕ) → w.places m owner ≤ bound → w.places node owner ≤ bound → (after_action w (Deliver number node)).places m owner ≤ bound
end_below w number node spans e there owner bound to m l k = rw (receives w number node (Ack2 spans) e there) (spans_below w node spans owner bound to m l k)

-- ---- the exchange

module _ (w : PlaceWorld) (opener answerer : ℕ) (s : IsSound w) (both : BothRun w (prompt_place_exchange opener answerer)) where
  abbrev x : PlaceExchange
  x = prompt_place_exchange opener answerer

  neither : NoStartsOfEither (prompt_place_exchange opener answerer)
  neither = record { opener = (tt, tt, tt); answerer = (tt, tt, tt) }

  after_opening_places : (after_opening by_places w x).places ≡ w.places
  after_opening_places = opening_places w opener both.opener

  after_syn_places : (after_syn by_places w x).places ≡ w.places
  after_syn_places = reply_places (after_opening by_places w x) (length (after_opening by_places w x).sent) answerer (w.places opener) (answerer_runs w x s both neither) (syn_stands w x s both neither) ∙ after_opening_places

  module _ (owner : ℕ) where
    abbrev top : ℕ
    top = max (w.places answerer owner) (w.places opener owner)

    at_after_opening : (m : ℕ) → (after_opening by_places w x).places m owner ≡ w.places m owner
    at_after_opening m = ap (λ (rows : ℕ → ℕ → ℕ). rows m owner) after_opening_places

    at_after_syn : (m : ℕ) → (after_syn by_places w x).places m owner ≡ w.places m owner
    at_after_syn m = ap (λ (rows : ℕ → ℕ → ℕ). rows m owner) after_syn_places

    abbrev spans : ℕ → Option Span
    spans = spans_of (after_opening by_places w x) answerer (w.places opener)

    abbrev asks : ℕ → Option Ask
    asks = asks_of (after_opening by_places w x) answerer (w.places opener)

    sent_below : (span : Span) → spans owner ≡ Some span → span.to ≤ top
    sent_below span e = omega (arith, span_for_to ((after_opening by_places w x).histories owner) ((after_opening by_places w x).places answerer owner) (w.places opener owner) span e, at_after_opening answerer)

    after_ack_below : (m : ℕ) → w.places m owner ≤ top → (after_ack by_places w x).places m owner ≤ top
    after_ack_below m l = close_below (after_syn by_places w x) (length (after_syn by_places w x).sent) opener asks spans (opener_runs w x s both neither) (ack_stands w x s both neither) owner top sent_below m (omega (arith, at_after_syn m, l)) (omega (arith, at_after_syn opener))

    reached_below : (with_spans (after_syn by_places w x) opener spans).places opener owner ≤ top
    reached_below = spans_below (after_syn by_places w x) opener spans owner top sent_below opener (omega (arith, at_after_syn opener)) (omega (arith, at_after_syn opener))

    back_below : (span : Span) → spans_back (after_syn by_places w x) opener asks spans owner ≡ Some span → span.to ≤ top
    back_below span e = omega (arith, grants_to ((after_syn by_places w x).histories owner) ((with_spans (after_syn by_places w x) opener spans).places opener owner) (asks owner) span e, reached_below)

    undisturbed_below : (m : ℕ) → w.places m owner ≤ top → (after_exchange by_places w x).places m owner ≤ top
    undisturbed_below m l = end_below (after_ack by_places w x) (length (after_ack by_places w x).sent) answerer (spans_back (after_syn by_places w x) opener asks spans) (answerer_runs_on w x s both neither) (ack2_stands w x s both neither) owner top back_below m (after_ack_below m l) (after_ack_below answerer (omega arith))

  pub undisturbed_ends : EndsAtTheJoin w opener answerer
  undisturbed_ends = record {
    opened = λ owner. omega (arith, (exchange_reaches w x s both neither).opener owner, at_after_opening owner answerer, undisturbed_below owner opener (omega arith));
    answered = λ owner. omega (arith, (exchange_reaches w x s both neither).answerer owner, at_after_opening owner answerer, undisturbed_below owner answerer (omega arith));
  }

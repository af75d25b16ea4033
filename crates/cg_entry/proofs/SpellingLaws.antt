-- The laws of deltas that spell spans.
use Rattle.std.proofs.Common.{◌≡◌, ℕ, ◌<◌, ◌≤◌, ◌⊎◌, inl, inr, List, length, Option, Some, refl, sym, ap, subst, ◌∙◌, arith}
use Rattle.std.specs.Prelude.{IsSome}
use Rattle.std.specs.Option.{option_and_then}
use Rattle.cg_entry.specs.Values.{EntryValue, DeltaValue}
use Rattle.cg_entry.specs.Entry.{newest, delta_above}
use Rattle.cg_entry.specs.Taking.{entry_after}
use Rattle.cg_types.specs.ListPlace.{at_place}
use Rattle.cg_entry.specs.History.{IsHistory, generation_at, generation_of}
use Rattle.cg_entry.specs.Place.{Span, IsSpan, SpanOutcome, Taken, Old, Gap, span_outcome, place_after}
use Rattle.cg_entry.specs.Spelling.{version_of, version_at, delta_of, absorbed_of}
use Rattle.cg_entry.specs.Laws.{IsTakenAsItsSpan, SpelledDeltasAreTaken, IsDeltaOfPlaces, DeltasSpellSpans}
use Rattle.cg_entry.proofs.PlaceLemmas.{at_place_some, at_place_within}
use Rattle.cg_entry.proofs.HistoryLemmas.{version_tells}
use Rattle.cg_entry.proofs.TakingLemmas.{part, above_some, above_none}
use Rattle.cg_entry.proofs.SpellingLemmas.{span_below, met_spelled}

-- the entry held afterwards
held_spelled : (h : List EntryValue) (span : Span) (r : ℕ) (y : EntryValue) → at_place h span.to ≡ Some y → (t : SpanOutcome) → entry_after (at_place h r) (absorbed_of h span t) ≡ at_place h (place_after t r span)
held_spelled h span r y ey Taken = rw ey refl
held_spelled h span r y ey Old = refl
held_spelled h span r y ey Gap = refl

pub taken_as_its_span : (h : List EntryValue) → IsHistory h → (span : Span) → IsSpan h span → (r : ℕ) → r ≤ length h → (y : EntryValue) → at_place h span.to ≡ Some y → IsTakenAsItsSpan h span r (part (version_at h span.from) y)
taken_as_its_span h is span s r le y ey =
    let outcome = met_spelled h is span s y ey r le in
    record { outcome = outcome; held = ap (entry_after (at_place h r)) outcome ∙ held_spelled h span r y ey (span_outcome r span) }

pub spelled_deltas_are_taken : SpelledDeltasAreTaken
spelled_deltas_are_taken h is span s r le d e =
    let y = at_place_some h span.to (omega (arith, s.rises)) s.stands in
    let named : delta_of h span ≡ Some (part (version_at h span.from) y.0) = ap (option_and_then (delta_above (version_at h span.from))) y.1 ∙ above_some (version_at h span.from) y.0 (span_below h is span s y.0 y.1) in
    let same : part (version_at h span.from) y.0 ≡ d = cc in
    subst (IsTakenAsItsSpan h span r) same (taken_as_its_span h is span s r le y.0 y.1)

-- ---- the delta that a node sends

module _ (h : List EntryValue) (is : IsHistory h) (from to : ℕ) (y : EntryValue) (stands : from ≤ length h) (ey : at_place h to ≡ Some y) (alike : (from ≡ 0) ⊎ (generation_at h from ≡ y.generation)) where
  span_is : from < to → IsSpan h (record { from = from; to = to })
  span_is lt = record { rises = lt; stands = (at_place_within h to y ey).1; alike = elim alike [ inl z ↦ inl z | inr g ↦ inr (g ∙ sym (ap generation_of ey)) ] }

  -- a place that is not later has no greater version
  not_above : to ≤ from → newest y ≤ version_at h from
  not_above le = go alike
    where
      go : (from ≡ 0) ⊎ (generation_at h from ≡ y.generation) → newest y ≤ version_at h from
      go (inl z) = absurd (omega (arith, (at_place_within h to y ey).0))
      go (inr g) = let t = (version_tells h from to is stands (at_place_within h to y ey).1 (g ∙ sym (ap generation_of ey))).0 in let v = ap version_of ey in grind (arith, t, v)

  abbrev sent : Option DeltaValue
  sent = delta_above (version_at h from) y

  only_later : (from < to) ⊎ (to ≤ from) → IsSome sent → from < to
  only_later (inl lt) some = lt
  only_later (inr le) some = absurd (let none = subst IsSome (above_none (version_at h from) y (not_above le)) some in cc)

  sent_later : from < to → sent ≡ Some (part (version_at h from) y)
  sent_later lt = above_some (version_at h from) y (span_below h is (record { from = from; to = to }) (span_is lt) y ey)

  pub delta_of_places : IsDeltaOfPlaces h from to (delta_above (version_at h from) y)
  delta_of_places = record {
    exists = (only_later (grind arith), λ lt. subst IsSome (sym (sent_later lt)) refl);
    spells = λ d e. (span_is (only_later (grind arith) (subst IsSome (sym e) refl)), ap (option_and_then (delta_above (version_at h from))) ey ∙ e);
  }

pub deltas_spell_spans : DeltasSpellSpans
deltas_spell_spans h is from to y stands ey alike = delta_of_places h is from to y stands ey alike

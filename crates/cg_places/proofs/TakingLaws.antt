-- Outcomes of spelled deltas at a spelled table.
use Rattle.std.proofs.Common.{◌≡◌, ◌==◌, ◌≤◌, ℕ, List, length, Option, Some, None, refl, sym, ap, ◌∙◌, arith}
use Rattle.std.specs.Prelude.{find}
use Rattle.std.specs.Option.{option_map, option_and_then, option_or}
use Rattle.std.specs.Ordering.{nat_cmp}
use Rattle.std.specs.FinMap as table
use Rattle.std.specs.FinMap.Entries as entries
use Rattle.std.specs.List.{filter_map}
use Rattle.cg_types.specs.Rising.{Rises}
use Rattle.cg_entry.specs.Values.{EntryValue, DeltaValue}
use Rattle.cg_entry.specs.Entry.{delta_above}
use Rattle.cg_entry.specs.History.{IsHistory, at_place}
use Rattle.cg_entry.specs.Place.{Span, IsSpan}
use Rattle.cg_entry.specs.Spelling.{version_at, delta_of}
use Rattle.cg_entry.proofs.PlaceLemmas.{at_place_some}
use Rattle.cg_entry.proofs.TakingLemmas.{part, above_some}
use Rattle.cg_entry.proofs.SpellingLemmas.{span_below}
use Rattle.cg_entry.specs.declared.took.Took.{Took}
use Rattle.cg_table.specs.Values.{TableValue}
use Rattle.cg_table.specs.Spelling.{SpellsPlaces}
use Rattle.cg_table.specs.Places.{took_for, place_with}
use Rattle.cg_table.proofs.MergeLemmas.{get-put_each}
use Rattle.cg_table.proofs.PlaceLaws.{held_with, row_key, IsChangedAsItsSpan, changed_as_its_span, place_with_stands}
use Rattle.cg_messages.specs.declared.owner_delta.OwnerDelta.{OwnerDelta}
use Rattle.cg_messages.specs.declared.outcome.Outcome.{Outcome}
use Rattle.cg_messages.specs.Members.{about, endpoints_of_deltas}
use Rattle.cg_exchange.specs.Taking.{table_after, outcome_of, outcomes_of}
use Rattle.cg_exchange.specs.Changes.{row_changed}
use Rattle.cg_places.specs.MessageSpelling.{SpellsSpans, outcome_about}
use Rattle.cg_places.specs.PlaceMessages.{AreSpans, places_after}
use Rattle.cg_exchange.proofs.WalkLemmas.{row_found}
use Rattle.cg_places.proofs.MemberLemmas.{found_mapped, found_map}
use Rattle.cg_exchange.proofs.TakingLemmas.{taken_at_once, rows_rise}

-- the entry held of an owner after deltas, by the delta that they have about it
left_of : TableValue → ℕ → Option OwnerDelta → Option EntryValue
left_of t q o = held_with (option_and_then (row_changed t) o) (table.get t.entries q)

module _ (t : TableValue) (ds : List OwnerDelta) (rise : Rises (endpoints_of_deltas ds)) where
  changed_at : (q : ℕ) → entries.find nat_cmp q (filter_map (row_changed t) ds) ≡ option_map (λ r. r.1) (option_and_then (row_changed t) (find (λ d. d.endpoint == q) ds))
  changed_at q =
      sym (row_found q (filter_map (row_changed t) ds))
      ∙ ap (option_map (λ (r : ℕ × EntryValue). r.1)) (found_mapped (λ (d : OwnerDelta). d.endpoint) (λ (r : ℕ × EntryValue). r.0) (row_changed t) (λ d. row_key t d.endpoint d.delta) q ds rise)

  held_at : (q : ℕ) → table.get (table_after t ds).entries q ≡ left_of t q (find (λ d. d.endpoint == q) ds)
  unfolding left_of
  held_at q =
      ap (λ (t : TableValue). table.get t.entries q) (taken_at_once t ds rise).after
      ∙ get-put_each q None (filter_map (row_changed t) ds) t.entries (rows_rise t ds rise)
      ∙ ap (λ (o : Option EntryValue). option_or o (table.get t.entries q)) (changed_at q)

  outcome_at : (q : ℕ) → find (λ (o : Outcome). o.endpoint == q) (outcomes_of t ds) ≡ option_map (outcome_of t) (find (λ d. d.endpoint == q) ds)
  outcome_at q =
      ap (λ (os : List Outcome). find (λ (o : Outcome). o.endpoint == q) os) (taken_at_once t ds rise).outcomes
      ∙ found_map (λ (d : OwnerDelta). d.endpoint) (λ (o : Outcome). o.endpoint) (outcome_of t) (λ d. refl) q ds

-- a span is spelled by a delta
named : (h : List EntryValue) → IsHistory h → (span : Span) → IsSpan h span → (d : DeltaValue) × (delta_of h span ≡ Some d)
named h is span stands =
    let y = at_place_some h span.to (omega (arith, stands.rises)) stands.stands in
    (part (version_at h span.from) y.0, ap (option_and_then (delta_above (version_at h span.from))) y.1 ∙ above_some (version_at h span.from) y.0 (span_below h is span stands y.0 y.1))

module _ (t : TableValue) (q : ℕ) (h : List EntryValue) (is : IsHistory h) (p : ℕ) (lp : p ≤ length h) (held : table.get t.entries q ≡ at_place h p) where
  changed : (span : Span) (stands : IsSpan h span) → IsChangedAsItsSpan t q h p span (named h is span stands).0
  changed span stands = let d = named h is span stands in changed_as_its_span t q h is p lp held span stands d.0 d.1

  span_left : (o : Option Span) → ((span : Span) → o ≡ Some span → IsSpan h span) → left_of t q (option_map (about q) (option_and_then (delta_of h) o)) ≡ at_place h (place_with (q == t.own) p o)
  unfolding left_of
  span_left None stand = held
  span_left (Some span) stand = rw (named h is span (stand span refl)).1 (changed span (stand span refl)).held

  span_outcome : (o : Option Span) → ((span : Span) → o ≡ Some span → IsSpan h span)
      → option_map (outcome_of t) (option_map (about q) (option_and_then (delta_of h) o)) ≡ option_map (λ span. record { endpoint = q; took = took_for (q == t.own) p span }) o
  span_outcome None stand = refl
  span_outcome (Some span) stand =
      rw (named h is span (stand span refl)).1 (ap (λ (took : Took). Some (record { endpoint = q; took = took })) (changed span (stand span refl)).outcome)

-- deltas that spell spans, at a table that spells places
module _ (hs : ℕ → List EntryValue) (are : (owner : ℕ) → IsHistory (hs owner)) (t : TableValue) (deltas : List OwnerDelta) (mine : ℕ → ℕ) (spans : ℕ → Option Span)
    (rise : Rises (endpoints_of_deltas deltas)) (held : SpellsPlaces hs t.entries mine) (spelled : SpellsSpans hs deltas spans) (stand : AreSpans hs spans) where
  pub own_kept : (table_after t deltas).own ≡ t.own
  own_kept = ap (λ (t : TableValue). t.own) (taken_at_once t deltas rise).after

  pub places_taken : SpellsPlaces hs (table_after t deltas).entries (places_after t.own mine spans)
  places_taken = record {
    at = λ owner.
        held_at t deltas rise owner ∙ ap (left_of t owner) (spelled.at owner)
        ∙ span_left t owner (hs owner) (are owner) (mine owner) (held.stand owner) (held.at owner) (spans owner) (stand owner);
    stand = λ owner. place_with_stands (hs owner) (owner == t.own) (mine owner) (spans owner) (held.stand owner) (stand owner);
  }

  pub outcomes_taken : (owner : ℕ) → outcome_about owner (outcomes_of t deltas) ≡ option_map (λ span. record { endpoint = owner; took = took_for (owner == t.own) (mine owner) span }) (spans owner)
  outcomes_taken owner =
      outcome_at t deltas rise owner ∙ ap (option_map (outcome_of t)) (spelled.at owner)
      ∙ span_outcome t owner (hs owner) (are owner) (mine owner) (held.stand owner) (held.at owner) (spans owner) (stand owner)

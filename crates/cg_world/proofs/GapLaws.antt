-- Each delta that is handed over is told of; as gaps are told those that lie past what is held, and no others.
use Rattle.std.proofs.Common.{◌≡◌, ℕ, ◌<◌, ◌≤◌, ◌⊎◌, inl, inr, List, [], ◌∷◌, ◌++◌, length, refl, sym, ◌∙◌, ap, subst, arith, Bool, true, false, Option, Some, None}
use Rattle.std.specs.Prelude.{◌↔◌, ◌==◌, IsTrue, IsSome, is_ok, is_some, nat_le, cond}
use Rattle.std.specs.Option.{option_map, option_map_or, option_and_then}
use Rattle.std.specs.FinMap as map
use Rattle.std.proofs.lemmas.Bool.Decides.{nat_tests}
use Rattle.cg_entry.specs.Values.{EntryValue, DeltaValue}
use Rattle.cg_entry.specs.Entry.{newest}
use Rattle.cg_entry.specs.History.{IsHistory, at_place, generation_of, generation_at}
use Rattle.cg_entry.specs.Place.{Span, IsSpan, Taken, Old, Gap}
use Rattle.cg_entry.specs.Spelling.{version_of, version_at, delta_of}
use Rattle.cg_entry.proofs.PlaceLemmas.{at_place_none}
use Rattle.cg_entry.proofs.HistoryLemmas.{ComesBefore, comes_before, version_positive}
use Rattle.cg_messages.specs.declared.message.Message.{Message}
use Rattle.cg_messages.specs.declared.outcome.Outcome.{Outcome}
use Rattle.cg_messages.specs.declared.owner_delta.OwnerDelta.{OwnerDelta}
use Rattle.cg_messages.specs.Members.{about}
use Rattle.cg_places.specs.PlaceMessages.{PlaceMessage, Syn, Ack, Ack2, IsPlaceMessage, AreSpans}
use Rattle.cg_places.specs.Places.{took_for, took_of_span}
use Rattle.cg_places.specs.MessageSpelling.{delta_about, outcome_about}
use Rattle.cg_core.specs.declared.reply.Reply.{Reply}
use Rattle.cg_core.specs.SettingsValues.{SettingsValue}
use Rattle.cg_core.specs.Values.{NodeValue}
use Rattle.cg_places.specs.PlaceWorld.{PlaceWorld}
use Rattle.cg_places.proofs.PutLemmas.{same_number}
use Rattle.cg_world.specs.World.{Action, Deliver, WorldValue, reply_to, acting, run, place_world}
use Rattle.cg_world.specs.Terms.{Runs, deltas_in, deltas_sent, delta_sent, outcome_told, is_gap, mark_of, IsWithin, LiesPast}
use Rattle.cg_world.specs.SingleActions.{AreReplies, outcomes_in}
use Rattle.cg_world.specs.Taken.{spans_in, AreCounted}
use Rattle.cg_world.proofs.MarkLemmas.{mark_at, mark_here, mark_rises, IsDeltaTo, span_delta}
use Rattle.cg_world.proofs.WorldLaws.{Joined, joined, spelled, deliveries_are_done}
use Rattle.cg_world.proofs.SingleActions.{replies_are_of_steps}
use Rattle.cg_world.proofs.TakenLaws.{outcomes_tell_what_is_taken}

-- the spans of a message of the histories
pub spans_are : (histories : ℕ → List EntryValue) (said : PlaceMessage) → IsPlaceMessage histories said → AreSpans histories (spans_in said)
spans_are histories (Syn places) is = λ owner span e. absurd cc
spans_are histories (Ack asks spans) is = is.1
spans_are histories (Ack2 spans) is = is

-- ---- one delta

module _ (h : List EntryValue) (is : IsHistory h) (span : Span) (s : IsSpan h span) (d : DeltaValue) (generation : d.generation ≡ generation_at h span.to) (above : d.above ≡ version_at h span.from)
    (p : ℕ) (stands : p ≤ length h) where
  -- a delta above a version begins at a place
  begins_somewhere : 0 < d.above → 0 < span.from
  begins_somewhere pos = go (grind arith)
    where
      go : (span.from ≡ 0) ⊎ (0 < span.from) → 0 < span.from
      go (inl z) = let none : version_at h span.from ≡ 0 = ap (version_at h) z in absurd (omega (arith, pos, above, none))
      go (inr lt) = lt

  -- and then in the generation of its end
  one_generation : 0 < span.from → d.generation ≡ generation_at h span.from
  one_generation lt = elim (s.alike) [ inl z ↦ absurd (omega (arith, lt, z)) | inr same ↦ generation ∙ sym same ]

  positive : 0 < span.from → 0 < d.above
  positive lt = let v : 0 < version_at h span.from = version_positive h span.from is lt (omega (arith, s.rises, s.stands)) in omega (arith, v, above)

  pub lies_past : p < span.from ↔ LiesPast d (at_place h p)
  lies_past = go (at_place h p) refl
    where
      go : (o : Option EntryValue) → at_place h p ≡ o → p < span.from ↔ LiesPast d o
      go None none =
          let z : p ≡ 0 = at_place_none h p stands none in
          (λ lt. positive (omega (arith, lt)), λ pos. let b = begins_somewhere pos in omega (arith, z, b))
      go (Some e) here = (forth, λ l. back l (grind arith))
        where
          forth : p < span.from → (0 < d.above) × (IsWithin (d.generation, d.above) (mark_of e) → ⊥)
          forth lt =
              let from : 0 < span.from = omega (arith, lt) in
              let g : e.generation ≡ generation_at h p = sym (ap generation_of here) in
              let v : newest e ≡ version_at h p = sym (ap version_of here) in
              let same : d.generation ≡ generation_at h span.from = one_generation from in
              let before : ComesBefore h p span.from = comes_before h p span.from is lt (omega (arith, s.rises, s.stands)) in
              (positive from, λ within. grind (arith, g, v, same, above, before, within))

          back : (0 < d.above) × (IsWithin (d.generation, d.above) (mark_of e) → ⊥) → (p < span.from) ⊎ (span.from ≤ p) → p < span.from
          back l (inl lt) = lt
          back l (inr le) =
              let same : d.generation ≡ generation_at h span.from = one_generation (begins_somewhere l.0) in
              let rises : IsWithin (mark_at h span.from) (mark_at h p) = mark_rises h is span.from p le stands in
              let within : IsWithin (d.generation, d.above) (mark_of e) = subst (λ (m : ℕ × ℕ). IsWithin (d.generation, d.above) m) (mark_here h p e here)
              (subst (λ (m : ℕ × ℕ). IsWithin m (mark_at h p)) (λ i. (sym same i, sym above i)) rises) in
              absurd (l.1 within)

-- a span that does not reach back to the place has the outcome Gap
pub gap_by_place : (own : Bool) (p : ℕ) (span : Span) → span.from < span.to → (own ≡ true → span.from ≤ p) → IsTrue (is_gap (took_for own p span)) ↔ p < span.from
gap_by_place true p span rises own = (λ gap. absurd cc, λ lt. let le = own refl in absurd (omega (arith, lt, le)))
gap_by_place false p span rises own = go (nat_le span.to p) (nat_le span.from p) refl refl
  where
    go : (past reached : Bool) → nat_le span.to p ≡ past → nat_le span.from p ≡ reached → IsTrue (is_gap (took_of_span (cond past Old (cond reached Taken Gap)))) ↔ p < span.from
    go true reached t r = (λ gap. absurd cc, λ lt. absurd (grind (arith, nat_tests, t, lt, rises)))
    go false true t r = (λ gap. absurd cc, λ lt. absurd (grind (arith, nat_tests, r, lt)))
    go false false t r = (λ gap. grind (arith, nat_tests, r), λ lt. refl)

-- ---- one delivery

module _ (settings : SettingsValue) (earlier : List Action) (number node now owner : ℕ) (n : NodeValue) (runs : Runs (run settings earlier) node n) where
  abbrev c : WorldValue
  c = run settings earlier

  abbrev w : PlaceWorld
  w = place_world earlier

  abbrev h : List EntryValue
  h = w.histories owner

  abbrev p : ℕ
  p = w.places node owner

  j : Joined c w
  j = joined settings earlier

  held : map.get n.table.entries owner ≡ at_place h p
  held = (spelled settings earlier node n runs).at owner

  own_stands : (span : Span) → IsSpan h span → (owner == node) ≡ true → span.from ≤ p
  own_stands span s same =
      let is : owner ≡ node = same_number owner node same in
      let newest_place : w.places node owner ≡ length (w.histories owner) = subst (λ k. w.places node k ≡ length (w.histories k)) (sym is) (j.tied.is_world.own node) in
      omega (arith, newest_place, s.rises, s.stands)

  module _ (outcome : Outcome) (d : OwnerDelta) where
    span_told : (o : Option Span) → ((span : Span) → o ≡ Some span → IsSpan h span)
        → option_map (λ span. record { endpoint = owner; took = took_for (owner == node) p span }) o ≡ Some outcome
        → option_map (about owner) (option_and_then (delta_of h) o) ≡ Some d → IsTrue (is_gap outcome.took) ↔ LiesPast d.delta (map.get n.table.entries owner)
    span_told None are eo ed = absurd cc
    span_told (Some span) are eo ed =
        let s : IsSpan h span = are span refl in
        let to : IsDeltaTo h span = span_delta h (j.tied.sound.histories owner) span s in
        let some : Some (about owner to.delta) ≡ Some d = sym (ap (option_map (about owner)) to.is) ∙ ed in
        let told : record { endpoint = owner; took = took_for (owner == node) p span } ≡ outcome = cc in
        let sent : about owner to.delta ≡ d = cc in
        let gap : IsTrue (is_gap (took_for (owner == node) p span)) ↔ p < span.from = gap_by_place (owner == node) p span s.rises (own_stands span s) in
        let lies : p < span.from ↔ LiesPast to.delta (at_place h p) =
        lies_past h (j.tied.sound.histories owner) span s to.delta to.generation to.above p (j.tied.is_world.places node owner) in
        subst (λ (x : Outcome). IsTrue (is_gap x.took) ↔ LiesPast d.delta (map.get n.table.entries owner)) told
        (subst (λ (x : OwnerDelta). IsTrue (is_gap (took_for (owner == node) p span)) ↔ LiesPast x.delta (map.get n.table.entries owner)) sent
        (subst (λ (o : Option EntryValue). IsTrue (is_gap (took_for (owner == node) p span)) ↔ LiesPast to.delta o) (sym held)
        (λ g. lies.0 (gap.0 g), λ l. gap.1 (lies.1 l))))

    reply_told : (reply : Option Reply) → reply_to c (Deliver number node now) ≡ reply → outcome_about owner (option_map_or outcomes_in reply []) ≡ Some outcome → delta_sent c number owner ≡ Some d
        → IsTrue (is_gap outcome.took) ↔ LiesPast d.delta (map.get n.table.entries owner)
    reply_told None none eo ed = absurd cc
    reply_told (Some answer) is eo ed =
        let a : AreCounted c w (place_world (earlier ++ Deliver number node now ∷ [])) number node (outcomes_in answer) = (outcomes_tell_what_is_taken settings earlier).deliveries number node now answer is in
        let are : AreSpans w.histories (spans_in a.said) = spans_are w.histories a.said (j.tied.sound.messages number a.said a.is_said) in
        let sent : deltas_sent c number ≡ deltas_in a.message = rw a.is_message refl in
        span_told (spans_in a.said owner) (are owner) (sym (a.each owner) ∙ eo) (sym (a.spelled.at owner) ∙ sym (ap (delta_about owner) sent) ∙ ed)

  pub gap_told : (outcome : Outcome) (d : OwnerDelta) → outcome_told c number node now owner ≡ Some outcome → delta_sent c number owner ≡ Some d
      → IsTrue (is_gap outcome.took) ↔ LiesPast d.delta (map.get n.table.entries owner)
  gap_told outcome d told sent = reply_told outcome d (reply_to c (Deliver number node now)) refl told sent

  -- ---- each delta is told of

  module _ (d : OwnerDelta) (sent : delta_sent c number owner ≡ Some d) where
    -- the message was sent
    sent_by : (o : Option Message) → at_place c.sent number ≡ o → delta_about owner (option_map_or deltas_in o []) ≡ Some d → is_some o ≡ true
    sent_by None is e = absurd cc
    sent_by (Some m) is e = refl

    is_done : is_ok (acting c (Deliver number node now)) ≡ true
    is_done = deliveries_are_done settings earlier number node now (sent_by (at_place c.sent number) refl sent) (ap is_some runs)

    is_replied : is_some (reply_to c (Deliver number node now)) ≡ true
    is_replied = let replies : AreReplies c = replies_are_of_steps c in replies.delivery number node now ∙ is_done

    span_has : (o : Option Span) → option_map (about owner) (option_and_then (delta_of h) o) ≡ Some d → is_some {T = Outcome} (option_map (λ span. record { endpoint = owner; took = took_for (owner == node) p span }) o) ≡ true
    span_has None e = absurd cc
    span_has (Some span) e = refl

    has_outcome : (reply : Option Reply) → reply_to c (Deliver number node now) ≡ reply → is_some reply ≡ true → IsSome (outcome_about owner (option_map_or outcomes_in reply []))
    has_outcome None none some = absurd cc
    has_outcome (Some answer) is some =
        let a : AreCounted c w (place_world (earlier ++ Deliver number node now ∷ [])) number node (outcomes_in answer) = (outcomes_tell_what_is_taken settings earlier).deliveries number node now answer is in
        let of_message : deltas_sent c number ≡ deltas_in a.message = rw a.is_message refl in
        ap is_some (a.each owner) ∙ span_has (spans_in a.said owner) (sym (a.spelled.at owner) ∙ sym (ap (delta_about owner) of_message) ∙ sent)

    pub delta_told : IsSome (outcome_told c number node now owner)
    delta_told = has_outcome (reply_to c (Deliver number node now)) refl is_replied

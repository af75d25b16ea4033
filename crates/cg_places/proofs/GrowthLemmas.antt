-- Histories that go on, and the entries and messages that they keep.
use Rattle.std.proofs.Common.{◌≡◌, ℕ, ◌+◌, ◌<◌, ◌≤◌, inl, inr, List, [], ◌∷◌, ◌++◌, length, refl, sym, ◌∙◌, ap, subst, arith, Option, Some, None}
use Rattle.cg_entry.specs.Values.{EntryValue}
use Rattle.cg_entry.specs.Entry.{starting_entry}
use Rattle.cg_entry.specs.History.{Follows, Starts, IsHistory, generation_at, generation_of}
use Rattle.cg_entry.specs.Place.{Span, IsSpan}
use Rattle.cg_entry.proofs.HistoryLaws.{histories_grow}
use Rattle.cg_entry.proofs.PlaceLemmas.{at_place-append, at_place_none}
use Rattle.cg_places.specs.Places.{Ask, IsAsk}
use Rattle.cg_places.specs.PlaceMessages.{PlaceMessage, Syn, Ack, Ack2, IsPlaceMessage}
use Rattle.cg_places.specs.PlaceWorld.{last_entry, grown}
use Rattle.cg_places.specs.Laws.{Continues}
use Rattle.cg_places.proofs.PutLemmas.{length_push, put_at-each, put_at_here}

pub continues_itself : (h : List EntryValue) → Continues h h
continues_itself h = record { longer = omega arith; same = λ p l. refl }

pub continues_push : (h : List EntryValue) (y : EntryValue) → Continues h (h ++ y ∷ [])
continues_push h y = record { longer = omega (arith, length_push h y); same = λ p l. at_place-append h (y ∷ []) p l }

pub continues_on : {h k l : List EntryValue} → Continues h k → Continues k l → Continues h l
continues_on a b = record {
  longer = omega (arith, a.longer, b.longer);
  same = λ p le. b.same p (omega (arith, le, a.longer)) ∙ a.same p le;
}

pub same_generation : {h k : List EntryValue} → Continues h k → (p : ℕ) → p ≤ length h → generation_at k p ≡ generation_at h p
same_generation c p l = ap generation_of (c.same p l)

-- every history goes on
abbrev pub AllContinue : (ℕ → List EntryValue) → (ℕ → List EntryValue) → Type 0
AllContinue old new = (owner : ℕ) → Continues (old owner) (new owner)

pub grown_continue : (histories : ℕ → List EntryValue) (node : ℕ) (entry : EntryValue) → AllContinue histories (grown histories node entry)
grown_continue histories node entry = put_at-each (λ owner h. Continues (histories owner) h) histories node _ (continues_push (histories node) entry) (λ owner apart. continues_itself (histories owner))

pub grown_length : (histories : ℕ → List EntryValue) (node : ℕ) (entry : EntryValue) → length (grown histories node entry node) ≡ length (histories node) + 1
grown_length histories node entry = ap length (put_at_here histories node _) ∙ length_push (histories node) entry

-- ---- one more entry

pub history_follows : (h : List EntryValue) (x y : EntryValue) → IsHistory h → last_entry h ≡ Some x → Follows x y → IsHistory (h ++ y ∷ [])
history_follows h x y is e follows = histories_grow.next h x y is e follows

-- a history of nobody is empty
empty_of : (h : List EntryValue) → length h ≡ 0 → h ≡ []
empty_of [] e = refl
empty_of (x ∷ h) e = absurd (omega (arith, e))

pub history_starts : (h : List EntryValue) (g : ℕ) → IsHistory h → generation_at h (length h) < g → IsHistory (h ++ starting_entry g ∷ [])
history_starts h g is rises = go (last_entry h) refl
  where
    go : (o : Option EntryValue) → last_entry h ≡ o → IsHistory (h ++ starting_entry g ∷ [])
    go None e = subst (λ h. IsHistory (h ++ starting_entry g ∷ [])) (sym (empty_of h (at_place_none h (length h) (omega arith) e))) (histories_grow.first g)
    go (Some x) e = history_follows h x (starting_entry g) is e (Starts g (omega (arith, rises, ap generation_of e)) refl)

-- ---- messages of a history that goes on

pub span_stays : {h k : List EntryValue} → Continues h k → (span : Span) → IsSpan h span → IsSpan k span
span_stays c span is = record {
  rises = is.rises;
  stands = omega (arith, c.longer, is.stands);
  alike = elim (is.alike) [
    | inl z ↦ inl z
    | inr g ↦ inr (same_generation c span.from (omega (arith, is.rises, is.stands)) ∙ g ∙ sym (same_generation c span.to is.stands))
  ];
}

ask_stays : {h k : List EntryValue} → Continues h k → (ask : Ask) → IsAsk h ask → IsAsk k ask
ask_stays c ask is = record {
  stands = omega (arith, c.longer, is.stands);
  alike = elim (is.alike) [ inl z ↦ inl z | inr g ↦ inr (same_generation c ask.from is.stands ∙ g) ];
}

pub message_stays : (old new : ℕ → List EntryValue) → AllContinue old new → (message : PlaceMessage) → IsPlaceMessage old message → IsPlaceMessage new message
message_stays old new c (Syn places) is = λ owner. omega (arith, is owner, (c owner).longer)
message_stays old new c (Ack asks spans) is = (λ owner ask e. ask_stays (c owner) ask (is.0 owner ask e), λ owner span e. span_stays (c owner) span (is.1 owner span e))
message_stays old new c (Ack2 spans) is = λ owner span e. span_stays (c owner) span (is owner span e)

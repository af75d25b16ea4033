-- Marks of deltas and of places of a history: a generation, and the newest version in it.
use Rattle.std.proofs.Common.{◌≡◌, ℕ, ◌<◌, ◌≤◌, ◌⊎◌, inl, inr, List, [], ◌∷◌, ◌++◌, length, refl, sym, ◌∙◌, ap, subst, arith, Bool, true, false, Option, Some, None, max, ltb-false}
use Rattle.std.specs.Prelude.{⊤, cond, IsSome, nat_lt, nat_le, map as map_list}
use Rattle.std.specs.List.{filter}
use Rattle.std.specs.FinMap.{entries}
use Rattle.std.proofs.lemmas.Bool.Decides.{nat_tests}
use Rattle.cg_entry.specs.Versioned.{Versioned, States}
use Rattle.cg_entry.specs.Values.{EntryValue, DeltaValue}
use Rattle.cg_entry.specs.Entry.{greatest_of, greatest, newest, newer_than, delta_above}
use Rattle.cg_entry.specs.History.{IsHistory, at_place, generation_of, generation_at}
use Rattle.cg_entry.specs.Place.{Span, IsSpan}
use Rattle.cg_entry.specs.Spelling.{version_of, version_at, delta_of}
use Rattle.cg_entry.specs.Laws.{IsDeltaOfPlaces}
use Rattle.cg_entry.proofs.DeltaLemmas.{entries-newer_than}
use Rattle.cg_entry.proofs.PlaceLemmas.{at_place_some}
use Rattle.cg_entry.proofs.HistoryLemmas.{comes_before}
use Rattle.cg_entry.proofs.SpellingLaws.{deltas_spell_spans}
use Rattle.cg_places.specs.Laws.{Continues}
use Rattle.cg_places.proofs.GrowthLemmas.{span_stays}
use Rattle.cg_world.specs.Terms.{mark_of, mark_led_to, IsWithin}

-- ---- the newest version in a delta

abbrev is_over : ℕ → ℕ × Versioned → Bool
is_over v e = nat_lt v e.1.version

greatest_max : (n s : ℕ) (es : List (ℕ × Versioned)) → greatest_of (max n s) es ≡ max (greatest_of n es) s
greatest_max n s [] = refl
greatest_max n s (e ∷ es) =
    let turned : max (max n s) e.1.version ≡ max (max n e.1.version) s = omega arith in
    ap (λ m. greatest_of m es) turned ∙ greatest_max (max n e.1.version) s es

-- leaving out versions up to one below the greatest leaves the greatest
greatest_over : (v n : ℕ) (es : List (ℕ × Versioned)) → v < greatest_of n es → greatest_of n (filter (is_over v) es) ≡ greatest_of n es
greatest_over v n [] lt = refl
greatest_over v n (e ∷ es) lt = go (λ n lt. greatest_over v n es lt) (nat_lt v e.1.version) refl
  where
    go : ((n : ℕ) → v < greatest_of n es → greatest_of n (filter (is_over v) es) ≡ greatest_of n es) → (b : Bool) → nat_lt v e.1.version ≡ b → greatest_of n (cond b (e ∷ filter (is_over v) es) (filter (is_over v) es)) ≡ greatest_of (max n e.1.version) es
    go on true t = on (max n e.1.version) lt
    go on false t =
        let le = ltb-false v e.1.version t in
        let is : greatest_of (max n e.1.version) es ≡ max (greatest_of n es) e.1.version = greatest_max n e.1.version es in
        let less : v < greatest_of n es = omega (arith, lt, le, is) in
        on n less ∙ omega (arith, is, less, le)

newest_newer : (v heartbeat : ℕ) (states : States) → v < greatest heartbeat states → greatest heartbeat (newer_than v states) ≡ greatest heartbeat states
newest_newer v heartbeat states lt = ap (greatest_of heartbeat) (entries-newer_than v states) ∙ greatest_over v heartbeat (entries states) lt

-- a delta leads to the mark of its entry
leads_to_mark : (v : ℕ) (e : EntryValue) (d : DeltaValue) → delta_above v e ≡ Some d → mark_led_to d ≡ mark_of e
leads_to_mark v e d is = go (nat_le (newest e) v) refl is
  where
    go : (b : Bool) → nat_le (newest e) v ≡ b → cond b None (Some (record { generation = e.generation; above = v; heartbeat = e.heartbeat; states = newer_than v e.states })) ≡ Some d → mark_led_to d ≡ mark_of e
    go true t is = absurd cc
    go false t is =
        let lt : v < newest e = grind (arith, nat_tests) in
        let same : record { generation = e.generation; above = v; heartbeat = e.heartbeat; states = newer_than v e.states } ≡ d = cc in
        subst (λ d. mark_led_to d ≡ mark_of e) same (ap (λ (n : ℕ). (e.generation, n)) (newest_newer v e.heartbeat e.states lt))

-- the version that a delta is above
begins_at : (v : ℕ) (e : EntryValue) (d : DeltaValue) → delta_above v e ≡ Some d → (d.generation ≡ e.generation) × (d.above ≡ v)
begins_at v e d is = go (nat_le (newest e) v) refl is
  where
    go : (b : Bool) → nat_le (newest e) v ≡ b → cond b None (Some (record { generation = e.generation; above = v; heartbeat = e.heartbeat; states = newer_than v e.states })) ≡ Some d
        → (d.generation ≡ e.generation) × (d.above ≡ v)
    go true t is = absurd cc
    go false t is =
        let same : record { generation = e.generation; above = v; heartbeat = e.heartbeat; states = newer_than v e.states } ≡ d = cc in
        subst (λ (d : DeltaValue). (d.generation ≡ e.generation) × (d.above ≡ v)) same (refl, refl)

-- ---- places

-- the mark at a place
abbrev pub mark_at : List EntryValue → ℕ → ℕ × ℕ
mark_at h p = (generation_at h p, version_at h p)

pub mark_here : (h : List EntryValue) (p : ℕ) (e : EntryValue) → at_place h p ≡ Some e → mark_at h p ≡ mark_of e
mark_here h p e is = ap (λ o. (generation_of o, version_of o)) is

-- a delta that spells a span leads to the mark at its end
pub record IsDeltaTo (h : List EntryValue) (span : Span) : Type 0 where
  pub delta : DeltaValue
  pub is : delta_of h span ≡ Some delta
  pub leads : mark_led_to delta ≡ mark_at h span.to
  pub generation : delta.generation ≡ generation_at h span.to
  pub above : delta.above ≡ version_at h span.from

some_of : {X : Type 0} (o : Option X) → IsSome o → (x : X) × (o ≡ Some x)
some_of None e = absurd cc
some_of (Some x) e = (x, refl)

pub span_delta : (h : List EntryValue) → IsHistory h → (span : Span) → IsSpan h span → IsDeltaTo h span
span_delta h is span s =
    let end = at_place_some h span.to (omega (arith, s.rises)) s.stands in
    let alike : (span.from ≡ 0) ⊎ (generation_at h span.from ≡ end.0.generation) = elim (s.alike) [ inl z ↦ inl z | inr g ↦ inr (g ∙ ap generation_of end.1) ] in
    let between : IsDeltaOfPlaces h span.from span.to (delta_above (version_at h span.from) end.0) = deltas_spell_spans h is span.from span.to end.0 (omega (arith, s.rises, s.stands)) end.1 alike in
    let some = some_of (delta_above (version_at h span.from) end.0) (between.exists.1 s.rises) in
    let begins : (some.0.generation ≡ end.0.generation) × (some.0.above ≡ version_at h span.from) = begins_at (version_at h span.from) end.0 some.0 some.1 in
    record {
      delta = some.0;
      is = (between.spells some.0 some.1).1;
      generation = begins.0 ∙ sym (ap generation_of end.1);
      above = begins.1;
      leads = leads_to_mark (version_at h span.from) end.0 some.0 some.1 ∙ sym (mark_here h span.to end.0 end.1);
    }

-- marks rise along a history
pub mark_rises : (h : List EntryValue) → IsHistory h → (p q : ℕ) → p ≤ q → q ≤ length h → IsWithin (mark_at h p) (mark_at h q)
mark_rises h is p q le l = go (grind arith)
  where
    go : (p ≡ q) ⊎ (p < q) → IsWithin (mark_at h p) (mark_at h q)
    go (inl e) = inr (ap (generation_at h) e, omega (arith, ap (version_at h) e))
    go (inr lt) = elim (comes_before h p q is lt l) [ inl less ↦ inl less | inr same ↦ inr (same.0, omega (arith, same.1)) ]

-- ---- spans that were taken

abbrev pub AllSpans : List EntryValue → List Span → Type 0
AllSpans h [] = ⊤
AllSpans h (span ∷ spans) = IsSpan h span × AllSpans h spans

abbrev pub marks_at : List EntryValue → List Span → List (ℕ × ℕ)
marks_at h spans = map_list (λ span. mark_at h span.to) spans

pub all_push : (h : List EntryValue) (spans : List Span) (span : Span) → AllSpans h spans → IsSpan h span → AllSpans h (spans ++ span ∷ [])
all_push h [] span all is = (is, tt)
all_push h (s ∷ spans) span all is = (all.0, all_push h spans span all.1 is)

pub marks_push : (h : List EntryValue) (spans : List Span) (span : Span) → marks_at h (spans ++ span ∷ []) ≡ marks_at h spans ++ mark_at h span.to ∷ []
marks_push h [] span = refl
marks_push h (s ∷ spans) span = ap (λ (marks : List (ℕ × ℕ)). mark_at h s.to ∷ marks) (marks_push h spans span)

pub all_stay : (h k : List EntryValue) → Continues h k → (spans : List Span) → AllSpans h spans → AllSpans k spans
all_stay h k c [] all = tt
all_stay h k c (span ∷ spans) all = (span_stays c span all.0, all_stay h k c spans all.1)

pub marks_stay : (h k : List EntryValue) → Continues h k → (spans : List Span) → AllSpans h spans → marks_at k spans ≡ marks_at h spans
marks_stay h k c [] all = refl
marks_stay h k c (span ∷ spans) all =
    let here : mark_at k span.to ≡ mark_at h span.to = ap (λ o. (generation_of o, version_of o)) (c.same span.to all.0.stands) in
    ap (λ (m : ℕ × ℕ). m ∷ marks_at k spans) here ∙ ap (λ (marks : List (ℕ × ℕ)). mark_at h span.to ∷ marks) (marks_stay h k c spans all.1)

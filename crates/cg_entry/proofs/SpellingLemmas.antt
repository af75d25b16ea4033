-- A delta that spells a span, at a place of its history.
use Rattle.std.proofs.Common.{◌≡◌, ℕ, zero, suc, ◌+◌, ◌-◌, ◌<◌, ◌≤◌, ◌⊎◌, inl, inr, List, length, Option, Some, None, refl, sym, ap, subst, ◌∙◌, arith, add-zero}
use Rattle.std.specs.FinMap.{get}
use Rattle.std.proofs.lemmas.Bool.{le-leb, lt-leb}
use Rattle.std.proofs.lemmas.Bool.Decides.{nat_tests}
use Rattle.cg_entry.specs.declared.entry.Absorbed.TheVariants as absorbed_as
use Rattle.cg_entry.specs.Values.{EntryValue}
use Rattle.cg_entry.specs.Entry.{newest, with_state}
use Rattle.cg_entry.specs.Taking.{absorption, meeting, taken_or_gap}
use Rattle.cg_types.specs.ListPlace.{at_place}
use Rattle.cg_entry.specs.History.{Follows, Starts, Beats, Sets, Removes, IsHistory, generation_at, generation_of}
use Rattle.cg_entry.specs.Place.{Span, IsSpan, SpanOutcome, Taken, Old, Gap, span_outcome}
use Rattle.cg_entry.specs.Spelling.{version_of, version_at, absorbed_of}
use Rattle.cg_entry.proofs.PlaceLemmas.{at_place_some, at_place_within, at_place_none}
use Rattle.cg_entry.proofs.HistoryLemmas.{GivenAt, Here, Elsewhere, given, given_at, IsBefore, comes_before, generation_rises, version_tells, version_positive, all_positive, Compared, Behind, Ahead, SameBehind, SameAhead, SamePlace, compared}
use Rattle.cg_entry.proofs.TakingLemmas.{part, KeptAt, Kept, Renewed, whole_part, no_whole_part, absorbed_older, absorbed_whole, absorbed_part, absorbed_old, absorbed_gap, absorbed_taken}

-- ---- a key keeps its state until it is given another

given_keeps : (key : ℕ) (text : Option (List ℕ)) (x y : EntryValue) (k : ℕ) → y ≡ with_state key text x → GivenAt key text x k → KeptAt x y k
given_keeps key text x y k e (Here f) = Renewed (given key text x) (ap (λ (y : EntryValue). get y.states k) e ∙ f) (omega arith)
given_keeps key text x y k e (Elsewhere f) = Kept (ap (λ (y : EntryValue). get y.states k) e ∙ f)

follows_keeps : {x y : EntryValue} → Follows x y → x.generation ≡ y.generation → (k : ℕ) → KeptAt x y k
follows_keeps (Starts g l e) same k = absurd (omega (arith, l, same, ap (λ (y : EntryValue). y.generation) e))
follows_keeps (Beats e) same k = Kept (ap (λ (y : EntryValue). get y.states k) e)
follows_keeps {x} {y} (Sets key text e) same k = given_keeps key (Some text) x y k e (given_at key (Some text) x k)
follows_keeps {x} {y} (Removes key stood e) same k = given_keeps key None x y k e (given_at key None x k)

keeps_on : (x y z : EntryValue) (k : ℕ) → newest x ≤ newest y → KeptAt x y k → KeptAt y z k → KeptAt x z k
keeps_on x y z k le (Kept e) (Kept f) = Kept (f ∙ e)
keeps_on x y z k le (Renewed s e lt) (Kept f) = Renewed s (f ∙ e) lt
keeps_on x y z k le a (Renewed s f lt) = Renewed s f (omega arith)

newest_up : (p q : ℕ) (x y : EntryValue) → Compared p q x y → p ≤ q → x.generation ≡ y.generation → newest x ≤ newest y
newest_up p q x y (Behind lt g) le same = absurd (omega arith)
newest_up p q x y (Ahead lt g) le same = absurd (omega arith)
newest_up p q x y (SameBehind lt g n) le same = omega arith
newest_up p q x y (SameAhead lt g n) le same = absurd (omega arith)
newest_up p q x y (SamePlace e s) le same = omega (arith, ap newest s)

keeps_by : (h : List EntryValue) (p d : ℕ) → IsHistory h → (x z : EntryValue) → at_place h p ≡ Some x → at_place h (p + d) ≡ Some z → x.generation ≡ z.generation → (k : ℕ) → KeptAt x z k
keeps_by h p zero is x z ex ez same k =
    let there : at_place h p ≡ Some z = subst (λ n. at_place h n ≡ Some z) (add-zero p) ez in
    let e : z ≡ x = cc in
    Kept (ap (λ (y : EntryValue). get y.states k) e)
keeps_by h p (suc d) is x z ex ez same k =
    let step : p + suc d ≡ suc (p + d) = omega arith in
    let last : at_place h (suc (p + d)) ≡ Some z = subst (λ n. at_place h n ≡ Some z) step ez in
    let within : suc (p + d) ≤ length h = (at_place_within h (suc (p + d)) z last).1 in
    let some : 0 < p = (at_place_within h p x ex).0 in
    let y = at_place_some h (p + d) (omega arith) (omega arith) in
    let up : generation_at h p ≤ generation_at h (p + d) = generation_rises h p (p + d) is (omega arith) (omega arith) in
    let on : generation_at h (p + d) ≤ generation_at h (suc (p + d)) = generation_rises h (p + d) (suc (p + d)) is (omega arith) within in
    let here : x.generation ≡ y.0.generation = omega (arith, up, on, ap generation_of ex, ap generation_of y.1, ap generation_of last) in
    keeps_on x y.0 z k (newest_up p (p + d) x y.0 (compared h p (p + d) is x y.0 ex y.1) (omega arith) here) (keeps_by h p d is x y.0 ex y.1 here k) (follows_keeps (is.goes_on (p + d) y.0 z y.1 last) (sym here ∙ same) k)

-- from one place to a later one of the same generation
keeps_between : (h : List EntryValue) (p q : ℕ) → IsHistory h → (x z : EntryValue) → at_place h p ≡ Some x → at_place h q ≡ Some z → p ≤ q → x.generation ≡ z.generation → (k : ℕ) → KeptAt x z k
keeps_between h p q is x z ex ez le same k =
    let e : q ≡ p + (q - p) = omega arith in
    keeps_by h p (q - p) is x z ex (subst (λ n. at_place h n ≡ Some z) e ez) same k

-- ---- the order of versions at the places of a span

pub taking_cases : (place : ℕ) (span : Span) →
    ((span_outcome place span ≡ Old) × (span.to ≤ place)) ⊎ ((span_outcome place span ≡ Taken) × (span.from ≤ place) × (place < span.to)) ⊎ ((span_outcome place span ≡ Gap) × (place < span.from) × (place < span.to))
taking_cases place span = grind (arith, nat_tests)

module _ (h : List EntryValue) (is : IsHistory h) (span : Span) (s : IsSpan h span) (y : EntryValue) (ey : at_place h span.to ≡ Some y) where
  -- the span begins at none, or in y's generation
  data Begins : Type 0 where
    AtNone : span.from ≡ 0 → version_at h span.from ≡ 0 → Begins
    Within : 0 < span.from → 0 < version_at h span.from → generation_at h span.from ≡ y.generation → Begins

  begins : Begins
  begins = go s.alike (grind arith)
    where
      go : (span.from ≡ 0) ⊎ (generation_at h span.from ≡ generation_at h span.to) → (span.from ≡ 0) ⊎ (0 < span.from) → Begins
      go (inl z) w = AtNone z (ap (version_at h) z)
      go (inr g) (inl z) = AtNone z (ap (version_at h) z)
      go (inr g) (inr p) = Within p (version_positive h span.from is p (omega (arith, s.rises, s.stands))) (g ∙ ap generation_of ey)

  pub span_below : version_at h span.from < newest y
  span_below = go begins
    where
      go : Begins → version_at h span.from < newest y
      go (AtNone z e) = omega (arith, e, ap version_of ey, version_positive h span.to is (omega (arith, s.rises)) s.stands)
      go (Within p q g) = omega (arith, ap version_of ey, (version_tells h span.from span.to is (omega (arith, s.rises, s.stands)) s.stands (g ∙ sym (ap generation_of ey))).1 s.rises)

  -- ---- at an entry

  module _ (r : ℕ) (x : EntryValue) (ex : at_place h r ≡ Some x) where
    within : r ≤ length h
    within = (at_place_within h r x ex).1

    old : span.to ≤ r → Compared r span.to x y → absorption x (part (version_at h span.from) y) ≡ absorbed_as.Old
    old le (Behind lt g) = absurd (omega arith)
    old le (Ahead lt g) = absorbed_older (version_at h span.from) x y g
    old le (SameBehind lt g n) = absurd (omega arith)
    old le (SameAhead lt g n) = absorbed_old (version_at h span.from) x y g span_below (omega arith)
    old le (SamePlace e same) = absorbed_old (version_at h span.from) x y (ap (λ (e : EntryValue). e.generation) same) span_below (omega (arith, ap newest same))

    taken : span.from ≤ r → r < span.to → Begins → Compared r span.to x y → absorption x (part (version_at h span.from) y) ≡ absorbed_as.Taken y
    taken le lt (AtNone z e) (Behind l g) = absorbed_whole (version_at h span.from) x y g e (all_positive h span.to is y ey)
    taken le lt (Within p q b) (Behind l g) = absurd (omega (arith, generation_rises h span.from r is le within, b, ap generation_of ex, g))
    taken le lt b (Ahead l g) = absurd (omega arith)
    taken le lt b (SameBehind l g n) = absorbed_taken (version_at h span.from) x y g span_below n (reached b) (keeps_between h r span.to is x y ex ey (omega arith) g)
      where
        reached : Begins → version_at h span.from ≤ newest x
        reached (AtNone z e) = omega (arith, e)
        reached (Within p q b) = let t = (version_tells h r span.from is within (omega (arith, s.rises, s.stands)) (ap generation_of ex ∙ g ∙ sym b)).0 in let v = ap version_of ex in grind (arith, t, v)
    taken le lt b (SameAhead l g n) = absurd (omega arith)
    taken le lt b (SamePlace e same) = absurd (omega arith)

    gap : r < span.from → Begins → absorption x (part (version_at h span.from) y) ≡ absorbed_as.Gap
    gap lt (AtNone z e) = absurd (omega arith)
    gap lt (Within p q b) = go (comes_before h r span.from is lt (omega (arith, s.rises, s.stands)))
      where
        go : IsBefore (generation_at h r) (version_at h r) (generation_at h span.from) (version_at h span.from) → absorption x (part (version_at h span.from) y) ≡ absorbed_as.Gap
        go (inl less) = absorbed_part (version_at h span.from) x y (omega (arith, less, b, ap generation_of ex)) q
        go (inr more) = absorbed_gap (version_at h span.from) x y (sym (ap generation_of ex) ∙ more.0 ∙ b) span_below (omega (arith, more.1, ap version_of ex))

  -- ---- at an entry, or at none

  abbrev MetAs : ℕ → Option EntryValue → SpanOutcome → Type 0
  MetAs r held t = meeting held (part (version_at h span.from) y) ≡ absorbed_of h span t

  taken_is : taken_or_gap (at_place h span.to) ≡ absorbed_as.Taken y
  taken_is = ap taken_or_gap ey

  at_none : (r : ℕ) → r ≡ 0 → Begins → MetAs r None (span_outcome r span)
  at_none r none (AtNone z e) =
      let t : span_outcome r span ≡ Taken = rw (lt-leb span.to r (omega (arith, s.rises)), le-leb span.from r (omega arith)) refl in
      subst (MetAs r None) (sym t) (ap taken_or_gap (whole_part (version_at h span.from) y e (all_positive h span.to is y ey)) ∙ sym taken_is)
  at_none r none (Within p q g) =
      let t : span_outcome r span ≡ Gap = rw (lt-leb span.to r (omega (arith, s.rises)), lt-leb span.from r (omega arith)) refl in
      subst (MetAs r None) (sym t) (ap taken_or_gap (no_whole_part (version_at h span.from) y q))

  at_some : (r : ℕ) (x : EntryValue) → at_place h r ≡ Some x →
      ((span_outcome r span ≡ Old) × (span.to ≤ r)) ⊎ ((span_outcome r span ≡ Taken) × (span.from ≤ r) × (r < span.to)) ⊎ ((span_outcome r span ≡ Gap) × (r < span.from) × (r < span.to)) → MetAs r (Some x) (span_outcome r span)
  at_some r x ex (inl c) = subst (MetAs r (Some x)) (sym c.0) (old r x ex c.1 (compared h r span.to is x y ex ey))
  at_some r x ex (inr (inl c)) = subst (MetAs r (Some x)) (sym c.0) (taken r x ex c.1 c.2 begins (compared h r span.to is x y ex ey) ∙ sym taken_is)
  at_some r x ex (inr (inr c)) = subst (MetAs r (Some x)) (sym c.0) (gap r x ex c.1 begins)

  met_cases : (r : ℕ) (held : Option EntryValue) → r ≤ length h → at_place h r ≡ held → MetAs r held (span_outcome r span)
  met_cases r None le e = at_none r (at_place_none h r le e) begins
  met_cases r (Some x) le e = at_some r x e (taking_cases r span)

  pub met_spelled : (r : ℕ) → r ≤ length h → meeting (at_place h r) (part (version_at h span.from) y) ≡ absorbed_of h span (span_outcome r span)
  met_spelled r le = met_cases r (at_place h r) le refl

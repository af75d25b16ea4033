-- The spans and asks that the rules of messages give, by places, lie in the history.
use Rattle.std.proofs.Common.{◌≡◌, ◌<◌, ◌≤◌, ◌⊎◌, inl, inr, ℕ, Bool, true, false, List, length, Some, None, refl, sym, ◌∙◌, subst, arith, nat_lt}
use Rattle.std.proofs.lemmas.Bool.Decides.{nat_tests}
use Rattle.cg_entry.specs.Values.{EntryValue}
use Rattle.cg_entry.specs.History.{generation_at}
use Rattle.cg_entry.specs.Place.{Span, IsSpan}
use Rattle.cg_places.specs.Places.{Ask, IsAsk, within_generation, span_for, ask_for, span_asked}
use Rattle.cg_places.specs.MessageLaws.{RulesStand}

within_cases : (h : List EntryValue) (g p : ℕ) → ((within_generation h g p ≡ p) × (generation_at h p ≡ g)) ⊎ (within_generation h g p ≡ 0)
within_cases h g p = grind (arith, nat_tests)

span_for_cases : (h : List EntryValue) (mine theirs : ℕ) →
    ((span_for h mine theirs ≡ None) × (mine ≤ theirs)) ⊎ ((span_for h mine theirs ≡ Some (record { from = within_generation h (generation_at h mine) theirs; to = mine })) × (theirs < mine))
span_for_cases h mine theirs = go (nat_lt theirs mine) refl
  where
    go : (b : Bool) → nat_lt theirs mine ≡ b → ((span_for h mine theirs ≡ None) × (mine ≤ theirs)) ⊎ ((span_for h mine theirs ≡ Some (record { from = within_generation h (generation_at h mine) theirs; to = mine })) × (theirs < mine))
    go true e = inr (rw e refl, grind (arith, nat_tests))
    go false e = inl (rw e refl, grind (arith, nat_tests))

ask_for_cases : (h : List EntryValue) (mine theirs : ℕ) →
    ((ask_for h mine theirs ≡ None) × (theirs ≤ mine)) ⊎ ((ask_for h mine theirs ≡ Some (record { generation = generation_at h theirs; from = within_generation h (generation_at h theirs) mine })) × (mine < theirs))
ask_for_cases h mine theirs = go (nat_lt mine theirs) refl
  where
    go : (b : Bool) → nat_lt mine theirs ≡ b → ((ask_for h mine theirs ≡ None) × (theirs ≤ mine)) ⊎ ((ask_for h mine theirs ≡ Some (record { generation = generation_at h theirs; from = within_generation h (generation_at h theirs) mine })) × (mine < theirs))
    go true e = inr (rw e refl, grind (arith, nat_tests))
    go false e = inl (rw e refl, grind (arith, nat_tests))

span_from_place : (h : List EntryValue) (mine theirs : ℕ) → mine ≤ length h → theirs < mine → IsSpan h (record { from = within_generation h (generation_at h mine) theirs; to = mine })
span_from_place h mine theirs l lt = record {
  rises = grind (arith, within_cases h (generation_at h mine) theirs);
  stands = l;
  alike = elim (within_cases h (generation_at h mine) theirs) [ inl a ↦ inr (rw a.0 a.1) | inr z ↦ inl z ];
}

span_for_is : (h : List EntryValue) (mine theirs : ℕ) (span : Span) → mine ≤ length h → span_for h mine theirs ≡ Some span → IsSpan h span
span_for_is h mine theirs span l e = go (span_for_cases h mine theirs)
  where
    go : ((span_for h mine theirs ≡ None) × (mine ≤ theirs)) ⊎ ((span_for h mine theirs ≡ Some (record { from = within_generation h (generation_at h mine) theirs; to = mine })) × (theirs < mine)) → IsSpan h span
    go (inl a) = absurd (let e0 = a.0 in cc)
    go (inr a) = let e0 = a.0 in let same : ◌≡◌ {A = Span} (record { from = within_generation h (generation_at h mine) theirs; to = mine }) span = cc in subst (IsSpan h) same (span_from_place h mine theirs l a.1)

ask_from_place : (h : List EntryValue) (mine theirs : ℕ) → mine ≤ length h → IsAsk h (record { generation = generation_at h theirs; from = within_generation h (generation_at h theirs) mine })
ask_from_place h mine theirs l = record {
  stands = grind (arith, within_cases h (generation_at h theirs) mine);
  alike = elim (within_cases h (generation_at h theirs) mine) [ inl a ↦ inr (rw a.0 a.1) | inr z ↦ inl z ];
}

ask_for_is : (h : List EntryValue) (mine theirs : ℕ) (ask : Ask) → mine ≤ length h → ask_for h mine theirs ≡ Some ask → IsAsk h ask
ask_for_is h mine theirs ask l e = go (ask_for_cases h mine theirs)
  where
    go : ((ask_for h mine theirs ≡ None) × (theirs ≤ mine)) ⊎ ((ask_for h mine theirs ≡ Some (record { generation = generation_at h theirs; from = within_generation h (generation_at h theirs) mine })) × (mine < theirs)) → IsAsk h ask
    go (inl a) = absurd (let e0 = a.0 in cc)
    go (inr a) = let e0 = a.0 in let same : ◌≡◌ {A = Ask} (record { generation = generation_at h theirs; from = within_generation h (generation_at h theirs) mine }) ask = cc in subst (IsAsk h) same (ask_from_place h mine theirs l)

span_asked_cases : (h : List EntryValue) (mine : ℕ) (ask : Ask) →
    ((span_asked h mine ask ≡ None) × ((mine ≡ 0) ⊎ (generation_at h mine < ask.generation) ⊎ (generation_at h mine ≡ ask.generation) × (mine ≤ ask.from)))
    ⊎ ((span_asked h mine ask ≡ Some (record { from = 0; to = mine })) × (0 < mine) × (ask.generation < generation_at h mine))
    ⊎ ((span_asked h mine ask ≡ Some (record { from = ask.from; to = mine })) × (0 < mine) × (generation_at h mine ≡ ask.generation) × (ask.from < mine))
span_asked_cases h mine ask = grind (arith, nat_tests)

span_asked_is : (h : List EntryValue) (mine : ℕ) (ask : Ask) (span : Span) → mine ≤ length h → IsAsk h ask → span_asked h mine ask ≡ Some span → IsSpan h span
span_asked_is h mine ask span l is e = go (span_asked_cases h mine ask)
  where
    go : ((span_asked h mine ask ≡ None) × ((mine ≡ 0) ⊎ (generation_at h mine < ask.generation) ⊎ (generation_at h mine ≡ ask.generation) × (mine ≤ ask.from)))
        ⊎ ((span_asked h mine ask ≡ Some (record { from = 0; to = mine })) × (0 < mine) × (ask.generation < generation_at h mine))
        ⊎ ((span_asked h mine ask ≡ Some (record { from = ask.from; to = mine })) × (0 < mine) × (generation_at h mine ≡ ask.generation) × (ask.from < mine)) → IsSpan h span
    go (inl a) = absurd (let e0 = a.0 in cc)
    go (inr (inl a)) = let same : ◌≡◌ {A = Span} (record { from = 0; to = mine }) span = let e0 = a.0 in cc in
        subst (IsSpan h) same (record { rises = a.1; stands = l; alike = inl refl })
    go (inr (inr a)) = let same : ◌≡◌ {A = Span} (record { from = ask.from; to = mine }) span = let e0 = a.0 in cc in
        subst (IsSpan h) same (record { rises = a.3; stands = l; alike = elim (is.alike) [ inl z ↦ inl z | inr g ↦ inr (g ∙ sym a.2) ] })

pub rules_stand : RulesStand
rules_stand h mine l = record {
  spans = λ theirs span e. span_for_is h mine theirs span l e;
  asks = λ theirs ask e. ask_for_is h mine theirs ask l e;
  granted = λ ask is span e. span_asked_is h mine ask span l is e;
}

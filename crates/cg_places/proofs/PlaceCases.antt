-- Answers by places: the case of each, and how far it leads.
use Rattle.std.proofs.Common.{◌≡◌, ◌<◌, ◌≤◌, ◌⊎◌, inl, inr, ℕ, Bool, true, false, List, length, Option, Some, None, refl, ap, arith, nat_lt, max}
use Rattle.std.specs.Option.{option_and_then}
use Rattle.std.proofs.lemmas.Bool.Decides.{nat_tests}
use Rattle.cg_entry.specs.Values.{EntryValue}
use Rattle.cg_entry.specs.History.{IsHistory, generation_at}
use Rattle.cg_entry.specs.Place.{Span}
use Rattle.cg_entry.proofs.HistoryLemmas.{generation_rises}
use Rattle.cg_places.specs.Places.{Ask, within_generation, span_for, ask_for, span_asked, place_with}
use Rattle.cg_places.specs.Laws.{Continues}
use Rattle.cg_places.proofs.GrowthLemmas.{same_generation}
use Rattle.cg_places.proofs.StepLemmas.{place_with_rises, place_with_reaches}

within_low : (h : List EntryValue) (g p : ℕ) → within_generation h g p ≤ p
within_low h g p = grind (arith, nat_tests)

-- ---- the answer to a SYN

abbrev pub due_span : List EntryValue → ℕ → ℕ → Span
due_span h mine theirs = record { from = within_generation h (generation_at h mine) theirs; to = mine }

abbrev SpanCases : List EntryValue → ℕ → ℕ → Type 0
SpanCases h mine theirs = ((span_for h mine theirs ≡ None) × (mine ≤ theirs)) ⊎ ((span_for h mine theirs ≡ Some (due_span h mine theirs)) × (theirs < mine))

span_cases : (h : List EntryValue) (mine theirs : ℕ) → SpanCases h mine theirs
span_cases h mine theirs = go (nat_lt theirs mine) refl
  where
    go : (b : Bool) → nat_lt theirs mine ≡ b → SpanCases h mine theirs
    go true e = inr (rw e refl, grind (arith, nat_tests))
    go false e = inl (rw e refl, grind (arith, nat_tests))

pub span_for_to : (h : List EntryValue) (mine theirs : ℕ) (span : Span) → span_for h mine theirs ≡ Some span → span.to ≡ mine
span_for_to h mine theirs span e = go (span_cases h mine theirs)
  where
    go : SpanCases h mine theirs → span.to ≡ mine
    go (inl a) = absurd (let e0 = a.0 in cc)
    go (inr a) = let same : span ≡ due_span h mine theirs = let e0 = a.0 in cc in ap (λ (s : Span). s.to) same

-- ---- the asks of an answer

abbrev pub due_ask : List EntryValue → ℕ → ℕ → Ask
due_ask h mine theirs = record { generation = generation_at h theirs; from = within_generation h (generation_at h theirs) mine }

abbrev AskCases : List EntryValue → ℕ → ℕ → Type 0
AskCases h mine theirs = ((ask_for h mine theirs ≡ None) × (theirs ≤ mine)) ⊎ ((ask_for h mine theirs ≡ Some (due_ask h mine theirs)) × (mine < theirs))

ask_cases : (h : List EntryValue) (mine theirs : ℕ) → AskCases h mine theirs
ask_cases h mine theirs = go (nat_lt mine theirs) refl
  where
    go : (b : Bool) → nat_lt mine theirs ≡ b → AskCases h mine theirs
    go true e = inr (rw e refl, grind (arith, nat_tests))
    go false e = inl (rw e refl, grind (arith, nat_tests))

-- ---- the answer to an ask

abbrev GrantCases : List EntryValue → ℕ → Ask → Type 0
GrantCases h mine ask =
    ((span_asked h mine ask ≡ None) × ((mine ≡ 0) ⊎ (generation_at h mine < ask.generation) ⊎ (generation_at h mine ≡ ask.generation) × (mine ≤ ask.from)))
    ⊎ ((span_asked h mine ask ≡ Some (record { from = 0; to = mine })) × (0 < mine) × (ask.generation < generation_at h mine))
    ⊎ ((span_asked h mine ask ≡ Some (record { from = ask.from; to = mine })) × (0 < mine) × (generation_at h mine ≡ ask.generation) × (ask.from < mine))

grant_cases : (h : List EntryValue) (mine : ℕ) (ask : Ask) → GrantCases h mine ask
grant_cases h mine ask = grind (arith, nat_tests)

grant_to : (h : List EntryValue) (mine : ℕ) (ask : Ask) (span : Span) → span_asked h mine ask ≡ Some span → span.to ≡ mine
grant_to h mine ask span e = go (grant_cases h mine ask)
  where
    go : GrantCases h mine ask → span.to ≡ mine
    go (inl a) = absurd (let e0 = a.0 in cc)
    go (inr (inl a)) = let same : ◌≡◌ {A = Span} span (record { from = 0; to = mine }) = let e0 = a.0 in cc in ap (λ (s : Span). s.to) same
    go (inr (inr a)) = let same : ◌≡◌ {A = Span} span (record { from = ask.from; to = mine }) = let e0 = a.0 in cc in ap (λ (s : Span). s.to) same

pub grants_to : (h : List EntryValue) (mine : ℕ) (o : Option Ask) (span : Span) → option_and_then (span_asked h mine) o ≡ Some span → span.to ≡ mine
grants_to h mine None span e = cc
grants_to h mine (Some ask) span e = grant_to h mine ask span e

-- ---- how far answers lead

-- theirs is what the opener held when it opened, mine what the answerer held, now what the opener holds when the reply
-- comes
pub opener_reaches : (h : List EntryValue) (own : Bool) (mine theirs now : ℕ) → theirs ≤ now → (own ≡ true → mine ≤ now) → max mine theirs ≤ place_with own now (span_for h mine theirs)
opener_reaches h own mine theirs now l at_end = go (span_cases h mine theirs)
  where
    go : SpanCases h mine theirs → max mine theirs ≤ place_with own now (span_for h mine theirs)
    go (inl a) = omega (arith, a.1, l, place_with_rises own now (span_for h mine theirs))
    go (inr a) = rw a.0 (omega (arith, a.1, place_with_reaches own now (due_span h mine theirs) at_end (λ e. omega (arith, l, within_low h (generation_at h mine) theirs))))

-- reached is what the opener holds when it answers the asks, now what the answerer holds when the answer comes
module _ (h k : List EntryValue) (own : Bool) (mine theirs reached now : ℕ) (is : IsHistory k) (c : Continues h k) (within : theirs ≤ length h) (stands : reached ≤ length k) (l : theirs ≤ reached) (on : mine ≤ now) (at_end : own ≡ true → reached ≤ now) where
  high : (due_ask h mine theirs).generation ≤ generation_at k reached
  high = omega (arith, same_generation c theirs within, generation_rises k theirs reached is l stands)

  low : (due_ask h mine theirs).from ≤ mine
  low = within_low h (generation_at h theirs) mine

  granted : mine < theirs → GrantCases k reached (due_ask h mine theirs) → max mine theirs ≤ place_with own now (span_asked k reached (due_ask h mine theirs))
  granted lt (inl a) = absurd (let b = a.1 in let f = low in let g = high in grind (arith, b))
  granted lt (inr (inl a)) = rw a.0 (omega (arith, lt, l, place_with_reaches own now (record { from = 0; to = reached }) at_end (λ e. omega arith)))
  granted lt (inr (inr a)) = rw a.0 (omega (arith, lt, l, place_with_reaches own now (record { from = (due_ask h mine theirs).from; to = reached }) at_end (λ e. omega (arith, low, on))))

  asked : AskCases h mine theirs → max mine theirs ≤ place_with own now (option_and_then (span_asked k reached) (ask_for h mine theirs))
  asked (inl a) = omega (arith, a.1, on, place_with_rises own now (option_and_then (span_asked k reached) (ask_for h mine theirs)))
  asked (inr a) = rw a.0 (granted a.1 (grant_cases k reached (due_ask h mine theirs)))

  pub answerer_reaches : max mine theirs ≤ place_with own now (option_and_then (span_asked k reached) (ask_for h mine theirs))
  answerer_reaches = asked (ask_cases h mine theirs)

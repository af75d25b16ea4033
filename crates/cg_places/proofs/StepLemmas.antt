-- Spans change a place and the list of taken spans.
use Rattle.std.proofs.Common.{◌≡◌, ℕ, ◌<◌, ◌≤◌, ◌⊎◌, inl, inr, List, [], ◌∷◌, ◌++◌, refl, arith, Bool, true, false, Option, Some, None, max}
use Rattle.std.proofs.lemmas.Bool.Decides.{nat_tests}
use Rattle.cg_entry.specs.Place.{Span, Taken, Old, Gap, span_outcome}
use Rattle.cg_places.specs.Places.{place_with}
use Rattle.cg_places.specs.PlaceWorld.{taken_with}
use Rattle.cg_places.specs.Join.{furthest, targets}

-- the case of each outcome
abbrev Outcomes : ℕ → Span → Type 0
Outcomes place span =
    ((span_outcome place span ≡ Old) × (span.to ≤ place)) ⊎ ((span_outcome place span ≡ Taken) × (span.from ≤ place) × (place < span.to)) ⊎ ((span_outcome place span ≡ Gap) × (place < span.from) × (place < span.to))

outcomes : (place : ℕ) (span : Span) → Outcomes place span
outcomes place span = grind (arith, nat_tests)

furthest_push : (spans : List Span) (span : Span) → furthest (targets (spans ++ span ∷ [])) ≡ max (furthest (targets spans)) span.to
furthest_push [] span = omega arith
furthest_push (s ∷ spans) span = omega (arith, furthest_push spans span)

pub place_with_own : (held : ℕ) (o : Option Span) → place_with true held o ≡ held
place_with_own held None = refl
place_with_own held (Some span) = refl

pub place_with_other : (held : ℕ) (span : Span) →
    ((span.to ≤ held) × (place_with false held (Some span) ≡ held)) ⊎ ((held < span.to) × (span.from ≤ held) × (place_with false held (Some span) ≡ span.to)) ⊎ ((held < span.from) × (place_with false held (Some span) ≡ held))
place_with_other held span = go (outcomes held span)
  where
    go : Outcomes held span →
        ((span.to ≤ held) × (place_with false held (Some span) ≡ held)) ⊎ ((held < span.to) × (span.from ≤ held) × (place_with false held (Some span) ≡ span.to)) ⊎ ((held < span.from) × (place_with false held (Some span) ≡ held))
    go (inl a) = inl (a.1, rw a.0 refl)
    go (inr (inl a)) = inr (inl (a.2, a.1, rw a.0 refl))
    go (inr (inr a)) = inr (inr (a.1, rw a.0 refl))

-- a place never falls
pub place_with_rises : (own : Bool) (held : ℕ) (o : Option Span) → held ≤ place_with own held o
place_with_rises true held o = omega (arith, place_with_own held o)
place_with_rises false held None = omega arith
place_with_rises false held (Some span) = grind (arith, place_with_other held span)

-- it passes no bound that the span's end does not
pub place_with_below : (own : Bool) (held bound : ℕ) (o : Option Span) → held ≤ bound → ((span : Span) → o ≡ Some span → span.to ≤ bound) → place_with own held o ≤ bound
place_with_below true held bound o l to = omega (arith, place_with_own held o, l)
place_with_below false held bound None l to = l
place_with_below false held bound (Some span) l to = let t = to span refl in grind (arith, place_with_other held span)

-- and it reaches the end of a span that is no gap
pub place_with_reaches : (own : Bool) (held : ℕ) (span : Span) → (own ≡ true → span.to ≤ held) → (own ≡ false → span.from ≤ held) → span.to ≤ place_with own held (Some span)
place_with_reaches true held span a b = a refl
place_with_reaches false held span a b = let l = b refl in grind (arith, place_with_other held span)

-- a place that is the join of the own one and of the taken ones is their join after one more span
pub place_with_joins : (own : Bool) (mine held : ℕ) (spans : List Span) (o : Option Span) → ((span : Span) → own ≡ true → o ≡ Some span → span.to ≤ held)
    → held ≡ max mine (furthest (targets spans)) → place_with own held o ≡ max mine (furthest (targets (taken_with own held spans o)))
place_with_joins own mine held spans None fits e = e
place_with_joins true mine held spans (Some span) fits e = omega (arith, furthest_push spans span, fits span refl refl)
place_with_joins false mine held spans (Some span) fits e = go (outcomes held span)
  where
    go : Outcomes held span → place_with false held (Some span) ≡ max mine (furthest (targets (taken_with false held spans (Some span))))
    go (inl a) = rw a.0 (omega (arith, furthest_push spans span, a.1))
    go (inr (inl a)) = rw a.0 (omega (arith, furthest_push spans span, a.2))
    go (inr (inr a)) = rw a.0 e

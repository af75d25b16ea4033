-- The windows as they are kept: in chunks, the endpoints rising. A walk over them makes those after a message.
use Rattle.std.specs.Prelude.{ℕ, ◌≡◌, ◌≤◌, Bool, true, refl, nat_lt, List, [], ◌∷◌, ◌++◌, Option, Some, None, if◌then◌else◌}
use Rattle.std.specs.Coded.{Coded, code_by, coded×, coded_ℕ}
use Rattle.std.specs.FinMap as map
use Rattle.std.specs.List.{flat_map, AllByRecursion}
use Rattle.std.specs.Ordering.{nat_cmp}
use Rattle.std.specs.FinMap.Entries.{find}
use Rattle.cg_types.specs.Rising.{rise_past}
use Rattle.cg_types.specs.Rows.{before, after}
use Rattle.cg_messages.specs.Members.{endpoints_of_outcomes}
use Rattle.cg_messages.specs.declared.outcome.Outcome.{Outcome}
use Rattle.cg_silence.specs.Values.{SilenceValue, Shown, WindowValue, silence_code, shown_code}
use Rattle.cg_silence.specs.Silence.{after_arrival}
use Rattle.cg_silence.specs.Windows.{was_taken}

-- the window of an endpoint after one more arrival, from the one that it had
abbrev pub heard_from : SilenceValue → ℕ → Option WindowValue → WindowValue
heard_from s now None = record { silence = s; shown = after_arrival s None now }
heard_from s now (Some w) = record { silence = w.silence; shown = after_arrival w.silence (Some w.shown) now }

-- the windows after outcomes, in one walk: each delta that was taken is an arrival of its endpoint
abbrev pub walk_heard : SilenceValue → ℕ → List Outcome → List (ℕ × WindowValue) → List (ℕ × WindowValue)
walk_heard s now [] rows = rows
walk_heard s now (o ∷ os) rows =
    if was_taken o.took
    then before o.endpoint rows ++ (o.endpoint, heard_from s now (find nat_cmp o.endpoint rows)) ∷ walk_heard s now os (after o.endpoint rows)
    else walk_heard s now os rows

-- the windows of all chunks
abbrev pub flat : List (List (ℕ × WindowValue)) → List (ℕ × WindowValue)
flat chunks = flat_map (λ rows. rows) chunks

-- the last endpoint, where k is the one before the windows
abbrev pub last_from : ℕ → List (ℕ × WindowValue) → ℕ
last_from k [] = k
last_from k (r ∷ rows) = last_from r.0 rows

-- the last endpoint, if there is one
abbrev pub last_key : List (ℕ × WindowValue) → Option ℕ
last_key [] = None
last_key (r ∷ rows) = Some (last_from r.0 rows)

-- a test that the last endpoint, if there is one, is less than k
abbrev pub is_before : Option ℕ → ℕ → Bool
is_before None k = true
is_before (Some last) k = nat_lt last k

-- a test that all of the windows are of endpoints less than k, by the last
abbrev pub ends_before : ℕ → List (ℕ × WindowValue) → Bool
ends_before k rows = is_before (last_key rows) k

-- Outcomes about endpoints up to the last one are parted from those about later ones.
abbrev pub PartedAt : Option ℕ → List Outcome → List Outcome → Type 0
PartedAt None mine later = mine ≡ []
PartedAt (Some last) mine later = AllByRecursion (λ o. o.endpoint ≤ last) mine × (rise_past (Some last) (endpoints_of_outcomes later) ≡ true)

pub record ArePart (last : Option ℕ) (all mine later : List Outcome) : Type 0 where
  pub whole : mine ++ later ≡ all
  pub parted : PartedAt last mine later

-- the code that the model of chunks requires
abbrev pub window_code : Coded WindowValue
window_code =
    code_by (SilenceValue × Shown) (coded× silence_code shown_code) (λ w. (w.silence, w.shown))
    (λ p. record { silence = p.0; shown = p.1 }) (λ _. refl)

abbrev pub chunks_code : Coded (map.FinMap nat_cmp WindowValue)
chunks_code = map.code coded_ℕ window_code

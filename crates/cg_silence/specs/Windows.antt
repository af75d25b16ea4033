-- The windows of the endpoints that were heard, and their arrivals.
use Rattle.std.specs.Prelude.{ℕ, ◌≡◌, ◌==◌, Bool, true, false, ◌&&◌, List, [], ◌∷◌, map as map_list, Option, Some, None, if◌then◌else◌, refl}
use Rattle.std.specs.Coded.{Coded, code_by, coded×, coded_ℕ}
use Rattle.std.specs.List.{list_any}
use Rattle.std.specs.Ordering.{nat_cmp}
use Rattle.std.specs.FinMap as map
use Rattle.cg_entry.specs.declared.took.Took.{Took}
use Rattle.cg_entry.specs.declared.took.Took.TheVariants as took
use Rattle.cg_messages.specs.declared.outcome.Outcome.{Outcome}
use Rattle.cg_silence.specs.declared.verdict.Verdict.{Verdict}
use Rattle.cg_silence.specs.declared.verdict.Verdict.TheVariants.{Unheard}
use Rattle.cg_silence.specs.Values.{SilenceValue, Shown, WindowValue, silence_code, shown_code}
use Rattle.cg_silence.specs.Silence.{after_arrival, verdict}

-- the gaps and last arrivals that windows show of the endpoints that were heard
abbrev pub Heard : Type 0
Heard = map.FinMap nat_cmp Shown

abbrev pub was_taken : Took → Bool
was_taken took.Taken = true
was_taken took.Old = false
was_taken took.Gap = false
was_taken took.Own = false

-- a test that any delta was taken
abbrev pub any_taken : List Outcome → Bool
any_taken outcomes = list_any (λ o. was_taken o.took) outcomes

-- a test that an outcome reports a delta of this endpoint as taken
abbrev pub tells_taken : ℕ → Outcome → Bool
tells_taken endpoint o = (o.endpoint == endpoint) && was_taken o.took

-- a test that any of them does
abbrev pub any_taken_of : ℕ → List Outcome → Bool
any_taken_of endpoint outcomes = list_any (tells_taken endpoint) outcomes

-- the windows' values after one more arrival of an endpoint
abbrev pub with_arrival : SilenceValue → ℕ → Heard → ℕ → Heard
with_arrival s now windows endpoint = map.insert windows endpoint (after_arrival s (map.get windows endpoint) now)

-- Each delta that was taken is an arrival of its endpoint.
abbrev pub arrivals : SilenceValue → ℕ → Heard → List Outcome → Heard
arrivals s now windows [] = windows
arrivals s now windows (o ∷ os) =
    arrivals s now (if was_taken o.took then with_arrival s now windows o.endpoint else windows) os

-- the verdict of an endpoint's window, if it has one
abbrev pub verdict_by : SilenceValue → Option Shown → ℕ → Verdict
verdict_by s None now = Unheard
verdict_by s (Some w) now = verdict s w now

-- the greatest arrival of an endpoint, if it has a window
abbrev pub last_arrival : Option Shown → Option ℕ
last_arrival None = None
last_arrival (Some w) = w.last

-- ---- as they are kept

-- the settings of all windows, and what each shows
pub record WindowsValue : Type 0 where
  pub silence : SilenceValue
  pub shown : Heard

abbrev pub heard_code : Coded Heard
heard_code = map.code coded_ℕ shown_code

abbrev pub windows_code : Coded WindowsValue
windows_code =
    code_by (SilenceValue × Heard) (coded× silence_code heard_code)
    (λ w. (w.silence, w.shown)) (λ p. record { silence = p.0; shown = p.1 }) (λ _. refl)

-- the values that windows show
abbrev pub shown_in : map.FinMap nat_cmp WindowValue → Heard
shown_in windows = map.from_sorted (map_list (λ w. (w.0, w.1.shown)) (map.entries windows))

-- Each window judges by these settings.
pub record AllJudge (silence : SilenceValue) (windows : map.FinMap nat_cmp WindowValue) : Type 0 where
  pub same : (endpoint : ℕ) (w : WindowValue) → map.get windows endpoint ≡ Some w → w.silence ≡ silence

-- the window of an endpoint after one more arrival
abbrev pub window_after : WindowsValue → ℕ → ℕ → WindowValue
window_after w now endpoint =
    record { silence = w.silence; shown = after_arrival w.silence (map.get w.shown endpoint) now }

-- the row that an outcome changes, if its delta was taken
abbrev pub arrival : WindowsValue → ℕ → Outcome → Option (ℕ × WindowValue)
arrival w now o = if was_taken o.took then Some (o.endpoint, window_after w now o.endpoint) else None

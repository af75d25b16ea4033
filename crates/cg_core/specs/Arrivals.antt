-- Times at which deltas of an endpoint were taken, and a window's view of them.
use Rattle.std.specs.Prelude.{ℕ, List, [], ◌∷◌, ◌++◌, map, filter, Option, Some, None, Ok, Err}
use Rattle.cg_messages.specs.declared.outcome.Outcome.{Outcome}
use Rattle.cg_silence.specs.Values.{SilenceValue, Shown}
use Rattle.cg_silence.specs.Silence.{window_of_all}
use Rattle.cg_core.specs.declared.event.Event.{Event}
use Rattle.cg_core.specs.declared.event.Event.TheVariants as event
use Rattle.cg_core.specs.Replies.{outcomes_in}
use Rattle.cg_core.specs.Values.{NodeValue}
use Rattle.cg_silence.specs.Windows.{tells_taken}
use Rattle.cg_core.specs.Step.{Step, node_step, after_event}

-- the outcomes of a step's deltas: none if the step is refused
abbrev pub outcomes_told : Step → List Outcome
outcomes_told (Ok x) = outcomes_in x.1
outcomes_told (Err fault) = []

-- the time of an event, 0 for events that have none
abbrev pub time_of : Event → ℕ
time_of event.Beat = 0
time_of (event.Set key text) = 0
time_of (event.Remove key) = 0
time_of (event.Tick now words) = now
time_of event.Opening = 0
time_of (event.Syn syn) = 0
time_of (event.Ack now ack) = now
time_of (event.Ack2 now ack2) = now

-- the time of outcomes, once for each delta of the endpoint that was taken
abbrev pub times_told : ℕ → ℕ → List Outcome → List ℕ
times_told endpoint now outcomes = map (λ _. now) (filter (tells_taken endpoint) outcomes)

-- the times at which a node took deltas of an endpoint, over a list of events
abbrev pub times_taken : ℕ → NodeValue → List Event → List ℕ
times_taken endpoint n [] = []
times_taken endpoint n (e ∷ es) =
    times_told endpoint (time_of e) (outcomes_told (node_step n e)) ++ times_taken endpoint (after_event n e) es

-- a window's view of all its arrivals; there is no window before the first arrival
abbrev pub window_of : SilenceValue → List ℕ → Option Shown
window_of s [] = None
window_of s (a ∷ arrivals) = Some (window_of_all s (a ∷ arrivals))

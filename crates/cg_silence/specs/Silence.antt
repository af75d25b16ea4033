-- Windows: the gaps that one shows of a whole list of arrivals, and its verdict.
use Rattle.std.specs.Prelude.{ℕ, ◌≡◌, ◌-◌, ◌*◌, max, nat_le, nat_lt, Bool, List, [], ◌∷◌, ◌++◌, length, sum, filter, Option, Some, None, if◌then◌else◌}
use Rattle.circular_buffer.specs.Buffer.{keep_last}
use Rattle.cg_silence.specs.Values.{SilenceValue, Shown, WindowValue}
use Rattle.cg_silence.specs.declared.limits.TheConstants.{THRESHOLD_UNIT}
use Rattle.cg_silence.specs.declared.verdict.Verdict.{Verdict}
use Rattle.cg_silence.specs.declared.verdict.Verdict.TheVariants.{Alive, Silent, Unheard}

-- the gap of an arrival: the initial one, or the time since the greatest arrival before it, at least 1
abbrev pub gap : SilenceValue → Option ℕ → ℕ → ℕ
gap s None now = s.initial_gap
gap s (Some last) now = max 1 (now - last)

-- the greatest arrival, with one at now
abbrev pub latest : Option ℕ → ℕ → ℕ
latest None now = now
latest (Some last) now = max last now

-- the greatest of these arrivals and those before them
abbrev pub greatest_arrival : Option ℕ → List ℕ → Option ℕ
greatest_arrival before [] = before
greatest_arrival before (a ∷ arrivals) = greatest_arrival (Some (latest before a)) arrivals

-- the gaps of all arrivals, given the greatest one before them
abbrev pub gaps_of : SilenceValue → Option ℕ → List ℕ → List ℕ
gaps_of s before [] = []
gaps_of s before (a ∷ arrivals) = gap s before a ∷ gaps_of s (Some (latest before a)) arrivals

-- a test that a gap is recorded
abbrev pub is_recorded : SilenceValue → ℕ → Bool
is_recorded s g = nat_le g s.max_gap

-- of these arrivals: the last of the recorded gaps, and the greatest arrival
abbrev pub window_of_all : SilenceValue → List ℕ → Shown
window_of_all s arrivals = record {
  gaps = keep_last s.window (filter (is_recorded s) (gaps_of s None arrivals));
  last = greatest_arrival None arrivals;
}

-- the window shows the gaps and the last of these arrivals
abbrev pub Shows : WindowValue → List ℕ → Type 0
Shows w arrivals = w.shown ≡ window_of_all w.silence arrivals

-- the gaps kept after one more
abbrev pub with_gap : SilenceValue → List ℕ → ℕ → List ℕ
with_gap s gaps g = if is_recorded s g then keep_last s.window (gaps ++ g ∷ []) else gaps

-- the gaps and the last arrival that are shown after one more arrival
abbrev pub heard_after : SilenceValue → Shown → ℕ → Shown
heard_after s w now = record { gaps = with_gap s w.gaps (gap s w.last now); last = Some (latest w.last now) }

-- the gaps and last arrival that a window shows after one more; if there is no window yet, after one at a new one
abbrev pub after_arrival : SilenceValue → Option Shown → ℕ → Shown
after_arrival s None now = heard_after s (window_of_all s []) now
after_arrival s (Some w) now = heard_after s w now

-- a test that the time without an arrival is more than threshold thousandths of the mean gap
abbrev pub is_over : ℕ → ℕ → ℕ → ℕ → Bool
is_over threshold elapsed count total = nat_lt (threshold * total) (elapsed * count * THRESHOLD_UNIT)

-- the verdict by the last arrival, and the number and sum of the gaps that are kept
abbrev pub judged : ℕ → Option ℕ → ℕ → ℕ → ℕ → Verdict
judged threshold None count total now = Unheard
judged threshold (Some last) count total now = if is_over threshold (now - last) count total then Silent else Alive

-- the verdict on an endpoint whose window shows this
abbrev pub verdict : SilenceValue → Shown → ℕ → Verdict
verdict s w now = judged s.threshold w.last (length w.gaps) (sum w.gaps) now

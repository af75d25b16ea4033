-- Settings of silence that are refused, each with its fault.
use Rattle.std.specs.Prelude.{not, Result, Ok, Err, if◌then◌else◌}
use Rattle.std.specs.Int.{is_in_range}
use Rattle.cg_silence.specs.declared.limits.TheConstants.{WINDOW_LIMIT, GAP_LIMIT, THRESHOLD_LIMIT}
use Rattle.cg_silence.specs.declared.fault.SilenceFault.{SilenceFault}
use Rattle.cg_silence.specs.declared.fault.SilenceFault.TheVariants as fault
use Rattle.cg_silence.specs.Values.{SilenceValue}

-- the settings if each is in its range, and else the first that is not
abbrev pub settings_or_fault : SilenceValue → Result SilenceValue SilenceFault
settings_or_fault s =
    if not (is_in_range 1 WINDOW_LIMIT s.window) then Err fault.Window
    else if not (is_in_range 1 GAP_LIMIT s.max_gap) then Err fault.MaxGap
    else if not (is_in_range 1 s.max_gap s.initial_gap) then Err fault.InitialGap
    else if not (is_in_range 1 THRESHOLD_LIMIT s.threshold) then Err fault.Threshold
    else Ok s

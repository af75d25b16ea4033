use Rattle.cg_settings_file.specs.Settings.{silence_from}
use Rattle.cg_settings_file.proofs.node.silence_in.Goals as goal

pub returns : goal.returns
unfolding silence_from
returns c = rw (c.in_ok-window.ensures, c.in_ok-initial_gap.ensures, c.in_ok-max_gap.ensures, c.in_ok-threshold.ensures, ← c.value_at.ensures) c.silence_by.ensures

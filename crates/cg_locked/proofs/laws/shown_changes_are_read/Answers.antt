use Rattle.cg_locked.proofs.Showing.{shown_changes_are_read}
use Rattle.cg_locked.proofs.laws.shown_changes_are_read.Goals as goal

pub returns : goal.returns
returns c = shown_changes_are_read

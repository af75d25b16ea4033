use Rattle.std.proofs.Common.{◌≡◌, sym, ◌∙◌}
use Rattle.cg_audit.specs.Steps.{run_item}
use Rattle.cg_audit.specs.Tracks.{track_at}
use Rattle.cg_audit.proofs.NextLemmas.{ready_none, ready_some}
use Rattle.cg_audit.proofs.turns.is_ready.Goals as goal

pub returns-in-None : goal.returns-in-None
returns-in-None c = sym (ready_none c.args.sent.now (track_at c.args.lives.now c.args.cursor).left c.in-None.ensures)

pub returns-in-Some : goal.returns-in-Some
returns-in-Some c = c.can_go.ensures ∙ sym (ready_some c.args.sent.now (track_at c.args.lives.now c.args.cursor).left (run_item c.in-Some.step) c.in-Some.ensures)

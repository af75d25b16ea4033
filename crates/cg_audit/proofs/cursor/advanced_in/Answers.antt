use Rattle.std.proofs.Common.{◌≡◌, ap, ◌∙◌}
use Rattle.cg_audit.specs.Turns.{rest}
use Rattle.cg_audit.proofs.cursor.advanced_in.Goals as goal

pub returns : goal.returns
returns c = λ e. c.after.ensures e ∙ ap rest (c.settled-at.ensures.same e)

use Rattle.std.proofs.Common.{refl, inr}
use Rattle.cg_tool.proofs.journals.Journals.read.Goals as goal

pub returns-in-Err-add : goal.returns-in-Err-add
returns-in-Err-add g c = record { unread = inr (c.in-Ok.history, c.in-Ok.ensures, refl); kept = c.in-Err-add.ensures.err }

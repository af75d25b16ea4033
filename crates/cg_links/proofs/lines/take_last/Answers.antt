use Rattle.std.proofs.Common.{[], sym, ◌∙◌}
use Rattle.cg_links.proofs.TakenLemmas.{last_some, refuses_first, goes_last}
use Rattle.cg_links.proofs.lines.take_last.Goals as goal

pub returns-in-Ok : goal.returns-in-Ok
returns-in-Ok g c = rw (last_some c.args.line.now (sym c.is_empty.ensures ∙ c.if-is_empty.false)) (goes_last _ _ _ c.in-Ok.field-0 _ _ _ c.in-Ok.ensures)

pub returns-in-Err : goal.returns-in-Err
returns-in-Err g c = rw (last_some c.args.line.now (sym c.is_empty.ensures ∙ c.if-is_empty.false)) (refuses_first _ _ _ _ _ [] _ c.in-Err.ensures)

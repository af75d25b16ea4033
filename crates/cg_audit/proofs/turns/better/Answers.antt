use Rattle.std.proofs.Common.{cond, Some, sym, ap, ◌∙◌}
use Rattle.cg_audit.proofs.turns.better.Goals as goal

pub returns-then-is_better : goal.returns-then-is_better
returns-then-is_better c = ap (λ b. cond b (Some c.args.place) c.args.chosen) (sym c.if-is_better.true ∙ c.is_better.ensures)

pub returns-else-is_better : goal.returns-else-is_better
returns-else-is_better c = ap (λ b. cond b (Some c.args.place) c.args.chosen) (sym c.if-is_better.false ∙ c.is_better.ensures)

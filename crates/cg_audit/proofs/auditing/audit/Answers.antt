use Rattle.std.proofs.Common.{◌≡◌, sym, ◌∙◌}
use Rattle.cg_audit.proofs.AuditLemmas.{audited, they_are_folded, they_are_whole, they_fall, they_rise}
use Rattle.cg_audit.proofs.auditing.audit.Goals as goal

pub returns-then-not-all_rise : goal.returns-then-not-all_rise
returns-then-not-all_rise c = they_fall c.args.lives.now (sym c.all_rise.ensures ∙ c.if-not-all_rise.true)

pub returns-then-not-are_whole : goal.returns-then-not-are_whole
returns-then-not-are_whole c = (
  they_rise c.args.lives.now (sym c.all_rise.ensures ∙ c.if-not-all_rise.false),
  they_are_folded c.args.lives.now (sym c.are_whole.ensures ∙ c.if-not-are_whole.true),
)

pub returns : goal.returns
returns c =
    audited c.args.lives.now c.show_all.ensures (they_rise c.args.lives.now (sym c.all_rise.ensures ∙ c.if-not-all_rise.false))
    (they_are_whole c.args.lives.now (sym c.are_whole.ensures ∙ c.if-not-are_whole.false))
    c.orders_are_runs.ensures c.stuck_lives_are_no_run.ensures c.heads_can_not_go.ensures c.by_turns.result c.by_turns.ensures

use Rattle.std.proofs.Common.{sym, ◌∙◌}
use Rattle.cg_world.proofs.ActingLemmas.{acted}
use Rattle.cg_world.proofs.exchanges.act.Goals as goal

pub returns-clause-ok : goal.returns-clause-ok
returns-clause-ok c =
    acted c.args.world.now c.act-answer.new.self c.args.action.now c.act-answer.result (sym c.is_out_of_memory.ensures ∙ c.if-is_out_of_memory.false) c.act-answer.ensures.shown c.act-answer.ensures.done c.act-answer.ensures.err

use Rattle.std.proofs.Common.{◌∙◌, ◌+◌}
use Rattle.cg_types.proofs.RowLemmas.{before_row, after_row, before_gap, after_gap, rest_from}
use Rattle.cg_types.proofs.rows.around.Goals as goal

pub returns-in-Ok-clause-before : goal.returns-in-Ok-clause-before
returns-in-Ok-clause-before g c = before_row c.args.endpoint c.args.rows.now c.in-Ok.at c.requires c.in-Ok.ensures.found

pub returns-in-Ok-clause-after : goal.returns-in-Ok-clause-after
returns-in-Ok-clause-after g c = rest_from c.args.rows.now (c.in-Ok.at + 1) ∙ after_row c.args.endpoint c.args.rows.now c.in-Ok.at c.requires c.in-Ok.ensures.found

pub returns-in-Err-clause-before : goal.returns-in-Err-clause-before
returns-in-Err-clause-before g c = before_gap c.args.endpoint c.args.rows.now c.in-Err.at c.in-Err.ensures.absent

pub returns-in-Err-clause-after : goal.returns-in-Err-clause-after
returns-in-Err-clause-after g c = rest_from c.args.rows.now c.in-Err.at ∙ after_gap c.args.endpoint c.args.rows.now c.in-Err.at c.in-Err.ensures.absent

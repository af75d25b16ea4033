use Rattle.std.proofs.Common.{◌∙◌, ◌+◌, sym}
use Rattle.cg_types.proofs.RowLemmas.{before_row, after_row, before_gap, after_gap, rest_from, find_in_gap}
use Rattle.cg_silence.proofs.ChunkLemmas.{found_row}
use Rattle.cg_silence.proofs.rows.around.Goals as goal

pub returns-in-Ok-clause-before : goal.returns-in-Ok-clause-before
returns-in-Ok-clause-before c = before_row c.args.endpoint c.args.rows.now c.in-Ok.at c.requires c.in-Ok.ensures.found

pub returns-in-Ok-clause-held : goal.returns-in-Ok-clause-held
returns-in-Ok-clause-held c = found_row c.args.endpoint c.args.rows.now c.in-Ok.at c.index-rows-at.result c.window.result.now c.requires c.in-Ok.ensures.found c.index-rows-at.is c.window.ensures

pub returns-in-Ok-clause-after : goal.returns-in-Ok-clause-after
returns-in-Ok-clause-after c = rest_from c.args.rows.now (c.in-Ok.at + 1) ∙ after_row c.args.endpoint c.args.rows.now c.in-Ok.at c.requires c.in-Ok.ensures.found

pub returns-in-Err-clause-before : goal.returns-in-Err-clause-before
returns-in-Err-clause-before c = before_gap c.args.endpoint c.args.rows.now c.in-Err.at c.in-Err.ensures.absent

pub returns-in-Err-clause-held : goal.returns-in-Err-clause-held
returns-in-Err-clause-held c = sym (find_in_gap c.args.endpoint c.args.rows.now c.in-Err.at c.in-Err.ensures.absent)

pub returns-in-Err-clause-after : goal.returns-in-Err-clause-after
returns-in-Err-clause-after c = rest_from c.args.rows.now c.in-Err.at ∙ after_gap c.args.endpoint c.args.rows.now c.in-Err.at c.in-Err.ensures.absent

use Rattle.std.proofs.Common.{sym}
use Rattle.cg_types.proofs.RowLemmas.{find_in_gap}
use Rattle.cg_silence.proofs.ChunkLemmas.{found_row}
use Rattle.cg_silence.proofs.rows.window_of.Goals as goal

pub returns-in-Ok : goal.returns-in-Ok
returns-in-Ok c = found_row c.args.endpoint c.args.rows.now c.in-Ok.at c.index-rows-at.result c.window.result.now c.requires c.in-Ok.ensures.found c.index-rows-at.is c.window.ensures

pub returns-in-Err : goal.returns-in-Err
returns-in-Err c = sym (find_in_gap c.args.endpoint c.args.rows.now c.in-Err.field-0 c.in-Err.ensures.absent)

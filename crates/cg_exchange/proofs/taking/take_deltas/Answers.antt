use Rattle.std.proofs.Common.{◌∙◌, sym}
use Rattle.cg_exchange.proofs.TakingLemmas.{taken_at_once, rows_rise, rows_fit}
use Rattle.cg_exchange.proofs.taking.take_deltas.Goals as goal

pub put_rows-requires-clause-rise : goal.put_rows-requires-clause-rise
put_rows-requires-clause-rise c = rw c.in_ok-rows.ensures.rows (rows_rise c.args.table.now c.args.deltas.now c.requires.rise)

pub put_rows-requires-clause-room : goal.put_rows-requires-clause-room
put_rows-requires-clause-room c = rw c.in_ok-rows.ensures.rows (rows_fit c.args.table.now c.args.deltas.now c.requires.room)

pub returns-clause-after : goal.returns-clause-after
returns-clause-after c = rw (c.in_ok-put_rows.ensures, c.in_ok-rows.ensures.rows) (sym (taken_at_once c.args.table.now c.args.deltas.now c.requires.rise).after)

pub returns-clause-outcomes : goal.returns-clause-outcomes
returns-clause-outcomes c = c.in_ok-rows.ensures.outcomes ∙ sym (taken_at_once c.args.table.now c.args.deltas.now c.requires.rise).outcomes

use Rattle.std.proofs.Common.{◌≡◌, ◌<◌, length, sym, ap, arith}
use Rattle.cg_audit.proofs.CursorLemmas.{left_past}
use Rattle.cg_audit.proofs.cursor.settled.Goals as goal

pub returns-in-Some-clause-same : goal.returns-in-Some-clause-same
returns-in-Some-clause-same c = λ e.
    let past : length c.in-Some.history.now.records < c.args.cursor.number = omega (arith, ap length c.records.ensures.value, c.if-cursor-records.true) in
    left_past e c.args.histories.now c.args.cursor c.in-Some.history.now (sym c.in-Some.ensures) past

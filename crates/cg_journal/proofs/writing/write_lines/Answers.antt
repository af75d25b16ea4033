use Rattle.std.proofs.Common.{[], ◌∷◌}
use Rattle.cg_journal.specs.Text.{life_line, event_lines}
use Rattle.cg_journal.proofs.WrittenLemmas.{all_on, fails_wider}
use Rattle.cg_journal.proofs.writing.write_lines.Goals as goal

pub returns-in-Err : goal.returns-in-Err
returns-in-Err g c =
    fails_wider _ _ _ _ (life_line c.args.history.now.base ∷ []) (event_lines c.args.history.now.records) _ (rw c.base.ensures.value at c.in-Err.ensures)

pub returns : goal.returns
returns g c =
    all_on _ _ _ _ _ _ (life_line c.args.history.now.base ∷ []) (event_lines c.args.history.now.records) c.write_events.result
    (rw c.base.ensures.value at c.in-Ok.ensures) (rw c.records.ensures.value at c.write_events.ensures)

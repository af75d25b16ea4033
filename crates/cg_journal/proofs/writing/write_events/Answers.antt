use Rattle.std.proofs.Common.{◌≡◌, ◌+◌, ◌++◌, [], ◌∷◌, ap, sym, ◌∙◌, take}
use Rattle.std.proofs.lemmas.List.{take_more}
use Rattle.cg_history.specs.declared.item.Item.{Item}
use Rattle.cg_journal.proofs.WrittenLemmas.{writes_none, events_kept, events_fail, events_all}
use Rattle.cg_journal.proofs.writing.write_events.Goals as goal

pub loop-record-init : goal.loop-record-init
loop-record-init g c = writes_none _ _

pub returns-in-Err : goal.returns-in-Err
returns-in-Err g c =
    let at = c.loop-record.record-index in
    let records = c.args.records.now in
    let record_at = c.record-item.result in
    let more : take (at + 1) records ≡ take at records ++ record_at ∷ [] =
    take_more records at record_at c.loop-record-test.true ∙ ap (λ (r : Item). take at records ++ r ∷ []) (sym c.record-item.is) in
    events_fail _ _ _ _ _ _ records at record_at _ more c.loop-record.invariant c.in-Err.ensures

pub loop-record-preserved : goal.loop-record-preserved
loop-record-preserved g c =
    let at = c.loop-record.record-index in
    let records = c.args.records.now in
    let record_at = c.record-item.result in
    let more : take (at + 1) records ≡ take at records ++ record_at ∷ [] =
    take_more records at record_at c.loop-record-test.true ∙ ap (λ (r : Item). take at records ++ r ∷ []) (sym c.record-item.is) in
    events_kept _ _ _ _ _ _ records at record_at more c.loop-record.invariant c.in-Ok.ensures

pub returns : goal.returns
returns g c = events_all _ _ _ _ c.args.records.now c.loop-record.record-index c.loop-record-test.false c.loop-record.invariant

use Rattle.std.proofs.Common.{refl}
use Rattle.cg_journal.proofs.WrittenLemmas.{flushed_all, flush_failed}
use Rattle.cg_journal.proofs.writing.write_whole.Goals as goal

pub returns-in-Ok-flush-clause-written : goal.returns-in-Ok-flush-clause-written
returns-in-Ok-flush-clause-written g c =
    flushed_all _ _ _ _ c.write_lines.new.writer _ _ c.in-Ok.ensures c.flush.ensures.bytes c.in-Ok-flush.ensures.counts

pub returns-in-Err-flush-clause-written : goal.returns-in-Err-flush-clause-written
returns-in-Err-flush-clause-written g c =
    flush_failed _ _ _ _ c.write_lines.new.writer _ _ _ c.in-Ok.ensures c.flush.ensures.bytes c.in-Err-flush.ensures.counts refl

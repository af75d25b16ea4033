use Rattle.std.proofs.Common.{map, string_bytes}
use Rattle.cg_journal.proofs.LineLemmas.{not_flushed}
use Rattle.cg_journal.proofs.line.EventLine.write_and_flush.Goals as goal

pub returns-in-Err-flush-clause-front : goal.returns-in-Err-flush-clause-front
returns-in-Err-flush-clause-front g c =
    not_flushed _ _ _ _ _ (map (λ s. string_bytes s) c.self.inside.pieces.items) c.args.self.now c.self.view_is (rw c.deref.ensures.value at c.in-Ok.ensures) c.flush.ensures.bytes

use Rattle.std.proofs.Common.{map, string_bytes}
use Rattle.cg_journal.proofs.LineLemmas.{line_of_pieces}
use Rattle.cg_journal.proofs.line.EventLine.write.Goals as goal

pub returns : goal.returns
returns g c = line_of_pieces _ _ _ _ (map (λ s. string_bytes s) c.self.inside.pieces.items) c.args.self.now c.self.view_is c.write_pieces.result (rw c.deref.ensures.value at c.write_pieces.ensures)

use Rattle.cg_journal.proofs.WrittenLemmas.{line_writes}
use Rattle.cg_journal.proofs.writing.write_line.Goals as goal

pub returns : goal.returns
returns g c =
    line_writes _ _ _ _ c.args.line.now c.write_bytes.result c.write_bytes.ensures.ok c.write_bytes.ensures.kept c.write_bytes.ensures.front c.write_bytes.ensures.fault
    c.write_bytes.ensures.caused

use Rattle.std.proofs.Common.{[], sym, append-nil}
use Rattle.cg_links.proofs.Fronts.{front_kept}
use Rattle.cg_links.proofs.transfer.write_and_flush.Goals as goal

pub returns-in-Err-flush-clause-front : goal.returns-in-Err-flush-clause-front
returns-in-Err-flush-clause-front g c =
    front_kept _ _ _ c.args.bytes.now c.args.bytes.now [] (sym (append-nil c.args.bytes.now)) c.in-Ok.ensures.ok c.flush.ensures.bytes

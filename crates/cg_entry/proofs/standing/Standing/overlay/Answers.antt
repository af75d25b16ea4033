use Rattle.cg_entry.proofs.PutLemmas.{overlay_none}
use Rattle.cg_entry.proofs.standing.Standing.overlay.Goals as goal

pub returns-then-is_empty : goal.returns-then-is_empty
returns-then-is_empty c = rw (c.is_empty.ensures.0 c.if-is_empty.true, overlay_none c.args.self.now) c.copy.ensures

use Rattle.cg_frames.proofs.KnownLemmas.{deltas_known}
use Rattle.cg_frames.proofs.bodies.listed_deltas_of.Goals as goal

pub deltas_of-requires-clause-known : goal.deltas_of-requires-clause-known
deltas_of-requires-clause-known c is = deltas_known c.args.layout.now c.args.reader.now c.in_ok-count.count c.count.new.self c.in_ok-count.ensures (c.requires.known is)

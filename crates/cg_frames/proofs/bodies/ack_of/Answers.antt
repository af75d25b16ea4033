use Rattle.cg_types.proofs.RisingLemmas.{both}
use Rattle.cg_frames.proofs.ReadIsSpelledParts.{requests_listed, deltas_listed}
use Rattle.cg_frames.proofs.KnownLemmas.{ack_known}
use Rattle.cg_frames.proofs.bodies.ack_of.Goals as goal

pub unreachable-requires : goal.unreachable-requires
unreachable-requires c =
    let asked = requests_listed c.args.layout.now c.args.reader.now c.in_ok-requests.requests.items c.listed_requests_of.new.reader c.requires.layout.members c.in_ok-requests.ensures in
    let sent = deltas_listed c.args.layout.now c.listed_requests_of.new.reader c.in_ok-deltas.deltas.items c.listed_deltas_of.new.reader c.requires.layout.members c.in_ok-deltas.ensures in
    let ok = both _ _ asked sent in
    let refused = c.in-None.ensures.when in cc

pub listed_deltas_of-requires-clause-known : goal.listed_deltas_of-requires-clause-known
listed_deltas_of-requires-clause-known c is = ack_known c.args.layout.now c.args.reader.now c.in_ok-requests.requests.items c.listed_requests_of.new.reader c.in_ok-requests.ensures (c.requires.known is)

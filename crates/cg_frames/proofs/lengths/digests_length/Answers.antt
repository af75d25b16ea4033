use Rattle.std.proofs.Common.{arith}
use Rattle.cg_frames.specs.Spelling.{digest}
use Rattle.cg_frames.proofs.LengthLemmas.{length-members, length-digests}
use Rattle.cg_frames.proofs.lengths.digests_length.Goals as goal

pub returns : goal.returns
returns c = omega (arith, length-members digest c.args.digests.now, length-digests c.args.digests.now)

use Rattle.std.proofs.Common.{arith}
use Rattle.cg_frames.specs.Spelling.{request}
use Rattle.cg_frames.proofs.LengthLemmas.{length-members, length-requests}
use Rattle.cg_frames.proofs.lengths.requests_length.Goals as goal

pub returns : goal.returns
returns c = omega (arith, length-members request c.args.requests.now, length-requests c.args.requests.now)

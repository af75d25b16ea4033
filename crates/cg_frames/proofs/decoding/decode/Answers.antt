use Rattle.std.proofs.Common.{arith}
use Rattle.cg_frames.specs.declared.layout.TheConstants.{LAYOUTS}
use Rattle.cg_frames.proofs.ReadIsSpelledFrames.{all_found}
use Rattle.cg_frames.proofs.FaultLemmas.{refusal_is_bad}
use Rattle.cg_frames.proofs.LawLemmas.{each_spelled_is_read, layouts_are, layouts_are_read}
use Rattle.cg_frames.proofs.decoding.decode.Goals as goal

pub returns-clause-found : goal.returns-clause-found
returns-clause-found c = all_found LAYOUTS layouts_are_read c.args.bytes.now c.decode_among.result (λ i. omega (arith, c.type_inv.bytes i)) c.decode_among.ensures.exact

pub returns-clause-only : goal.returns-clause-only
returns-clause-only c = each_spelled_is_read LAYOUTS layouts_are.each c.args.bytes.now c.decode_among.result c.decode_among.ensures.exact

pub returns-clause-faults : goal.returns-clause-faults
returns-clause-faults c = refusal_is_bad LAYOUTS c.args.bytes.now c.decode_among.result c.decode_among.ensures.exact

use Rattle.std.proofs.Common.{refl}
use Rattle.cg_types.proofs.PlainLemmas.{not_plain}
use Rattle.cg_frames.proofs.reader.Reader.plain.Goals as goal

pub returns-in_default-clause-value : goal.returns-in_default-clause-value
returns-in_default-clause-value c = rw (c.in_ok-front.ensures.value, not_plain c.in_ok-front.front.now c.in_default.ensures.cases.0, c.left-left.ensures) refl

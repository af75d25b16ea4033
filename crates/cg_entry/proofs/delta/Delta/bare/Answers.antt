use Rattle.std.proofs.Common.{refl, arith}
use Rattle.cg_entry.proofs.DeltaLemmas.{bare_is_delta, nothing_listed}
use Rattle.cg_entry.proofs.delta.Delta.bare.Goals as goal

pub of_parts-requires-clause-valid : goal.of_parts-requires-clause-valid
of_parts-requires-clause-valid c = rw (c.none.ensures) (bare_is_delta c.args.above c.args.heartbeat (omega arith))

pub returns-clause-value : goal.returns-clause-value
returns-clause-value c = rw (c.of_parts.ensures, c.none.ensures, nothing_listed) refl

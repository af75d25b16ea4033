use Rattle.std.proofs.Common.{arith, ap, length}
use Rattle.std.specs.FinMap as map
use Rattle.cg_entry.proofs.HeldLemmas.{covered_all}
use Rattle.cg_entry.proofs.standing.Standing.is_covered.Goals as goal

pub returns : goal.returns
returns c = λ _.
    covered_all c.args.self.now c.args.newer.now c.loop-place.place c.loop-place.invariant
    (omega (arith, c.loop-place-test.false, c.len-place-end.ensures, ap length c.by_key-states.ensures, map.len-entries c.args.self.now))
